-- What a sync of a disk in memory leaves to a crash.
use Rattle.std.proofs.Common.{◌≡◌, List, ◌∷◌, Result, Ok, Err, subst, sym}
use Rattle.std.specs.Prelude.{OnOk, OnErr}
use Rattle.device.specs.declared.Failed.{Failed}
use Rattle.device.specs.Disk.{NoNewPage, NoNewLog}
use Rattle.device_mem.specs.declared.call.Call.{Call}
use Rattle.device_mem.specs.declared.call.Call.TheVariants.{SyncPages, SyncLog}
use Rattle.device_mem.specs.Calls.{may_hold_of, may_log_of}
use Rattle.device_mem.specs.CallLaws.{reads_page_of, reads_log_of}

-- what holds of the list as it was and with one call more holds after a call that may have failed
stepped : {T : Type 0} (r : Result T Failed) (call : Call) (old new : List Call) (P : List Call → Type 0) → OnOk r (new ≡ call ∷ old) → OnErr r (new ≡ old) → P old → P (call ∷ old) → P new
stepped (Ok u) call old new P ok err same more = subst P (sym ok) more
stepped (Err e) call old new P ok err same more = subst P (sym err) same

pub pages_synced : {T : Type 0} (r : Result T Failed) (old new : List Call) → OnOk r (new ≡ SyncPages ∷ old) → OnErr r (new ≡ old)
    → NoNewPage (may_hold_of old) (may_hold_of new) × NoNewLog (may_log_of old) (may_log_of new)
pages_synced r old new ok err =
    stepped r SyncPages old new (λ cs. NoNewPage (may_hold_of old) (may_hold_of cs) × NoNewLog (may_log_of old) (may_log_of cs)) ok err (λ c p x h. h, λ s l h. h)
    (λ c p x h. subst (may_hold_of old c p) (sym h) (reads_page_of old c p), λ s l h. h)

pub log_synced : {T : Type 0} (r : Result T Failed) (old new : List Call) → OnOk r (new ≡ SyncLog ∷ old) → OnErr r (new ≡ old)
    → NoNewPage (may_hold_of old) (may_hold_of new) × NoNewLog (may_log_of old) (may_log_of new)
log_synced r old new ok err =
    stepped r SyncLog old new (λ cs. NoNewPage (may_hold_of old) (may_hold_of cs) × NoNewLog (may_log_of old) (may_log_of cs)) ok err (λ c p x h. h, λ s l h. h)
    (λ c p x h. h, λ s l h. subst (may_log_of old s) (sym h) (reads_log_of old s))

-- Where each page was written last.
use Rattle.std.specs.Prelude.{ℕ, ◌==◌, if◌then◌else◌, List, [], ◌∷◌, length, Option, Some, None, nat_eq, slice_get}
use Rattle.std.specs.HashMap.{get, HashMap}
use Rattle.device.specs.Disk.{Segments, written_at}
use Rattle.device_mem.specs.declared.call.Call.{Call}
use Rattle.device_mem.specs.declared.call.Call.TheVariants.{WritePage, SyncPages, DropContainer, WriteLog, SyncLog, DropLog}

abbrev pub number_of : {H : Type 0} → Option (HashMap ℕ ℕ H) → ℕ → Option ℕ
number_of None p = None
number_of (Some pages) p = get nat_eq pages p

-- the number of the call that wrote a page of a container last
abbrev pub latest_in : {H G : Type 0} → HashMap ℕ (HashMap ℕ ℕ H) G → ℕ → ℕ → Option ℕ
latest_in m c p = number_of (get nat_eq m c) p

-- the same after one call more, which has the number n
abbrev pub latest_after : Call → ℕ → (ℕ → ℕ → Option ℕ) → ℕ → ℕ → Option ℕ
latest_after (WritePage d q b) n old c p = if d == c then (if q == p then Some n else old c p) else old c p
latest_after SyncPages n old c p = old c p
latest_after (DropContainer d) n old c p = if d == c then None else old c p
latest_after (WriteLog t at b) n old c p = old c p
latest_after SyncLog n old c p = old c p
latest_after (DropLog t) n old c p = old c p

-- and after all calls, the newest first
abbrev pub latest_of : List Call → ℕ → ℕ → Option ℕ
latest_of [] c p = None
latest_of (call ∷ cs) c p = latest_after call (length cs) (latest_of cs) c p

-- the bytes of a call that writes a page
abbrev pub page_in : Option Call → Option (List ℕ)
page_in None = None
page_in (Some (WritePage d q b)) = Some b.bytes.items
page_in (Some SyncPages) = None
page_in (Some (DropContainer d)) = None
page_in (Some (WriteLog t at b)) = None
page_in (Some SyncLog) = None
page_in (Some (DropLog t)) = None

-- the page that the call with a number wrote, of the calls from the oldest on
abbrev pub page_at : List Call → Option ℕ → Option (List ℕ)
page_at calls None = None
page_at calls (Some n) = page_in (slice_get calls n)

-- the log after one call more
abbrev pub log_after : Call → Segments → Segments
log_after (WritePage d q b) old s = old s
log_after SyncPages old s = old s
log_after (DropContainer d) old s = old s
log_after (WriteLog t at b) old s = if t == s then written_at (old s) at b.items else old s
log_after SyncLog old s = old s
log_after (DropLog t) old s = if t == s then [] else old s

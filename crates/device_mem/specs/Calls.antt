-- A disk in memory, as the calls that changed it, the newest first.
use Rattle.std.specs.Prelude.{◌≡◌, ◌⊎◌, ℕ, ◌≤◌, ◌==◌, if◌then◌else◌, List, [], ◌∷◌, length, Option, Some, None}
use Rattle.device.specs.Disk.{Image, IsImage, Torn, written_at}
use Rattle.device_mem.specs.declared.call.Call.{Call}
use Rattle.device_mem.specs.declared.call.Call.TheVariants.{WritePage, SyncPages, DropContainer, WriteLog, SyncLog, DropLog}

-- the page that was written last, unless its container was dropped since
abbrev pub page_of : List Call → ℕ → ℕ → Option (List ℕ)
page_of [] c p = None
page_of (WritePage d q b ∷ cs) c p = if d == c then (if q == p then Some b.bytes.items else page_of cs c p) else page_of cs c p
page_of (SyncPages ∷ cs) c p = page_of cs c p
page_of (DropContainer d ∷ cs) c p = if d == c then None else page_of cs c p
page_of (WriteLog t at b ∷ cs) c p = page_of cs c p
page_of (SyncLog ∷ cs) c p = page_of cs c p
page_of (DropLog t ∷ cs) c p = page_of cs c p

-- the bytes of a segment, written one over the other
abbrev pub log_of : List Call → ℕ → List ℕ
log_of [] s = []
log_of (WritePage d q b ∷ cs) s = log_of cs s
log_of (SyncPages ∷ cs) s = log_of cs s
log_of (DropContainer d ∷ cs) s = log_of cs s
log_of (WriteLog t at b ∷ cs) s = if t == s then written_at (log_of cs s) at b.items else log_of cs s
log_of (SyncLog ∷ cs) s = log_of cs s
log_of (DropLog t ∷ cs) s = if t == s then [] else log_of cs s

-- each write of a page since the last sync of pages may be lost or kept, each drop done or not
abbrev pub may_hold_of : List Call → ℕ → ℕ → Option (List ℕ) → Type 0
may_hold_of [] c p x = x ≡ None
may_hold_of (WritePage d q b ∷ cs) c p x = may_hold_of cs c p x ⊎ ((c ≡ d) × (p ≡ q) × (x ≡ Some b.bytes.items))
may_hold_of (SyncPages ∷ cs) c p x = x ≡ page_of cs c p
may_hold_of (DropContainer d ∷ cs) c p x = may_hold_of cs c p x ⊎ ((c ≡ d) × (x ≡ None))
may_hold_of (WriteLog t at b ∷ cs) c p x = may_hold_of cs c p x
may_hold_of (SyncLog ∷ cs) c p x = may_hold_of cs c p x
may_hold_of (DropLog t ∷ cs) c p x = may_hold_of cs c p x

-- each write of the log since the last sync of it may have left anything in its place, each drop may be done or not
abbrev pub may_log_of : List Call → ℕ → List ℕ → Type 0
may_log_of [] s l = l ≡ []
may_log_of (WritePage d q b ∷ cs) s l = may_log_of cs s l
may_log_of (SyncPages ∷ cs) s l = may_log_of cs s l
may_log_of (DropContainer d ∷ cs) s l = may_log_of cs s l
may_log_of (WriteLog t at b ∷ cs) s l = may_log_of cs s l ⊎ ((s ≡ t) × ((d : List ℕ) × (may_log_of cs t d × Torn at (length b.items) d l)))
may_log_of (SyncLog ∷ cs) s l = l ≡ log_of cs s
may_log_of (DropLog t ∷ cs) s l = may_log_of cs s l ⊎ ((s ≡ t) × (l ≡ []))

abbrev pub image_of : List Call → Image → Type 0
image_of cs i = IsImage (may_hold_of cs) (may_log_of cs) i

-- now, or after some of the calls before, of which at least t had been made
abbrev pub left_of : List Call → ℕ → Image → Type 0
left_of [] t i = image_of [] i
left_of (c ∷ cs) t i = image_of (c ∷ cs) i ⊎ ((t ≤ length cs) × left_of cs t i)

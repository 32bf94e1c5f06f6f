-- What the images of a disk in memory hold.
use Rattle.std.specs.Prelude.{◌≡◌, ℕ, ◌-◌, ◌≤◌, ◌<◌, ◌==◌, if◌then◌else◌, Bool, true, false, not, List, [], ◌∷◌, ◌++◌, length, drop, Some, None, All, Any}
use Rattle.device.specs.Disk.{Image, Pages, Segments, OnlyPages, OnlyLog}
use Rattle.device_mem.specs.declared.call.Call.{Call}
use Rattle.device_mem.specs.declared.call.Call.TheVariants.{WritePage, SyncPages, DropContainer, WriteLog, SyncLog, DropLog}
use Rattle.device_mem.specs.declared.disk.MemDisk.{MemDisk}
use Rattle.device_mem.specs.declared.log_left.LogLeft.{LogLeft}
use Rattle.device_mem.specs.declared.log_left.LogLeft.TheVariants.{Lost, Kept, Cut}
use Rattle.device_mem.specs.Calls.{page_of, log_of, may_hold_of, may_log_of, image_of, left_of}
use Rattle.device_mem.specs.Cuts.{cuts_of, log_cut}

-- a call that syncs the pages, or else the log
abbrev pub is_sync : (of_pages : Bool) → Call → Bool
is_sync of_pages (WritePage d q b) = false
is_sync of_pages SyncPages = of_pages
is_sync of_pages (DropContainer d) = false
is_sync of_pages (WriteLog t at b) = false
is_sync of_pages SyncLog = not of_pages
is_sync of_pages (DropLog t) = false

-- the calls before the last such sync; none where there was none
abbrev pub synced : (of_pages : Bool) → List Call → List Call
synced of_pages [] = []
synced of_pages (c ∷ cs) = if is_sync of_pages c then cs else synced of_pages cs

-- the calls that a crash leaves done which keeps all that wasn't synced, or loses all of it
abbrev pub surviving : (of_pages is_kept : Bool) → List Call → List Call
surviving of_pages true cs = cs
surviving of_pages false cs = synced of_pages cs

-- the calls up to a moment
abbrev pub calls_at : ℕ → List Call → List Call
calls_at m cs = drop (length cs - m) cs

-- what a disk holds, by its calls
abbrev pub held_by : List Call → Image
held_by calls = record { pages = page_of calls; log = log_of calls }

-- the log as a crash left it after these calls
abbrev pub log_left : LogLeft → List Call → Segments
log_left Lost cs = log_of (synced false cs)
log_left Kept cs = log_of cs
log_left (Cut n) cs = log_cut n cs

-- a disk as a crash left it after these calls, with the pages that weren't synced kept or lost, and so much of the log
pub record Holds (keeps_pages : Bool) (left : LogLeft) (calls : List Call) (disk : List Call) : Type 0 where
  pub pages_are : (c p : ℕ) → page_of disk c p ≡ page_of (surviving true keeps_pages calls) c p
  pub log_is : (s : ℕ) → log_of disk s ≡ log_left left calls s

-- of this disk a crash leaves what it holds
abbrev pub IsDurable : List Call → Type 0
IsDurable disk = OnlyPages (page_of disk) (may_hold_of disk) × OnlyLog (log_of disk) (may_log_of disk)

-- a disk that has not failed yet, and fails at no call but for want of memory
abbrev pub IsWell : MemDisk → Type 0
IsWell d = (d.gauge.faults ≡ 0) × (d.gauge.fuse ≡ None) × (d.gauge.failing.listed.items ≡ [])

-- the pages after one call more
abbrev pub page_after : Call → Pages → Pages
page_after (WritePage d q b) old c p = if d == c then (if q == p then Some b.bytes.items else old c p) else old c p
page_after SyncPages old c p = old c p
page_after (DropContainer d) old c p = if d == c then None else old c p
page_after (WriteLog t at b) old c p = old c p
page_after SyncLog old c p = old c p
page_after (DropLog t) old c p = old c p

-- a disk that a crash now may have left
pub record IsCrashed (calls : List Call) (d : MemDisk) : Type 0 where
  pub possible : image_of calls (held_by d.calls)
  pub durable : IsDurable d.calls
  pub well : IsWell d

-- the last write of the log is cut, at a byte below this one
abbrev pub IsBelow : ℕ → LogLeft → Type 0
IsBelow count Lost = ⊥
IsBelow count Kept = ⊥
IsBelow count (Cut n) = n < count

-- what is named: the log lost, kept, and with its last write cut at each of its bytes
abbrev pub IsNamed : List Call → LogLeft → Type 0
IsNamed calls Lost = Unit {0}
IsNamed calls Kept = Unit {0}
IsNamed calls (Cut n) = n < cuts_of calls

-- images more in a list of images, among them those that are named
pub record Adds (keeps_pages : Bool) (calls : List Call) (Named : LogLeft → Type 0) (old new : List MemDisk) : Type 0 where
  pub added : List MemDisk
  pub more : new ≡ old ++ added
  pub each : All (IsCrashed calls) added
  pub named : (left : LogLeft) → Named left → Any (λ d. Holds keeps_pages left calls d.calls) added

-- the images of a moment: the pages lost, and kept
pub record AddsMoment (calls : List Call) (old new : List MemDisk) : Type 0 where
  pub half : List MemDisk
  pub lost : Adds false calls (IsNamed calls) old half
  pub kept : Adds true calls (IsNamed calls) half new

-- a disk that a crash since a moment may have left
pub record IsLeft (calls : List Call) (since : ℕ) (d : MemDisk) : Type 0 where
  pub possible : left_of calls since (held_by d.calls)
  pub durable : IsDurable d.calls
  pub well : IsWell d

-- disks that a crash since a moment may have left, among them of each moment before another those that are named
pub record AreLeft (calls : List Call) (since until : ℕ) (images : List MemDisk) : Type 0 where
  pub each : All (IsLeft calls since) images
  pub named : (m : ℕ) → since ≤ m → m < until → (keeps_pages : Bool) (left : LogLeft) → IsNamed (calls_at m calls) left → Any (λ d. Holds keeps_pages left (calls_at m calls) d.calls) images

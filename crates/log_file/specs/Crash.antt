-- What a crash leaves of the log, and what is read of it then.
use Rattle.std.specs.Prelude.{◌≡◌, ◌≤◌, ◌<◌, ◌⊎◌, ℕ, List, [], ◌∷◌, ◌++◌, length, take, Option, Some}
use Rattle.dby_types.specs.declared.number.Lsn.{Lsn}
use Rattle.device.specs.Disk.{Image, Segments, MayHold, MayLog, LeavesOnly}
use Rattle.log_records.specs.Content.{LogRecord}
use Rattle.log_records.specs.Rules.{IsRecord}
use Rattle.log_file.specs.declared.file.LogFile.{LogFile}
use Rattle.log_file.specs.Control.{control_page}
use Rattle.log_file.specs.List.{Bytes, StandsAt, behind, Reads, IsLog}

-- of a segment: all of an earlier one, the forced bytes of the current one, and nothing of a later one
pub record IsLeft (l : LogFile) (log : Segments) (s : ℕ) (b : List ℕ) : Type 0 where
  pub earlier : s < l.segment → b ≡ log s
  pub current : s ≡ l.segment → take l.forced b ≡ take l.forced (log l.segment)
  pub later : l.segment < s → b ≡ []

-- whatever its list is and a crash leaves of it, it is so for the new log too
abbrev pub IsUnmoved : LogFile → LogFile → Type 0
IsUnmoved old new =
    ((log : Segments) (from : Lsn) (rs : List LogRecord) (n : ℕ) → IsLog old log from rs n → IsLog new log from rs n) × ((log : Segments) (s : ℕ) (b : List ℕ) → IsLeft old log s b → IsLeft new log s b)

-- a crash leaves every other segment as before, and of the one with this place every byte in front of it
abbrev pub KeepsBytes : Lsn → MayLog → ℕ → List ℕ → Type 0
KeepsBytes end may_log s b = (d : List ℕ) × (may_log s d × ((s ≡ end.segment → ⊥) → b ≡ d) × (s ≡ end.segment → end.offset ≤ length d → take end.offset b ≡ take end.offset d))

abbrev pub KeepsForced : Lsn → MayLog → MayLog → Type 0
KeepsForced end old new = (s : ℕ) (b : List ℕ) → new s b → KeepsBytes end old s b

-- a page as it might have been left, or the control page with this number and place
abbrev pub OrControl : ℕ → Lsn → MayHold → MayHold
OrControl next point may_hold c p x = may_hold c p x ⊎ ((c ≡ 0) × (p ≡ 0) × (x ≡ Some (control_page next point)))

-- an image with every byte in front of a place, and with such pages
pub record Kept (end : Lsn) (may_log : MayLog) (may_hold : MayHold) (i : Image) : Type 0 where
  pub log_is : (s : ℕ) → KeepsBytes end may_log s (i.log s)
  pub pages_are : (c p : ℕ) → may_hold c p (i.pages c p)

-- a crash after a call, or at any moment of it, leaves every byte in front of a place, and such pages
pub record Crashes {D : Type 0} (moment : D → ℕ) (left_since : D → ℕ → Image → Type 0) (may_log : D → MayLog) (may_hold : D → MayHold) (end : Lsn) (old new : D) (pages : MayHold) : Type 0 where
  pub log_now : KeepsForced end (may_log old) (may_log new)
  pub pages_now : (c p : ℕ) (x : Option (List ℕ)) → may_hold new c p x → pages c p x
  pub moments : LeavesOnly moment left_since old new (Kept end (may_log old) pages)

-- a log of these records from a place on, the first n of them forced, on a disk of which a crash leaves so much
pub record Stands (l : LogFile) (log : Segments) (may_log : MayLog) (from : Lsn) (rs : List LogRecord) (n : ℕ) : Type 0 where
  pub list : IsLog l log from rs n
  pub safe : (s : ℕ) (b : List ℕ) → may_log s b → IsLeft l log s b

-- the list stays, and so does what is forced of it
abbrev pub Stays : (old new : LogFile) (before after : Segments) (may_before may_after : MayLog) → Type 0
Stays old new before after may_before may_after =
    (from : Lsn) (rs : List LogRecord) (n : ℕ) → Stands old before may_before from rs n → Stands new after may_after from rs n

-- the list stays, and all of it is forced
abbrev pub Forces : (old new : LogFile) (before after : Segments) (may_before may_after : MayLog) → Type 0
Forces old new before after may_before may_after =
    (from : Lsn) (rs : List LogRecord) (n : ℕ) → Stands old before may_before from rs n → Stands new after may_after from rs (length rs)

-- the list stays, and no fewer are forced
abbrev pub Holds : (old new : LogFile) (before after : Segments) (may_before may_after : MayLog) → Type 0
Holds old new before after may_before may_after =
    (from : Lsn) (rs : List LogRecord) (n : ℕ) → Stands old before may_before from rs n → (m : ℕ) × (n ≤ m) × Stands new after may_after from rs m

-- the list has these records more at its end, and no fewer are forced
abbrev pub Gains : List LogRecord → (old new : LogFile) (before after : Segments) (may_before may_after : MayLog) → Type 0
Gains added old new before after may_before may_after =
    (from : Lsn) (rs : List LogRecord) (n : ℕ) → Stands old before may_before from rs n → (m : ℕ) × (n ≤ m) × Stands new after may_after from (rs ++ added) m

-- each is a record at its place
abbrev pub AreRecords : Lsn → List LogRecord → Type 0
AreRecords at [] = Unit {0}
AreRecords at (r ∷ rs) = IsRecord at r × AreRecords (behind at r) rs

-- THE PREMISE ON TORN RECORDS: past the forced end, bytes that aren't the record appended there are no record
abbrev pub OnlyAppended : Bytes → Lsn → List LogRecord → Type 0
OnlyAppended b at [] = (x : LogRecord) → StandsAt b at x → ⊥
OnlyAppended b at (r ∷ rs) = ((x : LogRecord) → StandsAt b at x → x ≡ r) × OnlyAppended b (behind at r) rs

-- what is read is a front of the list that has its first n records
abbrev pub ReadsFront : Bytes → Lsn → List LogRecord → ℕ → Type 0
ReadsFront b from rs n = (k : ℕ) × (n ≤ k) × (k ≤ length rs) × Reads b from (take k rs)

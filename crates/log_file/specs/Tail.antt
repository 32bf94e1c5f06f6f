-- The current segment of a log: what is forced on the disk, and what is kept behind it.
use Rattle.std.specs.Prelude.{◌≡◌, ◌≤◌, ℕ, ◌+◌, List, ◌++◌, length, take}
use Rattle.dby_types.specs.declared.number.Lsn.{Lsn}
use Rattle.log_records.specs.Content.{LogRecord}
use Rattle.log_records.specs.Content.LogBody.{next_segment}
use Rattle.log_records.specs.Format.{size_of, stored_record}
use Rattle.log_records.specs.Rules.{IsRecord}
use Rattle.device.specs.Disk.{Segments}
use Rattle.log_file.specs.declared.file.LogFile.{LogFile}

-- the bytes appended since the last force
abbrev pub pending : LogFile → List ℕ
pending l = take l.used l.buffer.items

-- the place behind the last record
abbrev pub end_of : LogFile → Lsn
end_of l = record { segment = l.segment; offset = l.forced + l.used }

-- the disk has the forced bytes
abbrev pub IsOn : LogFile → Segments → Type 0
IsOn l log = l.forced ≤ length (log l.segment)

-- the bytes of the current segment, forced or not
abbrev pub tail : LogFile → Segments → List ℕ
tail l log = take l.forced (log l.segment) ++ pending l

-- the current segment has these bytes more at its end, and no other segment changed
pub record Grows (old new : LogFile) (before after : Segments) (bytes : List ℕ) : Type 0 where
  pub segment_is : new.segment ≡ old.segment
  pub tail_is : tail new after ≡ tail old before ++ bytes
  pub others : (s : ℕ) → (s ≡ old.segment → ⊥) → after s ≡ before s
  pub is_on : IsOn new after

-- the record that names the segment that follows
abbrev pub next_of : ℕ → LogRecord
next_of segment = record { txn = 0; back = record { segment = 0; offset = 0 }; body = next_segment segment }

-- the segment ends with a record that names the one that follows, and no other segment changed
pub record Left (old : LogFile) (r : LogRecord) (before after : Segments) : Type 0 where
  pub record_is : IsRecord (end_of old) r
  pub bytes : take (old.forced + old.used + 44) (after old.segment) ≡ tail old before ++ stored_record (end_of old) r
  pub others : (s : ℕ) → (s ≡ old.segment → ⊥) → after s ≡ before s

-- another segment is begun: the log goes on in it, and nothing of it is forced
pub record IsNext (next : ℕ) (old new : LogFile) : Type 0 where
  pub segment_is : new.segment ≡ next
  pub forced_is : new.forced ≡ 0
  pub used_is : new.used ≡ 0
  pub point_is : new.point ≡ old.point
  pub at_is : new.at ≡ old.at

-- the place where the next segment begins
abbrev pub next_place : LogFile → Lsn
next_place l = record { segment = l.segment + 1; offset = 0 }

-- a record has room in the current segment, with the record that names the next one behind it
abbrev pub FitsSegment : LogFile → LogRecord → Type 0
FitsSegment l r = l.forced + l.used + size_of r + 44 ≤ 16777216

-- a log that answers a failure is as it was, but for the place that is read next
pub record Same (old new : LogFile) : Type 0 where
  pub segment_is : new.segment ≡ old.segment
  pub forced_is : new.forced ≡ old.forced
  pub used_is : new.used ≡ old.used
  pub pending_is : pending new ≡ pending old
  pub point_is : new.point ≡ old.point

-- What an append does. A record that names a segment ends the current one, and the log goes on in the segment that it names; any other is put behind the
-- others, or at the start of the next segment where it has no room. The first argument is the segment that the record names, if it names one.
use Rattle.std.specs.Prelude.{◌≡◌, ◌⊎◌, ◌<◌, ℕ, ◌+◌, ◌-◌, ◌^◌, List, [], ◌∷◌, Option, Some, None}
use Rattle.dby_types.specs.declared.number.Lsn.{Lsn}
use Rattle.device.specs.Counts.{Rises}
use Rattle.device.specs.Disk.{Segments, MayLog}
use Rattle.log_records.specs.Content.{LogRecord}
use Rattle.log_file.specs.declared.file.LogFile.{LogFile}
use Rattle.log_file.specs.declared.answer.LogAnswer.{LogAnswer}
use Rattle.log_file.specs.declared.answer.LogAnswer.TheVariants.{Failed, Full}
use Rattle.log_file.specs.Crash.{Gains}
use Rattle.log_file.specs.List.{behind, forced_of}
use Rattle.log_file.specs.Tail.{FitsSegment, end_of, next_of, next_place}

-- a new segment is needed
abbrev pub NeedsSegment : Option ℕ → LogFile → LogRecord → Type 0
NeedsSegment (Some s) l r = Unit {0}
NeedsSegment None l r = FitsSegment l r → ⊥

-- and this is its number
abbrev pub number_by : Option ℕ → LogFile → ℕ
number_by (Some s) l = s
number_by None l = l.segment + 1

-- the place of the record
abbrev pub PutAt : Option ℕ → LogFile → LogRecord → Lsn → Type 0
PutAt (Some s) l r at = at ≡ end_of l
PutAt None l r at = (FitsSegment l r → at ≡ end_of l) × ((FitsSegment l r → ⊥) → at ≡ next_place l)

-- the list has the record more, and in front of it one that names the next segment where the record has no room in this one
abbrev pub Appends : Option ℕ → LogRecord → (old new : LogFile) (before after : Segments) (may_before may_after : MayLog) → Type 0
Appends (Some s) r old new before after may_before may_after = Gains (r ∷ []) old new before after may_before may_after
Appends None r old new before after may_before may_after =
    (FitsSegment old r → Gains (r ∷ []) old new before after may_before may_after)
    × ((FitsSegment old r → ⊥) → Gains (next_of (old.segment + 1) ∷ r ∷ []) old new before after may_before may_after)

-- what a crash within the call may leave behind the list: the record that ends the segment
abbrev pub beyond : Option ℕ → LogFile → LogRecord → List LogRecord
beyond (Some s) l r = r ∷ []
beyond None l r = next_of (l.segment + 1) ∷ []

-- the log ends behind the record; the place of the checkpoint and the one that is read next stay
pub record EndsWith (old new : LogFile) (at : Lsn) (r : LogRecord) : Type 0 where
  pub end_is : end_of new ≡ behind at r
  pub point_is : new.point ≡ old.point
  pub at_is : new.at ≡ old.at

-- what is forced then: all in front of a new segment; without one what was, or all but the record where others had to be forced to make room for it
abbrev pub ForcedTo : Option ℕ → LogFile → LogRecord → Lsn → Type 0
ForcedTo (Some s) old r at = at ≡ record { segment = s; offset = 0 }
ForcedTo None old r at = (FitsSegment old r → (at ≡ forced_of old) ⊎ (at ≡ end_of old)) × ((FitsSegment old r → ⊥) → at ≡ next_place old)

-- an append fails only where the disk's count rose; it is full exactly where a new segment is needed and its number would be the greatest
abbrev pub HasAnswer : Option ℕ → LogFile → LogRecord → ℕ → ℕ → LogAnswer → Type 0
HasAnswer o l r before now Failed = Rises before now × (NeedsSegment o l r → number_by o l < 2 ^ 32 - 1)
HasAnswer o l r before now (Full segment) = (segment ≡ 2 ^ 32 - 1) × (number_by o l ≡ segment) × NeedsSegment o l r

-- and otherwise it gives the record a place
abbrev pub HasPlace : Option ℕ → LogFile → LogRecord → ℕ → ℕ → Type 0
HasPlace o l r before now = (now ≡ before) × (NeedsSegment o l r → number_by o l < 2 ^ 32 - 1)

-- Bytes that are the parts of a record, and what tells them.
use Rattle.std.specs.Prelude.{◌≡◌, ◌≤◌, ◌<◌, ℕ, ◌+◌, ◌-◌, ◌*◌, ◌^◌, List, length, take, drop, Option, MatchOption}
use Rattle.dby_bytes.specs.Numbers.{number_at}
use Rattle.dby_types.specs.declared.number.Lsn.{Lsn}
use Rattle.log_records.specs.declared.record.Base.{Base}
use Rattle.log_records.specs.declared.record.Body.{Body}
use Rattle.log_records.specs.Content.{LogBase, LogBody}
use Rattle.log_records.specs.Fields.{Fit, field_bytes}
use Rattle.log_records.specs.Format.{base_kind, base_fields, kind_of, body_fields}
use Rattle.log_records.specs.Rules.{IsBase, IsBody, IsContainer, IsBack, IsOpen, IsPageImage, BodyFits}
use Rattle.log_records.specs.Sum.{sum_of}
use Rattle.log_records.specs.View.{base_of, body_of}

-- the bytes are those of a change of this kind
pub record IsBaseOf (kind : ℕ) (b : List ℕ) (x : LogBase) : Type 0 where
  pub kind_is : kind ≡ base_kind x
  pub rules : IsBase x
  pub fits : Fit (base_fields x)
  pub bytes : b ≡ field_bytes (base_fields x)

-- the change that bytes are; none exactly where they are none
abbrev pub ReadsBase : ℕ → List ℕ → Option Base → Type 0
ReadsBase kind b result = MatchOption result ((x : LogBase) → IsBaseOf kind b x → ⊥) (λ r. IsBaseOf kind b (base_of r))

-- the bytes are those of a body of this kind, at a record's place
pub record IsBodyOf (at : Lsn) (kind : ℕ) (b : List ℕ) (x : LogBody) : Type 0 where
  pub kind_is : kind ≡ kind_of x
  pub rules : IsBody at x
  pub fits : BodyFits x
  pub bytes : b ≡ field_bytes (body_fields x)

-- the body that bytes are; none exactly where they are none
abbrev pub ReadsBody : Lsn → ℕ → List ℕ → Option Body → Type 0
ReadsBody at kind b result = MatchOption result ((x : LogBody) → IsBodyOf at kind b x → ⊥) (λ r. IsBodyOf at kind b (body_of r))

-- what tells the body of a heap change: container, flags, and the length of both texts
abbrev pub IsHeapText : List ℕ → Type 0
IsHeapText b =
    (14 ≤ length b) × (length b ≡ 14 + 2 * number_at 2 b 12) × IsContainer (number_at 4 b 0) × (number_at 1 b 10 < 4) × (number_at 1 b 11 < 4)

-- what tells the body of an entry change
abbrev pub IsEntryText : List ℕ → Type 0
IsEntryText b =
    (13 ≤ length b) × (length b ≡ 13 + 2 * number_at 2 b 11) × IsContainer (number_at 4 b 0) × (1 ≤ number_at 1 b 10) × (number_at 1 b 10 ≤ 4)

-- what tells the making of a container
abbrev pub IsCreateText : List ℕ → Type 0
IsCreateText b = (length b ≡ 5) × IsContainer (number_at 4 b 0) × (number_at 1 b 4 ≤ 1)

-- what tells a container alone
abbrev pub IsDiscardText : List ℕ → Type 0
IsDiscardText b = (length b ≡ 4) × IsContainer (number_at 4 b 0)

-- the place in two numbers of four bytes
abbrev pub lsn_at : List ℕ → ℕ → Lsn
lsn_at b at = record { segment = number_at 4 b at; offset = number_at 4 b (at + 4) }

-- what tells the front of a compensation
abbrev pub IsCompensationText : Lsn → List ℕ → Type 0
IsCompensationText at b = (9 ≤ length b) × IsBack (lsn_at b 0) at

-- what tells a split
abbrev pub IsSplitText : List ℕ → Type 0
IsSplitText b =
    (5 ≤ length b) × (length b ≡ 5 + 4100 * number_at 1 b 4) × IsContainer (number_at 4 b 0) × ((i : ℕ) → i < number_at 1 b 4 → IsPageImage (drop 5 b) i)

-- what tells a new page
abbrev pub IsGrowText : List ℕ → Type 0
IsGrowText b = (length b ≡ 9) × IsContainer (number_at 4 b 0) × (number_at 1 b 8 ≤ 4)

-- what tells a checkpoint
abbrev pub IsMarkText : Lsn → List ℕ → Type 0
IsMarkText at b =
    (22 ≤ length b) × (length b ≡ 22 + 16 * number_at 2 b 20) × (16 ≤ number_at 4 b 8) × (number_at 4 b 8 ≤ 2 ^ 31) × (1 ≤ number_at 8 b 12) × (number_at 8 b 12 ≤ 2 ^ 62)
    × ((i : ℕ) → i < number_at 2 b 20 → IsOpen at (drop 22 b) i)

-- what tells the number of the segment that follows
abbrev pub IsNextText : Lsn → List ℕ → Type 0
IsNextText at b = (length b ≡ 4) × (at.segment < number_at 4 b 0)

-- what tells a purge
abbrev pub IsPurgeText : List ℕ → Type 0
IsPurgeText b = (length b ≡ 10) × IsContainer (number_at 4 b 0)

-- the place and the zeros of a record
abbrev pub IsFront : Lsn → List ℕ → Type 0
IsFront at b = (number_at 4 b 12 ≡ at.segment) × (number_at 4 b 16 ≡ at.offset) × (number_at 1 b 21 ≡ 0) × (number_at 1 b 22 ≡ 0) × (number_at 1 b 23 ≡ 0)

-- what tells a record of n bytes at a place: its length, its place, its zeros and its sum
pub record IsWhole (at : Lsn) (b : List ℕ) (n : ℕ) : Type 0 where
  pub least : 40 ≤ n
  pub within : n ≤ length b
  pub counted : number_at 4 b 8 ≡ n
  pub front : IsFront at b
  pub sum : number_at 8 b 0 ≡ sum_of (take (n - 8) (drop 8 b))

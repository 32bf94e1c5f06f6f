-- A log read back.
use Rattle.std.specs.Prelude.{◌≡◌, ◌⊎◌, ℕ, min, List, [], ◌∷◌, length, take}
use Rattle.dby_types.specs.declared.number.Lsn.{Lsn}
use Rattle.log_records.specs.Content.{LogRecord}
use Rattle.log_records.specs.Format.{size_of}
use Rattle.log_records.specs.Rules.{Begins}
use Rattle.log_file.specs.declared.file.LogFile.{LogFile}
use Rattle.log_file.specs.List.{Bytes, StandsAt, behind, Reads}

-- the first n bytes of a part are those of the whole, as many as there are up to a bound
abbrev pub IsPart : (whole part : List ℕ) (bound n : ℕ) → Type 0
IsPart whole part bound n = (n ≡ min bound (length whole)) × (take n part ≡ take n whole)

-- the record that bytes begin with, by its size and the place behind it; size 0 where they begin with none
abbrev pub Judges : Lsn → List ℕ → Lsn → ℕ → Type 0
Judges at bytes next n =
    ((n ≡ 0) × (next ≡ at) × ((r : LogRecord) (rest : List ℕ) → Begins at bytes r rest → ⊥))
    ⊎ ((r : LogRecord) × (rest : List ℕ) × (Begins at bytes r rest × (n ≡ size_of r) × (next ≡ behind at r)))

-- the record that was read last
abbrev pub HasRead : LogFile → LogRecord → Type 0
HasRead l r = Begins l.from (take l.found l.window.items) r []

-- what was read at a place is the record that stands there, and reading goes on behind it; or none does, and it stays
pub record Finds (b : Bytes) (at : Lsn) (new : LogFile) : Type 0 where
  pub from_is : new.from ≡ at
  pub found_is : ((r : LogRecord) × (StandsAt b at r × HasRead new r × (new.at ≡ behind at r))) ⊎ ((new.at ≡ at) × ((r : LogRecord) → HasRead new r → ⊥) × ((r : LogRecord) → StandsAt b at r → ⊥))

-- what is read of a list: its first record, and then the rest is to be read; nothing of an empty one
abbrev pub Gives : Bytes → List LogRecord → LogFile → Type 0
Gives b [] new = ((r : LogRecord) → HasRead new r → ⊥) × Reads b new.at []
Gives b (r ∷ rs) new = HasRead new r × Reads b new.at rs

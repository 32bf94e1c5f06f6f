-- The catalog rows of a new table: those of its columns in order, and then its own.
use Rattle.std.specs.Prelude.{◌≡◌, ◌≢◌, ◌+◌, ℕ, List, Option, Some, None, Bool, true, false, ◌&&◌, length, nat_lt, slice_get, Result, Ok, Err, if◌then◌else◌}
use Rattle.std.specs.declared.alloc.AllocError.{AllocError}
use Rattle.dby_types.specs.declared.definition.ColumnDef.{ColumnDef}
use Rattle.dby_types.specs.declared.value.Value.{Value}
use Rattle.journal_model.specs.Catalog.{table_row, column_row}
use Rattle.session_engine.specs.Pacing.{next_of_make, next_of_plan}
use Rattle.session_engine.specs.declared.next.Build.TheVariants.{Lay, List as ToList}
use Rattle.session_engine.specs.declared.next.Work.TheVariants.{Build as ToBuild}
use Rattle.session_engine.specs.declared.listing.Listing.{Listing}
use Rattle.session_engine.specs.declared.session.Make.{Make}
use Rattle.session_engine.specs.declared.session.Plan.TheVariants.{Create}
use Rattle.session_engine.specs.declared.session.Session.{Session}

-- the catalog table of the row that is put next
abbrev pub table_at : ℕ → List ColumnDef → ℕ
table_at done columns = if nat_lt done (length columns) then 2 else 1

-- one more row is put, in the room that was made for it
abbrev pub counted : Make → Make
counted make = record make { done = make.done + 1; has_room = false }

-- room was made for the row, which counts as put from now on
pub record TakesRoom (old new : Make) : Type 0 where
  pub made : old.made ≡ true
  pub had_room : old.has_room ≡ true
  pub after : new ≡ counted old

-- the row of a column
pub record IsAtColumn (old new : Make) : Type 0 where
  pub takes : TakesRoom old new
  pub column : ColumnDef
  pub there : slice_get old.def.columns old.done ≡ Some column

abbrev pub IsLaid : Make → Make → Option (Result (List Value) AllocError) → Type 0
IsLaid old new None = next_of_make old ≢ Lay
IsLaid old new (Some (Err e)) = IsAtColumn old new
IsLaid old new (Some (Ok row)) = (at : IsAtColumn old new) × (row ≡ column_row old.def.number old.done at.column)

-- .. that of the table
pub record IsAtTable (old new : Make) : Type 0 where
  pub takes : TakesRoom old new
  pub all : old.done ≡ length old.def.columns

-- with the table as the dictionary has it
pub record IsListing (make : Make) (listing : Listing) : Type 0 where
  pub row : listing.row ≡ table_row make.def.number make.def.name
  pub name : listing.name ≡ make.def.name
  pub defined : listing.defined ≡ record { number = make.def.number; columns = make.def.columns }

abbrev pub IsListed : Make → Make → Option (Result Listing AllocError) → Type 0
IsListed old new None = next_of_make old ≢ ToList
IsListed old new (Some (Err e)) = IsAtTable old new
IsListed old new (Some (Ok listing)) = IsAtTable old new × IsListing old listing

-- the same out of a connection's plan
pub record TakesPlan (P : Make → Make → Type 0) (old new : Session) : Type 0 where
  pub make : Make
  pub left : Make
  pub planned : old.plan ≡ Create make
  pub after : new ≡ record old { plan = Create left }
  pub does : P make left

abbrev pub IsColumnToPut : Session → Session → Option (Result (List Value) AllocError) → Type 0
IsColumnToPut old new None = next_of_plan old.plan ≢ ToBuild Lay
IsColumnToPut old new (Some r) = TakesPlan (λ make left. IsLaid make left (Some r)) old new

abbrev pub IsTableToPut : Session → Session → Option (Result Listing AllocError) → Type 0
IsTableToPut old new None = next_of_plan old.plan ≢ ToBuild ToList
IsTableToPut old new (Some r) = TakesPlan (λ make left. IsListed make left (Some r)) old new

-- all its rows are put
abbrev pub is_listed : Make → Bool
is_listed make = make.made && nat_lt (length make.def.columns) make.done

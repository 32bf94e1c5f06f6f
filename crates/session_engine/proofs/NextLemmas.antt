-- The next row of a CREATE TABLE, whether there was memory for it or not.
use Rattle.std.proofs.Common.{◌≡◌, List}
use Rattle.std.specs.Prelude.{Some, Result, Ok, Err, IfOk}
use Rattle.std.specs.declared.alloc.AllocError.{AllocError}
use Rattle.dby_types.specs.declared.value.Value.{Value}
use Rattle.journal_model.specs.Catalog.{column_row}
use Rattle.session_engine.specs.declared.session.Make.{Make}
use Rattle.session_engine.specs.Listing.{IsAtColumn, IsLaid}

pub laid : (old new : Make) (r : Result (List Value) AllocError) → (at : IsAtColumn old new) → IfOk r (λ row. row ≡ column_row old.def.number old.done at.column) → IsLaid old new (Some r)
laid old new (Ok row) at h = (at, h)
laid old new (Err e) at h = at

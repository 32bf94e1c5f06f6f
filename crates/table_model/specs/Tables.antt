-- Tables: the row, where there is one, of each table number and row id; and changes of them.
use Rattle.std.specs.Prelude.{ℕ, List, [], ◌∷◌, Option, None, Bool, ◌&&◌, ◌==◌, if◌then◌else◌}
use Rattle.dby_types.specs.declared.number.RowId.{RowId}
use Rattle.dby_types.specs.declared.value.Value.{Value}

abbrev pub Tables : Type 0
Tables = ℕ → RowId → Option (List Value)

abbrev pub no_tables : Tables
no_tables = λ table rid. None

abbrev pub is_same_rid : RowId → RowId → Bool
is_same_rid a b = (a.page == b.page) && (a.slot == b.slot)

-- the tables with this row, or none, at a place
abbrev pub put : Tables → ℕ → RowId → Option (List Value) → Tables
put tables table rid row = λ t r. if (t == table) && is_same_rid r rid then row else tables t r

-- a change of a row: what stood there before, and what stands after
pub record Change : Type 0 where
  pub table : ℕ
  pub rid : RowId
  pub old : Option (List Value)
  pub new : Option (List Value)

-- a change that was made, with the number of its Did entry
pub record Made : Type 0 where
  pub number : ℕ
  pub change : Change

-- the tables with changes laid over them, the newest of the list first
abbrev pub laid_over : List Made → Tables → Tables
laid_over [] tables = tables
laid_over (m ∷ ms) tables = put (laid_over ms tables) m.change.table m.change.rid m.change.new

-- the tables with the newest change taken back
abbrev pub newest_undone : List Made → Tables → Tables
newest_undone [] tables = tables
newest_undone (m ∷ ms) tables = put tables m.change.table m.change.rid m.change.old

abbrev pub rest_of : {X : Type 0} → List X → List X
rest_of [] = []
rest_of (x ∷ xs) = xs

-- each of a list, by recursion
abbrev pub Each : {X : Type 0} → (X → Type 0) → List X → Type 0
Each P [] = Unit {0}
Each P (x ∷ xs) = P x × Each P xs

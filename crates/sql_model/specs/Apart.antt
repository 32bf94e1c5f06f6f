-- Words of the laws: changes that don't meet.
use Rattle.std.specs.Prelude.{◌≡◌, ℕ, ◌+◌, if◌then◌else◌, List, [], ◌∷◌, Option, Some, None}
use Rattle.dby_types.specs.declared.number.RowId.{RowId}
use Rattle.sql_model.specs.Changes.{RowChange}
use Rattle.sql_model.specs.Tuples.{Row}
use Rattle.table_model.specs.Tables.{Tables, Each, is_same_rid, put}

-- a change of a row that stood in the tables before the statement, as the change says
abbrev pub IsOfRow : Tables → RowChange → Type 0
IsOfRow tables change = (rid : RowId) × (change.rid ≡ Some rid) × (tables change.table rid ≡ change.old)

abbrev pub once_at : RowId → Option RowId → ℕ
once_at rid None = 0
once_at rid (Some r) = if is_same_rid rid r then 1 else 0

-- how many changes are at this place
abbrev pub times_changed : RowId → List RowChange → ℕ
times_changed rid [] = 0
times_changed rid (change ∷ changes) = once_at rid change.rid + times_changed rid changes

-- CHANGES THAT DON'T MEET: each is of a row as it stood before all of them, and no place is changed twice. So their order makes no difference
pub record AreApart (tables : Tables) (changes : List RowChange) : Type 0 where
  pub before : Each (IsOfRow tables) changes
  pub once : Each (λ (change : RowChange). (rid : RowId) → change.rid ≡ Some rid → times_changed rid changes ≡ 1) changes

-- a change made at its place
abbrev pub made_at : Option RowId → ℕ → Option Row → Tables → Tables
made_at None n new tables = tables
made_at (Some rid) n new tables = put tables n rid new

-- the tables with changes laid over them, the first of the list last
abbrev pub laid : List RowChange → Tables → Tables
laid [] tables = tables
laid (change ∷ changes) tables = made_at change.rid change.table change.new (laid changes tables)

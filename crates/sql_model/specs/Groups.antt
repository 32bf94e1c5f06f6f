-- Groups, in the order in which their first rows come.
use Rattle.std.specs.Prelude.{ℕ, Bool, true, false, if◌then◌else◌, List, [], ◌∷◌, ◌++◌}
use Rattle.sql_ast.specs.declared.bound.Grouping.{Grouping}
use Rattle.sql_model.specs.Rows.{value_at, same_row, trimmed_row}
use Rattle.sql_model.specs.Tuples.{Row}

-- a group: the values that it goes by, and its rows
pub record Group : Type 0 where
  pub key : Row
  pub rows : List Row

-- the values at these places
abbrev pub values_at : List ℕ → Row → Row
values_at [] r = []
values_at (n ∷ ns) r = value_at n r ∷ values_at ns r

-- what a row is grouped by
abbrev pub key_of : List ℕ → Row → Row
key_of keys r = trimmed_row (values_at keys r)

abbrev pub joined_by : Group → Row → Group
joined_by g r = record { key = g.key; rows = g.rows ++ r ∷ [] }

abbrev pub begun_by : Row → Row → Group
begun_by key r = record { key = key; rows = r ∷ [] }

-- a row joins the group of its key, or begins one
abbrev pub with_key : List Group → Row → Row → List Group
with_key [] key r = begun_by key r ∷ []
with_key (g ∷ gs) key r = if same_row key g.key then joined_by g r ∷ gs else g ∷ with_key gs key r

-- where there is no GROUP BY all rows are one group, even if there is no row
abbrev pub first_groups : Bool → List Group
first_groups true = record { key = []; rows = [] } ∷ []
first_groups false = []

abbrev pub grouped : List ℕ → List Group → List Row → List Group
grouped keys gs [] = gs
grouped keys gs (r ∷ rs) = grouped keys (with_key gs (key_of keys r) r) rs

abbrev pub groups_of : Grouping → List Row → List Group
groups_of g rows = grouped g.keys (first_groups g.whole) rows

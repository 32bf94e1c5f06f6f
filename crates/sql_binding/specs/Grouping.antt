-- GROUP BY, and the aggregates of a query.
use Rattle.std.specs.Prelude.{ℕ, nat_lt, ◌||◌, not, Bool, true, false, List, [], ◌∷◌, ◌++◌, Option, Some, None}
use Rattle.dby_types.specs.declared.state.SqlState.{SqlState}
use Rattle.sql_ast.specs.declared.expression.Expression.{Expression, Or', And', Not', Compare', IsNull', Between', In', Add', Multiply', Sign', Number, Text, Truth, Column, ColumnOf, Brackets', CountAll, Call', Row_of-Expression, end_of-Expression, more_of-Expression}
use Rattle.sql_ast.specs.declared.statement.GroupText.{GroupText}
use Rattle.sql_ast.specs.declared.statement.OutText.{OutText}
use Rattle.sql_ast.specs.declared.statement.SelectText.{SelectText}
use Rattle.sql_binding.specs.Bound.{Sum, all_rows, sum_of, Groups}
use Rattle.sql_binding.specs.Expressions.{bound_over}
use Rattle.sql_binding.specs.Names.{Source, column_named, spot_or, spot_faults}
use Rattle.sql_binding.specs.Items.{calls_of, items_of}

abbrev pub is_empty : {X : Type 0} → List X → Bool
is_empty [] = true
is_empty (x ∷ xs) = false

-- rows are grouped by GROUP BY, or all as one group where a select item has an aggregate
abbrev pub is_grouped : SelectText → Bool
is_grouped q = not (is_empty q.group) || nat_lt 0 (calls_of (items_of q.shown))

-- the places in the joined row of what GROUP BY names
abbrev pub key_places : List Source → List GroupText → List ℕ
key_places ss [] = []
key_places ss (g ∷ gs) = (spot_or (column_named ss g.table g.column)).place ∷ key_places ss gs

abbrev pub group_faults : List Source → List GroupText → List SqlState
group_faults ss [] = []
group_faults ss (g ∷ gs) = spot_faults (column_named ss g.table g.column) ++ group_faults ss gs

abbrev pub keys_if : Bool → List ℕ → Option (List ℕ)
keys_if true keys = Some keys
keys_if false keys = None

-- the aggregates of select items, from left to right, each over the joined row
abbrev mutual
  pub sums_in : List Source → Expression → List Sum
  sums_in ss (Or' p a q b) = sums_in ss a ++ sums_in ss b
  sums_in ss (And' p a q b) = sums_in ss a ++ sums_in ss b
  sums_in ss (Not' p a) = sums_in ss a
  sums_in ss (Compare' op p a q b) = sums_in ss a ++ sums_in ss b
  sums_in ss (IsNull' deny p a) = sums_in ss a
  sums_in ss (Between' deny p a q b r c) = sums_in ss a ++ (sums_in ss b ++ sums_in ss c)
  sums_in ss (In' deny p a shape members) = sums_in ss a ++ sums_in_row ss members
  sums_in ss (Add' op p a q b) = sums_in ss a ++ sums_in ss b
  sums_in ss (Multiply' op p a q b) = sums_in ss a ++ sums_in ss b
  sums_in ss (Sign' op p a) = sums_in ss a
  sums_in ss (Number op n) = []
  sums_in ss (Text t) = []
  sums_in ss (Truth b) = []
  sums_in ss (Column name) = []
  sums_in ss (ColumnOf table name) = []
  sums_in ss (Brackets' p a) = sums_in ss a
  sums_in ss CountAll = all_rows ∷ []
  sums_in ss (Call' f p a) = sum_of f (bound_over ss a) ∷ []

  pub sums_in_row : {m : _} → List Source → Row_of-Expression m → List Sum
  sums_in_row ss end_of-Expression = []
  sums_in_row ss (more_of-Expression e rest) = sums_in ss e ++ sums_in_row ss rest

abbrev pub sums_of : List Source → List OutText → List Sum
sums_of ss [] = []
sums_of ss (o ∷ os) = sums_in ss o.expression ++ sums_of ss os

abbrev pub groups_if : Bool → Groups → Option Groups
groups_if true g = Some g
groups_if false g = None

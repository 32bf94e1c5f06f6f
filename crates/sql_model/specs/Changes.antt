-- Changes of rows.
use Rattle.std.specs.Prelude.{ℕ, suc, ◌==◌, if◌then◌else◌, List, [], ◌∷◌, map, Option, Some, None}
use Rattle.std.specs.List.{filter_map, flat_map}
use Rattle.dby_types.specs.declared.answer.Component.{Component}
use Rattle.dby_types.specs.declared.definition.ColumnDef.{ColumnDef}
use Rattle.dby_types.specs.declared.number.RowId.{RowId}
use Rattle.dby_types.specs.declared.state.SqlState.{SqlState}
use Rattle.expr_model.specs.Expression.{value_of, columns_from}
use Rattle.expr_model.specs.declared.evaluated.Evaluated.{Evaluated}
use Rattle.expr_model.specs.declared.evaluated.Evaluated.TheVariants.{Value as Gives}
use Rattle.sql_ast.specs.declared.bound.BoundSet.{BoundSet}
use Rattle.sql_ast.specs.declared.bound.Expr.{Expr}
use Rattle.sql_model.specs.Lines.{values_of}
use Rattle.sql_model.specs.Rows.{value_at}
use Rattle.sql_model.specs.Storing.{row_refusal, stored_row}
use Rattle.sql_model.specs.Tuples.{Row, Tuple}

-- a change of a row of a table. The place of a new row is left open
pub record RowChange : Type 0 where
  pub table : ℕ
  pub rid : Option RowId
  pub old : Option Row
  pub new : Option Row

-- INSERT: the values of a tuple, computed over no row
abbrev pub tuple_values : List Expr → List Evaluated
tuple_values es = values_of es []

-- a new row for each tuple, in order
abbrev pub insert_change : ℕ → List ColumnDef → List Expr → RowChange
insert_change n columns es = record { table = n; rid = None; old = None; new = Some (stored_row columns (tuple_values es)) }

abbrev pub insert_changes : ℕ → List ColumnDef → List (List Expr) → List RowChange
insert_changes n columns tuples = map (insert_change n columns) tuples

abbrev pub tuple_refusal : List ColumnDef → List Expr → Option SqlState
tuple_refusal columns es = row_refusal columns (tuple_values es)

abbrev pub insert_refusals : List ColumnDef → List (List Expr) → List SqlState
insert_refusals columns tuples = filter_map (tuple_refusal columns) tuples

-- UPDATE: the new value of the column at a place, over the old row: what SET gives it, or the value that it has
abbrev pub set_value : List BoundSet → ℕ → Row → Evaluated
set_value [] n r = Gives (value_at n r)
set_value (s ∷ ss) n r = if s.column == n then value_of s.value (columns_from 0 r) else set_value ss n r

-- those of the columns from a place on, in their order
abbrev pub set_values_from : ℕ → List BoundSet → List ColumnDef → Row → List Evaluated
set_values_from n sets [] r = []
set_values_from n sets (c ∷ cs) r = set_value sets n r ∷ set_values_from (suc n) sets cs r

abbrev pub set_values : List BoundSet → List ColumnDef → Row → List Evaluated
set_values sets columns r = set_values_from 0 sets columns r

abbrev pub update_change : ℕ → List ColumnDef → List BoundSet → Component → RowChange
update_change n columns sets c =
    record { table = n; rid = Some c.rid; old = Some c.row; new = Some (stored_row columns (set_values sets columns c.row)) }

-- a new row for each row that meets WHERE, each by the old row alone
abbrev pub update_changes : ℕ → List ColumnDef → List BoundSet → List Tuple → List RowChange
update_changes n columns sets found = flat_map (map (update_change n columns sets)) found

abbrev pub set_refusal : List ColumnDef → List BoundSet → Component → Option SqlState
set_refusal columns sets c = row_refusal columns (set_values sets columns c.row)

abbrev pub update_refusals : List ColumnDef → List BoundSet → List Tuple → List SqlState
update_refusals columns sets found = flat_map (filter_map (set_refusal columns sets)) found

-- DELETE: each row that meets WHERE goes
abbrev pub delete_change : ℕ → Component → RowChange
delete_change n c = record { table = n; rid = Some c.rid; old = Some c.row; new = None }

abbrev pub delete_changes : ℕ → List Tuple → List RowChange
delete_changes n found = flat_map (map (delete_change n)) found

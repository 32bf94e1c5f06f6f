-- A tuple of INSERT in the table's order.
use Rattle.std.specs.Prelude.{ℕ, suc, ◌==◌, if◌then◌else◌, List, [], ◌∷◌}
use Rattle.dby_types.specs.declared.definition.ColumnDef.{ColumnDef}
use Rattle.dby_types.specs.declared.value.Value.TheVariants.{Null}
use Rattle.sql_ast.specs.declared.bound.Expr.{Expr}
use Rattle.sql_ast.specs.declared.bound.Node.{Literal}

abbrev pub null_for : ColumnDef → Expr
null_for c = record { node = Literal Null; ty = c.ty }

-- what a tuple gives the column at a place, by the places that the column list names: NULL where it doesn't name it
abbrev pub item_for : List ℕ → List Expr → ℕ → ColumnDef → Expr
item_for [] es n c = null_for c
item_for (p ∷ ps) [] n c = null_for c
item_for (p ∷ ps) (e ∷ es) n c = if p == n then e else item_for ps es n c

abbrev pub items_from : ℕ → List ColumnDef → List ℕ → List Expr → List Expr
items_from n [] ps es = []
items_from n (c ∷ cs) ps es = item_for ps es n c ∷ items_from (suc n) cs ps es

-- A TUPLE IN THE TABLE'S ORDER: a value for each column
abbrev pub in_table_order : List ColumnDef → List ℕ → List Expr → List Expr
in_table_order columns ps es = items_from 0 columns ps es

-- A row of the table's columns, filled by places.
use Rattle.std.specs.Prelude.{◌≡◌, ℕ, suc, ◌==◌, if◌then◌else◌, List, [], ◌∷◌, ◌++◌, length, Option}
use Rattle.dby_types.specs.declared.definition.ColumnDef.{ColumnDef}
use Rattle.dby_types.specs.declared.state.SqlState.{SqlState}
use Rattle.expr_binder.specs.Walking.{kept}
use Rattle.sql_ast.specs.declared.bound.Expr.{Expr}
use Rattle.sql_ast.specs.declared.statement.Item.{Item}
use Rattle.sql_binding.specs.Changes.{null_tree, tuple_trees, tuple_faults, count_faults}
use Rattle.sql_binding.specs.Names.{Spot}
use Rattle.sql_binding.specs.Trees.{Tree, trees_of}

-- NULL for each column
abbrev pub nulls : List ColumnDef → List Tree
nulls [] = []
nulls (c ∷ cs) = null_tree c.ty ∷ nulls cs

-- a value at place p of a row that begins at place n
abbrev pub set_from : ℕ → ℕ → Tree → List Tree → List Tree
set_from n p t [] = []
set_from n p t (x ∷ xs) = (if p == n then t else x) ∷ set_from (suc n) p t xs

-- each value at its column's place; of two at one place the first stands
abbrev pub filled : List Spot → List Tree → List Tree → List Tree
filled [] ts row = row
filled (s ∷ spots) [] row = row
filled (s ∷ spots) (t ∷ ts) row = set_from 0 s.place t (filled spots ts row)

-- A TUPLE is bound: where it has a value for each of the columns, it is the tuple in the table's order
pub record Tupled (f g : Option SqlState) (columns : List ColumnDef) (spots : List Spot) (items : List Item) (xs : List Expr) : Type 0 where
  pub trees : length items ≡ length spots → trees_of xs ≡ tuple_trees columns spots items
  pub fault : g ≡ kept f (tuple_faults spots items ++ count_faults spots items)

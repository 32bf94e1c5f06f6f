-- The parts of changes and of CREATE TABLE.
use Rattle.std.specs.Prelude.{◌≡◌, ◌<◌, ◌^◌, ℕ, Bool, true, false, List, [], ◌∷◌, ◌++◌, length, map, Option}
use Rattle.dby_types.specs.declared.definition.ColumnDef.{ColumnDef}
use Rattle.dby_types.specs.declared.definition.Dictionary.{Dictionary}
use Rattle.dby_types.specs.declared.state.SqlState.{SqlState}
use Rattle.expr_binder.specs.Walking.{kept}
use Rattle.sql_ast.specs.declared.bound.Expr.{Expr}
use Rattle.sql_ast.specs.declared.expression.Expression.{Expression}
use Rattle.sql_ast.specs.declared.statement.ColumnMark.{ColumnMark}
use Rattle.sql_ast.specs.declared.statement.ColumnMark.TheVariants as mark
use Rattle.sql_ast.specs.declared.statement.ColumnText.{ColumnText}
use Rattle.sql_ast.specs.declared.statement.Item.{Item}
use Rattle.sql_ast.specs.declared.statement.TablePart.{TablePart}
use Rattle.sql_ast.specs.declared.statement.TablePart.TheVariants.{Column, PrimaryKey, Unique}
use Rattle.sql_binder.specs.declared.target.Target.{Target}
use Rattle.sql_binding.specs.Changes.{tuples_trees, tuples_faults}
use Rattle.sql_binding.specs.Expressions.{conjuncts_of}
use Rattle.sql_binding.specs.Faults.{condition_faults}
use Rattle.sql_binding.specs.From.{columns_of, number_of, table_faults, found_in}
use Rattle.sql_binding.specs.Names.{Source, Spot}
use Rattle.sql_binding.specs.Trees.{trees_of}

-- THE TABLE of a change
pub record IsTarget (d : Dictionary) (name : List ℕ) (f g : Option SqlState) (t : Target) : Type 0 where
  pub number : t.number ≡ number_of (found_in d name)
  pub columns : t.columns.now ≡ columns_of (found_in d name)
  pub few : length t.columns.now < 2 ^ 32
  pub fault : g ≡ kept f (table_faults (found_in d name))

-- THE TUPLES of INSERT: where nothing is wrong with them they are those in the table's order
pub record Fills (f g : Option SqlState) (columns : List ColumnDef) (spots : List Spot) (tuples : List (List Item)) (rows : List (List Expr)) : Type 0 where
  pub trees : tuples_faults spots tuples ≡ [] → map trees_of rows ≡ tuples_trees columns spots tuples
  pub fault : g ≡ kept f (tuples_faults spots tuples)

-- the conjuncts of a condition
pub record Filters (ss : List Source) (cs : List Expression) (f g : Option SqlState) (xs : List Expr) : Type 0 where
  pub parts : trees_of xs ≡ conjuncts_of ss cs
  pub fault : g ≡ kept f (condition_faults ss cs)

abbrev pub has_not_null : List ColumnMark → Bool
has_not_null [] = false
has_not_null (mark.NotNull ∷ ms) = true
has_not_null (mark.PrimaryKey ∷ ms) = has_not_null ms
has_not_null (mark.Unique ∷ ms) = has_not_null ms

-- a column, its keys apart
abbrev pub plain_column : ColumnText → ColumnDef
plain_column text = record { name = text.name; ty = text.ty; not_null = has_not_null text.marks }

-- the columns of a table, its keys apart
abbrev pub plain_columns : List TablePart → List ColumnDef
plain_columns [] = []
plain_columns (Column c ∷ parts) = plain_column c ∷ plain_columns parts
plain_columns (PrimaryKey names ∷ parts) = plain_columns parts
plain_columns (Unique names ∷ parts) = plain_columns parts

-- INSERT, UPDATE and DELETE.
use Rattle.std.specs.Prelude.{ℕ, suc, ◌==◌, if◌then◌else◌, List, [], ◌∷◌, ◌++◌, length, Option, Some, None}
use Rattle.std.specs.Global.{Box}
use Rattle.dby_types.specs.declared.definition.ColumnDef.{ColumnDef}
use Rattle.dby_types.specs.declared.state.SqlState.{SqlState}
use Rattle.dby_types.specs.declared.state.SqlState.TheVariants.{NotInTarget, ValueCount, NotStorable}
use Rattle.dby_types.specs.declared.value.Ty.{Ty}
use Rattle.dby_types.specs.declared.value.Ty.TheVariants.{Int}
use Rattle.dby_types.specs.declared.value.Value.TheVariants.{Null}
use Rattle.sql_ast.specs.declared.expression.Expression.{Expression}
use Rattle.sql_ast.specs.declared.statement.Item.{Item}
use Rattle.sql_ast.specs.declared.statement.Item.TheVariants.{Null as NullItem, Value}
use Rattle.sql_ast.specs.declared.statement.SetText.{SetText}
use Rattle.sql_binding.specs.Bound.{Put}
use Rattle.sql_binding.specs.Expressions.{bound_over}
use Rattle.sql_binding.specs.Faults.{unless, faults_over}
use Rattle.sql_binding.specs.Names.{Source, Spot, spot_from}
use Rattle.sql_binding.specs.Trees.{Tree, typed, literal, ty_of}
use Rattle.sql_binding.specs.Types.{same_kind}

-- the column of a target table
abbrev pub target_of : List ColumnDef → List ℕ → Option Spot
target_of columns name = spot_from 0 name columns

abbrev pub target_or : Option Spot → Spot
target_or None = record { place = 0; ty = Int }
target_or (Some spot) = spot

abbrev pub target_faults : Option Spot → List SqlState
target_faults None = NotInTarget ∷ []
target_faults (Some spot) = []

abbrev pub null_tree : Ty → Tree
null_tree ty = typed (literal Null) ty

-- a value for a column of a type; NULL has the column's
abbrev pub item_tree : List Source → Ty → Item → Tree
item_tree ss ty NullItem = null_tree ty
item_tree ss ty (Value e) = bound_over ss e

abbrev pub own_faults : List Source → Item → List SqlState
own_faults ss NullItem = []
own_faults ss (Value e) = faults_over ss e

-- its type has to be of the column's kind
abbrev pub storable_faults : List Source → Ty → Item → List SqlState
storable_faults ss ty item = own_faults ss item ++ unless (same_kind ty (ty_of (item_tree ss ty item))) NotStorable

-- ---- INSERT

-- the columns that a tuple's values are for: those of the column list, or all
abbrev pub spots_of : ℕ → List ColumnDef → List Spot
spots_of n [] = []
spots_of n (c ∷ cs) = record { place = n; ty = c.ty } ∷ spots_of (suc n) cs

abbrev pub targets_named : List ColumnDef → List (List ℕ) → List Spot
targets_named columns [] = []
targets_named columns (name ∷ names) = target_or (target_of columns name) ∷ targets_named columns names

abbrev pub targets : List ColumnDef → Option (List (List ℕ)) → List Spot
targets columns None = spots_of 0 columns
targets columns (Some names) = targets_named columns names

abbrev pub missing_targets : List ColumnDef → List (List ℕ) → List SqlState
missing_targets columns [] = []
missing_targets columns (name ∷ names) = target_faults (target_of columns name) ++ missing_targets columns names

-- what a tuple has for the column at a place: NULL where the column list doesn't name it
abbrev pub value_for : List Spot → List Item → ℕ → Ty → Tree
value_for [] items n ty = null_tree ty
value_for (spot ∷ spots) [] n ty = null_tree ty
value_for (spot ∷ spots) (item ∷ items) n ty = if spot.place == n then item_tree [] spot.ty item else value_for spots items n ty

abbrev pub values_from : ℕ → List ColumnDef → List Spot → List Item → List Tree
values_from n [] spots items = []
values_from n (c ∷ cs) spots items = value_for spots items n c.ty ∷ values_from (suc n) cs spots items

-- A TUPLE in the table's order
abbrev pub tuple_trees : List ColumnDef → List Spot → List Item → List Tree
tuple_trees columns spots items = values_from 0 columns spots items

abbrev pub tuples_trees : List ColumnDef → List Spot → List (List Item) → List (List Tree)
tuples_trees columns spots [] = []
tuples_trees columns spots (t ∷ ts) = tuple_trees columns spots t ∷ tuples_trees columns spots ts

-- a value behind the last column is judged for itself
abbrev pub tuple_faults : List Spot → List Item → List SqlState
tuple_faults spots [] = []
tuple_faults [] (item ∷ items) = own_faults [] item ++ tuple_faults [] items
tuple_faults (spot ∷ spots) (item ∷ items) = storable_faults [] spot.ty item ++ tuple_faults spots items

abbrev pub count_faults : List Spot → List Item → List SqlState
count_faults spots items = unless (length items == length spots) ValueCount

abbrev pub tuples_faults : List Spot → List (List Item) → List SqlState
tuples_faults spots [] = []
tuples_faults spots (t ∷ ts) = tuple_faults spots t ++ (count_faults spots t ++ tuples_faults spots ts)

abbrev pub names_in : Option (List (List ℕ)) → List (List ℕ)
names_in None = []
names_in (Some names) = names

-- ---- UPDATE

abbrev pub puts : List ColumnDef → List Source → List SetText → List Put
puts columns ss [] = []
puts columns ss (s ∷ sets) =
    record { column = (target_or (target_of columns s.column)).place; tree = item_tree ss (target_or (target_of columns s.column)).ty s.item } ∷ puts columns ss sets

abbrev pub set_faults : List ColumnDef → List Source → List SetText → List SqlState
set_faults columns ss [] = []
set_faults columns ss (s ∷ sets) =
    target_faults (target_of columns s.column) ++ (storable_faults ss (target_or (target_of columns s.column)).ty s.item ++ set_faults columns ss sets)

abbrev pub set_names : List SetText → List (List ℕ)
set_names [] = []
set_names (s ∷ sets) = s.column ∷ set_names sets

-- the condition of UPDATE or DELETE
abbrev pub condition_in : Option (Box Expression) → List Expression
condition_in None = []
condition_in (Some c) = c.value ∷ []

-- the one table of a change, known by its own name
abbrev pub only_source : List ℕ → List ColumnDef → List Source
only_source name columns = record { exposed = name; columns = columns } ∷ []

-- What a step of binding a change gives, and the fault that is told behind it.
use Rattle.std.specs.Prelude.{◌≡◌, ℕ, List, [], ◌∷◌, ◌++◌, Option}
use Rattle.dby_types.specs.declared.definition.ColumnDef.{ColumnDef}
use Rattle.dby_types.specs.declared.state.SqlState.{SqlState}
use Rattle.expr_binder.specs.Seen.{spot_of}
use Rattle.expr_binder.specs.Walking.{kept}
use Rattle.expr_binder.specs.declared.names.Spot.{Spot as InCode}
use Rattle.sql_ast.specs.declared.bound.BoundSet.{BoundSet}
use Rattle.sql_ast.specs.declared.bound.Expr.{Expr}
use Rattle.sql_ast.specs.declared.statement.Item.{Item}
use Rattle.sql_ast.specs.declared.statement.SetText.{SetText}
use Rattle.sql_binding.specs.Bound.{puts_of}
use Rattle.sql_binding.specs.Changes.{target_of, target_or, target_faults, targets, missing_targets, names_in, puts, set_faults, tuple_faults, item_tree}
use Rattle.sql_binding.specs.Names.{Source, Spot}
use Rattle.sql_binding.specs.Trees.{Tree, tree_of, trees_of}

-- A BOUND EXPRESSION, with these faults met
pub record Gives (f g : Option SqlState) (t : Tree) (fs : List SqlState) (x : Expr) : Type 0 where
  pub tree : tree_of x ≡ t
  pub fault : g ≡ kept f fs

-- the column of a name in the table
pub record Aims (f g : Option SqlState) (columns : List ColumnDef) (name : List ℕ) (s : InCode) : Type 0 where
  pub spot : spot_of s ≡ target_or (target_of columns name)
  pub fault : g ≡ kept f (target_faults (target_of columns name))

-- WHAT SET CHANGES
pub record Sets (f g : Option SqlState) (columns : List ColumnDef) (ss : List Source) (texts : List SetText) (bound : List BoundSet) : Type 0 where
  pub puts : puts_of bound ≡ puts columns ss texts
  pub fault : g ≡ kept f (set_faults columns ss texts)

abbrev pub spots_in : List InCode → List Spot
spots_in [] = []
spots_in (s ∷ ss) = spot_of s ∷ spots_in ss

-- THE TARGETS of a tuple's values
pub record Targets (f g : Option SqlState) (columns : List ColumnDef) (names : Option (List (List ℕ))) (found : List InCode) : Type 0 where
  pub spots : spots_in found ≡ targets columns names
  pub fault : g ≡ kept f (missing_targets columns (names_in names))

-- a tuple's values in text order, as far as there are columns for them
abbrev pub item_values : List Spot → List Item → List Tree
item_values spots [] = []
item_values [] (i ∷ items) = []
item_values (s ∷ spots) (i ∷ items) = item_tree [] s.ty i ∷ item_values spots items

pub record Values (f g : Option SqlState) (spots : List Spot) (items : List Item) (xs : List Expr) : Type 0 where
  pub trees : trees_of xs ≡ item_values spots items
  pub fault : g ≡ kept f (tuple_faults spots items)

-- ONE VALUE of a tuple more: what comes behind it is judged against the columns behind
pub record TakesOne (f g : Option SqlState) (spots behind : List Spot) (i : Item) (xs ys : List Expr) : Type 0 where
  pub trees : (items : List Item) → trees_of ys ++ item_values behind items ≡ trees_of xs ++ item_values spots (i ∷ items)
  pub fault : (items : List Item) → kept g (tuple_faults behind items) ≡ kept f (tuple_faults spots (i ∷ items))

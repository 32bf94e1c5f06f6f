-- Words of the laws: the one refusal, names, and tuples of INSERT.
use Rattle.std.specs.Prelude.{◌≡◌, ◌≤◌, ◌<◌, ℕ, suc, ◌+◌, Bool, false, ◌||◌, if◌then◌else◌, List, [], ◌∷◌, ◌++◌}
use Rattle.std.specs.Str.{bytes_eq}
use Rattle.dby_types.specs.declared.definition.ColumnDef.{ColumnDef}
use Rattle.dby_types.specs.declared.state.SqlState.{SqlState}
use Rattle.dby_types.specs.declared.state.SqlState.TheVariants.{NoTable, NameExists, NothingToDrop, NoColumn, AmbiguousColumn, NotInTarget, ValueCount, NotComparable, NotStorable, WrongOperand, NameTwice, Grouping, SecondPrimaryKey, TooLarge}
use Rattle.sql_binding.specs.Creating.{columns_at}
use Rattle.sql_binding.specs.Names.{Source, Spot}
use Rattle.sql_ast.specs.declared.statement.Item.{Item}
use Rattle.sql_binding.specs.Changes.{item_tree}
use Rattle.sql_binding.specs.Order.{class_of}
use Rattle.sql_binding.specs.Trees.{Tree}
use Rattle.table_model.specs.Tables.{Each}

-- a refusal of no earlier class than another
abbrev pub IsNotBefore : SqlState → SqlState → Type 0
IsNotBefore why other = class_of why ≤ class_of other

abbrev pub IsBehind : SqlState → SqlState → Type 0
IsBehind why other = class_of why < class_of other

-- THE FIRST OF THE EARLIEST CLASS: it stands in the list, all before it are of later classes, and none is of an earlier one
pub record IsFirst (whys : List SqlState) (why : SqlState) : Type 0 where
  pub before : List SqlState
  pub after : List SqlState
  pub cut : whys ≡ before ++ why ∷ after
  pub first : Each (IsBehind why) before
  pub least : Each (IsNotBefore why) whys

abbrev pub has_column : List ℕ → List ColumnDef → Bool
has_column name [] = false
has_column name (c ∷ cs) = bytes_eq name c.name || has_column name cs

-- how many tables have a column of a name
abbrev pub tables_with : List ℕ → List Source → ℕ
tables_with name [] = 0
tables_with name (s ∷ ss) = (if has_column name s.columns then 1 else 0) + tables_with name ss

-- the columns of the joined row
abbrev pub joined_columns : List Source → List ColumnDef
joined_columns [] = []
joined_columns (s ∷ ss) = s.columns ++ joined_columns ss

-- a column of a name stands at a place, where the columns begin at place n
pub record Stands (n : ℕ) (columns : List ColumnDef) (name : List ℕ) (spot : Spot) : Type 0 where
  pub index : ℕ
  pub place_is : spot.place ≡ index + n
  pub column : ColumnDef
  pub there : columns_at index columns ≡ column ∷ []
  pub named : name ≡ column.name
  pub ty_is : spot.ty ≡ column.ty

-- THE CLASSES of refusals, the earliest first
abbrev pub classes : List (List SqlState)
classes =
    (NoTable ∷ NameExists ∷ NothingToDrop ∷ [])
    ∷ (NoColumn ∷ AmbiguousColumn ∷ NotInTarget ∷ [])
    ∷ (ValueCount ∷ [])
    ∷ (NotComparable ∷ NotStorable ∷ WrongOperand ∷ [])
    ∷ (NameTwice ∷ [])
    ∷ (Grouping ∷ [])
    ∷ (SecondPrimaryKey ∷ [])
    ∷ (TooLarge ∷ [])
    ∷ []

abbrev pub AreClassesFrom : ℕ → List (List SqlState) → Type 0
AreClassesFrom n [] = Unit {0}
AreClassesFrom n (whys ∷ more) = Each (λ (why : SqlState). class_of why ≡ n) whys × AreClassesFrom (suc n) more

abbrev pub places_of : List Spot → List ℕ
places_of [] = []
places_of (s ∷ ss) = s.place ∷ places_of ss

-- a tuple's values as they stand in the text, each for its column
abbrev pub item_trees : List Spot → List Item → List Tree
item_trees [] items = []
item_trees (s ∷ ss) [] = []
item_trees (s ∷ ss) (item ∷ items) = item_tree [] s.ty item ∷ item_trees ss items

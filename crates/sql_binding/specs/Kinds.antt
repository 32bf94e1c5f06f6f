-- Words of the laws: values and operands of their types.
use Rattle.std.specs.Prelude.{◌≡◌, ℕ, ◌==◌, Bool, true, List, [], ◌∷◌}
use Rattle.dby_types.specs.declared.definition.ColumnDef.{ColumnDef}
use Rattle.dby_types.specs.declared.value.Ty.{Ty}
use Rattle.dby_types.specs.declared.value.Ty.TheVariants.{Int}
use Rattle.dby_types.specs.declared.value.Ty.TheVariants.{Bool as Truths}
use Rattle.sql_binding.specs.Creating.{columns_at}
use Rattle.dby_types.specs.declared.value.Value.{Value}
use Rattle.dby_types.specs.declared.value.Value.TheVariants.{Null}
use Rattle.sql_binding.specs.Types.{kind_of, same_kind}
use Rattle.value_compare.specs.Order.{rank}
use Rattle.sql_binding.specs.Bound.{Put}
use Rattle.sql_binding.specs.Trees.{Tree, Trees, Form, typed, column, literal, arithmetic, negated, compare, is_null, between, in_, and, or, not, none, with, ty_of}

-- a tree's value is of a type's kind
abbrev pub HasKind : Ty → Tree → Type 0
HasKind ty a = same_kind ty (ty_of a) ≡ true

abbrev pub AreComparable : Tree → Tree → Type 0
AreComparable a b = same_kind (ty_of a) (ty_of b) ≡ true

-- EACH OPERAND IS OF ITS TYPE: numbers for arithmetic and signs, truth values for AND, OR and NOT, and comparable ones for comparisons
abbrev mutual
  pub IsTyped : Tree → Type 0
  IsTyped (typed form ty) = IsFormTyped form

  pub IsFormTyped : Form → Type 0
  IsFormTyped (column n) = Unit {0}
  IsFormTyped (literal v) = Unit {0}
  IsFormTyped (arithmetic op a b) = (IsTyped a × HasKind Int a) × (IsTyped b × HasKind Int b)
  IsFormTyped (negated a) = IsTyped a × HasKind Int a
  IsFormTyped (compare op a b) = IsTyped a × (IsTyped b × AreComparable a b)
  IsFormTyped (is_null deny a) = IsTyped a
  IsFormTyped (between deny a b c) = IsTyped a × ((IsTyped b × AreComparable a b) × (IsTyped c × AreComparable a c))
  IsFormTyped (in_ deny a members) = IsTyped a × AreTypedBeside a members
  IsFormTyped (and a b) = (IsTyped a × HasKind Truths a) × (IsTyped b × HasKind Truths b)
  IsFormTyped (or a b) = (IsTyped a × HasKind Truths a) × (IsTyped b × HasKind Truths b)
  IsFormTyped (not a) = IsTyped a × HasKind Truths a

  pub AreTypedBeside : Tree → Trees → Type 0
  AreTypedBeside left none = Unit {0}
  AreTypedBeside left (with a rest) = (IsTyped a × AreComparable left a) × AreTypedBeside left rest

-- a value of a type's kind; NULL is of each
abbrev pub is_of_kind : Ty → Value → Bool
is_of_kind ty Null = true
is_of_kind ty v = rank v == kind_of ty

-- each column of a row is of its type's kind
abbrev pub HasKinds : List ColumnDef → (ℕ → Value) → Type 0
HasKinds cs row = (n : ℕ) (c : ColumnDef) → columns_at n cs ≡ c ∷ [] → is_of_kind c.ty (row n) ≡ true

-- the column at a place can store a tree's value
pub record CanStore (columns : List ColumnDef) (n : ℕ) (t : Tree) : Type 0 where
  pub column : ColumnDef
  pub there : columns_at n columns ≡ column ∷ []
  pub kind : same_kind column.ty (ty_of t) ≡ true

abbrev pub CanPut : List ColumnDef → Put → Type 0
CanPut columns p = CanStore columns p.column p.tree

-- each column can store the value that stands for it
abbrev pub CanStoreAll : List ColumnDef → List Tree → Type 0
CanStoreAll [] [] = Unit {0}
CanStoreAll [] (t ∷ ts) = ⊥
CanStoreAll (c ∷ cs) [] = ⊥
CanStoreAll (c ∷ cs) (t ∷ ts) = (same_kind c.ty (ty_of t) ≡ true) × CanStoreAll cs ts

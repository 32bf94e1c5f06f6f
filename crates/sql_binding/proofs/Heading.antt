-- What stands at the head of a bound tree is of its type.
use Rattle.std.proofs.Common.{◌≡◌, ℕ, ◌+◌, ℤ, Bool, true, false, cond, List, [], ◌∷◌, Option, Some, None, Result, Ok, Err, refl, sym, ap, ◌∙◌, arith}
use Rattle.dby_types.specs.declared.definition.ColumnDef.{ColumnDef}
use Rattle.dby_types.specs.declared.state.SqlState.{SqlState}
use Rattle.dby_types.specs.declared.value.Ty.TheVariants.{Int, Big}
use Rattle.dby_types.specs.declared.value.Ty.TheVariants.{Bool as Truths}
use Rattle.dby_types.specs.declared.value.Value.TheVariants.{Num}
use Rattle.sql_ast.specs.declared.expression.Expression.{Expression, Or', And', Not', Compare', IsNull', Between', In', Add', Multiply', Sign', Number, Text, Truth, Column, ColumnOf, Brackets', CountAll, Call'}
use Rattle.sql_ast.specs.declared.expression.Sum.TheVariants.{Plus, Minus}
use Rattle.sql_binding.proofs.Naming.{named_stands}
use Rattle.sql_binding.proofs.Placing.{left_nil}
use Rattle.sql_binding.specs.Creating.{columns_at}
use Rattle.sql_binding.specs.Expressions.{bound_over}
use Rattle.sql_binding.specs.Faults.{faults_over}
use Rattle.sql_binding.specs.Kinds.{is_of_kind}
use Rattle.sql_binding.specs.Laws.{Stands, joined_columns}
use Rattle.sql_binding.specs.Names.{Source, Spot, column_named, spot_or, spot_faults}
use Rattle.sql_binding.specs.Trees.{Tree, typed, column, literal, arithmetic, negated, compare, is_null, between, in_, and, or, not}
use Rattle.sql_binding.specs.Types.{signed, number_tree}
use Rattle.value_compare.specs.Storing.{is_number_of}

abbrev pub HeadFits : List ColumnDef → Tree → Type 0
HeadFits cs (typed (column n) ty) = (c : ColumnDef) × (columns_at n cs ≡ c ∷ []) × (c.ty ≡ ty)
HeadFits cs (typed (literal v) ty) = is_of_kind ty v ≡ true
HeadFits cs (typed (arithmetic op a b) ty) = Unit {0}
HeadFits cs (typed (negated a) ty) = Unit {0}
HeadFits cs (typed (compare op a b) ty) = ty ≡ Truths
HeadFits cs (typed (is_null deny a) ty) = ty ≡ Truths
HeadFits cs (typed (between deny a b c) ty) = ty ≡ Truths
HeadFits cs (typed (in_ deny a members) ty) = ty ≡ Truths
HeadFits cs (typed (and a b) ty) = ty ≡ Truths
HeadFits cs (typed (or a b) ty) = ty ≡ Truths
HeadFits cs (typed (not a) ty) = ty ≡ Truths

number_fits : (cs : List ColumnDef) (n : ℤ) → HeadFits cs (number_tree n)
number_fits cs n = step (is_number_of Int n)
  where
    step : (b : Bool) → is_of_kind (cond b Int Big) (Num n) ≡ true
    step true = refl
    step false = refl

pub stands_at : (cs : List ColumnDef) (name : List ℕ) (spot : Spot) → Stands 0 cs name spot → (c : ColumnDef) × (columns_at spot.place cs ≡ c ∷ []) × (c.ty ≡ spot.ty)
stands_at cs name spot h =
    let place : spot.place ≡ h.index = (let at : spot.place ≡ h.index + 0 = h.place_is in omega arith) in
    (h.column, ap (λ (n : ℕ). columns_at n cs) place ∙ h.there, sym h.ty_is)

name_fits : (ss : List Source) (table : Option (List ℕ)) (name : List ℕ) (r : Result Spot SqlState) → column_named ss table name ≡ r → spot_faults r ≡ []
    → (c : ColumnDef) × (columns_at (spot_or r).place (joined_columns ss) ≡ c ∷ []) × (c.ty ≡ (spot_or r).ty)
name_fits ss table name (Ok spot) e f = stands_at (joined_columns ss) name spot (named_stands ss table name spot e)
name_fits ss table name (Err why) e f = absurd (cc)

pub head_fits : (ss : List Source) (e : Expression) → faults_over ss e ≡ [] → HeadFits (joined_columns ss) (bound_over ss e)
head_fits ss (Or' p a q b) f = refl
head_fits ss (And' p a q b) f = refl
head_fits ss (Not' p a) f = refl
head_fits ss (Compare' op p a q b) f = refl
head_fits ss (IsNull' deny p a) f = refl
head_fits ss (Between' deny p a q b r c) f = refl
head_fits ss (In' deny p a shape members) f = refl
head_fits ss (Add' op p a q b) f = tt
head_fits ss (Multiply' op p a q b) f = tt
head_fits ss (Sign' Plus p a) f = tt
head_fits ss (Sign' Minus p a) f = tt
head_fits ss (Number op m) f = number_fits (joined_columns ss) (signed op m)
head_fits ss (Text t) f = refl
head_fits ss (Truth b) f = refl
head_fits ss (Column name) f = name_fits ss None name (column_named ss None name) refl (left_nil (spot_faults (column_named ss None name)) _ f)
head_fits ss (ColumnOf table name) f = name_fits ss (Some table) name (column_named ss (Some table) name) refl (left_nil (spot_faults (column_named ss (Some table) name)) _ f)
head_fits ss (Brackets' p a) f = head_fits ss a f
head_fits ss CountAll f = absurd (cc)
head_fits ss (Call' g p a) f = absurd (cc)

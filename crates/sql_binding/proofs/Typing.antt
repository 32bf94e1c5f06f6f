-- The operands of a bound tree are of their types.
use Rattle.std.proofs.Common.{◌≡◌, ℕ, ◌+◌, List, [], ◌∷◌, ◌++◌, refl}
use Rattle.dby_types.specs.declared.state.SqlState.{SqlState}
use Rattle.dby_types.specs.declared.state.SqlState.TheVariants.{NotComparable, WrongOperand}
use Rattle.dby_types.specs.declared.value.Ty.{Ty}
use Rattle.dby_types.specs.declared.value.Ty.TheVariants.{Int}
use Rattle.dby_types.specs.declared.value.Ty.TheVariants.{Bool as Truths}
use Rattle.sql_ast.specs.declared.expression.Expression.{Expression, Or', And', Not', Compare', IsNull', Between', In', Add', Multiply', Sign', Number, Text, Truth, Column, ColumnOf, Brackets', CountAll, Call', Row_of-Expression, end_of-Expression, more_of-Expression}
use Rattle.sql_ast.specs.declared.expression.Sum.TheVariants.{Plus, Minus}
use Rattle.sql_binding.proofs.Placing.{left_nil, right_nil, unless_true}
use Rattle.sql_binding.specs.Expressions.{Scope, bound, bound_in, bound_over, calls}
use Rattle.sql_binding.specs.Faults.{faults, faults_in, as_truth, as_number, beside, operand_faults, condition_faults, faults_over}
use Rattle.sql_binding.specs.Kinds.{AreComparable, AreTypedBeside, HasKind, IsTyped}
use Rattle.sql_binding.specs.Names.{Source}
use Rattle.sql_binding.specs.Trees.{Tree, ty_of}
use Rattle.sql_binding.specs.Types.{same_kind}

kind_from : (ty : Ty) (own : List SqlState) (a : Tree) → own ++ operand_faults ty a ≡ [] → HasKind ty a
kind_from ty own a f = unless_true (same_kind ty (ty_of a)) WrongOperand (right_nil own _ f)

pair_from : (left : Tree) (own : List SqlState) (a : Tree) → beside left own a ≡ [] → AreComparable left a
pair_from left own a f = unless_true (same_kind (ty_of left) (ty_of a)) NotComparable (right_nil own _ f)

module _ (s : Scope) where
  mutual
    pub is_typed : (n : ℕ) (e : Expression) → faults s n e ≡ [] → IsTyped (bound s n e)
    is_typed n (Or' p a q b) f =
        let x : as_truth (faults s n a) (bound s n a) ≡ [] = left_nil _ _ f in
        let y : as_truth (faults s (n + calls a) b) (bound s (n + calls a) b) ≡ [] = right_nil (as_truth (faults s n a) (bound s n a)) _ f in (
          (is_typed n a (left_nil _ _ x), kind_from Truths (faults s n a) (bound s n a) x),
          (is_typed (n + calls a) b (left_nil _ _ y), kind_from Truths (faults s (n + calls a) b) (bound s (n + calls a) b) y),
        )
    is_typed n (And' p a q b) f =
        let x : as_truth (faults s n a) (bound s n a) ≡ [] = left_nil _ _ f in
        let y : as_truth (faults s (n + calls a) b) (bound s (n + calls a) b) ≡ [] = right_nil (as_truth (faults s n a) (bound s n a)) _ f in (
          (is_typed n a (left_nil _ _ x), kind_from Truths (faults s n a) (bound s n a) x),
          (is_typed (n + calls a) b (left_nil _ _ y), kind_from Truths (faults s (n + calls a) b) (bound s (n + calls a) b) y),
        )
    is_typed n (Not' p a) f = (is_typed n a (left_nil _ _ f), kind_from Truths (faults s n a) (bound s n a) f)
    is_typed n (Compare' op p a q b) f =
        let y : beside (bound s n a) (faults s (n + calls a) b) (bound s (n + calls a) b) ≡ [] = right_nil (faults s n a) _ f in
        (is_typed n a (left_nil _ _ f), (is_typed (n + calls a) b (left_nil _ _ y), pair_from (bound s n a) (faults s (n + calls a) b) (bound s (n + calls a) b) y))
    is_typed n (IsNull' deny p a) f = is_typed n a f
    is_typed n (Between' deny p a q b r c) f =
        let front : faults s n a ++ beside (bound s n a) (faults s (n + calls a) b) (bound s (n + calls a) b) ≡ [] = left_nil (faults s n a ++ beside (bound s n a) (faults s (n + calls a) b) (bound s (n + calls a) b)) _ f in
        let y : beside (bound s n a) (faults s (n + calls a) b) (bound s (n + calls a) b) ≡ [] = right_nil (faults s n a) _ front in
        let z : beside (bound s n a) (faults s (n + calls a + calls b) c) (bound s (n + calls a + calls b) c) ≡ [] = right_nil (faults s n a ++ beside (bound s n a) (faults s (n + calls a) b) (bound s (n + calls a) b)) _ f in (
          is_typed n a (left_nil _ _ front),
          (
            (is_typed (n + calls a) b (left_nil _ _ y), pair_from (bound s n a) (faults s (n + calls a) b) (bound s (n + calls a) b) y),
            (is_typed (n + calls a + calls b) c (left_nil _ _ z), pair_from (bound s n a) (faults s (n + calls a + calls b) c) (bound s (n + calls a + calls b) c) z),
          ),
        )
    is_typed n (In' deny p a shape members) f =
        (is_typed n a (left_nil _ _ f), are_typed (bound s n a) (n + calls a) members (right_nil (faults s n a) _ f))
    is_typed n (Add' op p a q b) f =
        let x : as_number (faults s n a) (bound s n a) ≡ [] = left_nil _ _ f in
        let y : as_number (faults s (n + calls a) b) (bound s (n + calls a) b) ≡ [] = right_nil (as_number (faults s n a) (bound s n a)) _ f in (
          (is_typed n a (left_nil _ _ x), kind_from Int (faults s n a) (bound s n a) x),
          (is_typed (n + calls a) b (left_nil _ _ y), kind_from Int (faults s (n + calls a) b) (bound s (n + calls a) b) y),
        )
    is_typed n (Multiply' op p a q b) f =
        let x : as_number (faults s n a) (bound s n a) ≡ [] = left_nil _ _ f in
        let y : as_number (faults s (n + calls a) b) (bound s (n + calls a) b) ≡ [] = right_nil (as_number (faults s n a) (bound s n a)) _ f in (
          (is_typed n a (left_nil _ _ x), kind_from Int (faults s n a) (bound s n a) x),
          (is_typed (n + calls a) b (left_nil _ _ y), kind_from Int (faults s (n + calls a) b) (bound s (n + calls a) b) y),
        )
    is_typed n (Sign' Plus p a) f = ((tt, refl), (is_typed n a (left_nil _ _ f), kind_from Int (faults s n a) (bound s n a) f))
    is_typed n (Sign' Minus p a) f = (is_typed n a (left_nil _ _ f), kind_from Int (faults s n a) (bound s n a) f)
    is_typed n (Number op m) f = tt
    is_typed n (Text t) f = tt
    is_typed n (Truth b) f = tt
    is_typed n (Column name) f = tt
    is_typed n (ColumnOf table name) f = tt
    is_typed n (Brackets' p a) f = is_typed n a f
    is_typed n CountAll f = tt
    is_typed n (Call' g p a) f = tt

    pub are_typed : {m : _} → (left : Tree) (n : ℕ) (row : Row_of-Expression m) → faults_in s left n row ≡ [] → AreTypedBeside left (bound_in s n row)
    are_typed left n end_of-Expression f = tt
    are_typed left n (more_of-Expression e rest) f =
        let x : beside left (faults s n e) (bound s n e) ≡ [] = left_nil _ _ f in (
          (is_typed n e (left_nil _ _ x), pair_from left (faults s n e) (bound s n e) x),
          are_typed left (n + calls e) rest (right_nil (beside left (faults s n e) (bound s n e)) _ f),
        )

-- a condition is a truth value
pub condition_typed : (ss : List Source) (c : Expression) → condition_faults ss (c ∷ []) ≡ [] → HasKind Truths (bound_over ss c)
condition_typed ss c f = kind_from Truths (faults_over ss c) (bound_over ss c) (left_nil _ _ f)

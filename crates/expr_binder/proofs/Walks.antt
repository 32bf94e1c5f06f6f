-- Walks put together.
use Rattle.std.proofs.Common.{◌≡◌, ℕ, ◌+◌, List, [], ◌∷◌, ◌++◌, Option, Some, None, refl, sym, ap, ◌∙◌, append_assoc, append-nil, arith}
use Rattle.std.specs.Prelude.{map}
use Rattle.dby_types.specs.declared.state.SqlState.{SqlState}
use Rattle.sql_binding.proofs.Refusing.{kept_as_they_come}
use Rattle.sql_binding.specs.Bound.{Sum, sum_in}
use Rattle.sql_binding.specs.Order.{kept_with, refusal_of}
use Rattle.expr_binder.specs.Walking.{kept, Walked}
use Rattle.expr_binder.specs.declared.walk.Walk.{Walk}

-- what is told so far, as a list
abbrev told : Option SqlState → List SqlState
told None = []
told (Some why) = why ∷ []

kept_is : (o : Option SqlState) (fs : List SqlState) → kept o fs ≡ refusal_of (told o ++ fs)
kept_is None fs = refl
kept_is (Some why) fs = refl

told_is : (o : Option SqlState) → refusal_of (told o) ≡ o
told_is None = refl
told_is (Some why) = refl

-- one behind the other
pub kept_then : (o : Option SqlState) (fs gs : List SqlState) → kept (kept o fs) gs ≡ kept o (fs ++ gs)
kept_then o fs gs =
    ap (λ (u : Option SqlState). kept_with u (refusal_of gs)) (kept_is o fs)
    ∙ sym (kept_as_they_come (told o ++ fs) gs)
    ∙ ap refusal_of (append_assoc (told o) fs gs)
    ∙ sym (kept_is o (fs ++ gs))

pub stays : (a : Walk) → Walked a a [] 0 []
stays a = record { fault = at a.fault; next = let h : a.next ≡ a.next + 0 = omega arith in h; totals = sym (append-nil (map sum_in a.totals)) }
  where
    at : (o : Option SqlState) → o ≡ kept o []
    at None = refl
    at (Some why) = refl

pub walked_on : (a b c : Walk) (fs gs : List SqlState) (n m : ℕ) (ss ts : List Sum) → Walked a b fs n ss → Walked b c gs m ts → Walked a c (fs ++ gs) (n + m) (ss ++ ts)
walked_on a b c fs gs n m ss ts h k = record {
  fault = k.fault ∙ ap (λ (o : Option SqlState). kept o gs) h.fault ∙ kept_then a.fault fs gs;
  next = (let left : b.next ≡ a.next + n = h.next in let right : c.next ≡ b.next + m = k.next in let both : c.next ≡ a.next + (n + m) = omega arith in both);
  totals = k.totals ∙ ap (λ (l : List Sum). l ++ ts) h.totals ∙ append_assoc (map sum_in a.totals) ss ts;
}

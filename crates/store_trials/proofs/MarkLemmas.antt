-- What an actor's mark is once one of them is written.
use Rattle.std.proofs.Common.{◌≡◌, ◌≢◌, ◌≤◌, ◌+◌, ℕ, List, [], ◌∷◌, refl, sym, ap, true, false, Bool, Option, Some, None, zero, suc, arith, slice_set, replicate}
use Rattle.store_trials.specs.Sent.{turn_of, turns_in, IsNew, cleared}

pub at_most_one : (x : Option Bool) → turn_of x ≤ 1
at_most_one None = omega arith
at_most_one (Some true) = omega arith
at_most_one (Some false) = omega arith

pub clear_here : (marks : List Bool) (a : ℕ) → turns_in (slice_set marks a false) a ≡ 0
clear_here [] a = refl
clear_here (m ∷ ms) zero = refl
clear_here (m ∷ ms) (suc a) = clear_here ms a

pub written_away : (marks : List Bool) (a : ℕ) (m : Bool) (b : ℕ) → b ≢ a → turns_in (slice_set marks a m) b ≡ turns_in marks b
written_away [] a m b ne = refl
written_away (x ∷ xs) zero m zero ne = absurd (ne refl)
written_away (x ∷ xs) zero m (suc b) ne = refl
written_away (x ∷ xs) (suc a) m zero ne = refl
written_away (x ∷ xs) (suc a) m (suc b) ne = written_away xs a m b (λ e. ne (ap suc e))

pub new_here : (marks : List Bool) (a : ℕ) → IsNew marks a → turns_in (slice_set marks a true) a ≡ turns_in marks a + 1
new_here [] a new = absurd (none new)
  where
    none : None ≡ Some false → ⊥
    none e = cc
new_here (m ∷ ms) zero new = ap (λ x. turn_of x + 1) (sym new)
new_here (m ∷ ms) (suc a) new = new_here ms a new

pub cleared_here : (marks : List Bool) (a : ℕ) → turns_in (cleared marks a true) a ≡ 0
cleared_here marks a = clear_here marks a

pub cleared_away : (marks : List Bool) (a : ℕ) (is_end : Bool) (b : ℕ) → b ≢ a → turns_in (cleared marks a is_end) b ≡ turns_in marks b
cleared_away marks a true b ne = written_away marks a false b ne
cleared_away marks a false b ne = refl

pub nobody_here : (n a : ℕ) → turns_in (replicate n false) a ≡ 0
nobody_here zero a = refl
nobody_here (suc n) zero = refl
nobody_here (suc n) (suc a) = nobody_here n a

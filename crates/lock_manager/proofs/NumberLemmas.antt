-- How many names pass a test.
use Rattle.std.proofs.Common.{◌≡◌, ℕ, ◌<◌, ◌≤◌, subst, Bool, true, false, refl, sym, ◌∙◌, ap, List, [], ◌∷◌, length, arith}
use Rattle.std.specs.Prelude.{◌&&◌, IsTrue, ◌↔◌, nat_lt}
use Rattle.std.specs.List.{list_any, IsDistinct}
use Rattle.std.proofs.lemmas.Bool.{both_ways, or_left, ltb-true, ltb-false}
use Rattle.lock_modes.specs.declared.name.LockName.{LockName}
use Rattle.lock_modes.specs.Modes.{no_modes, is_held, writes, is_ranged}
use Rattle.lock_modes.specs.Names.{same_name, is_row_name}
use Rattle.lock_modes.specs.Waits.{IsNumber}
use Rattle.lock_modes.proofs.ModesLemmas.{held_none}
use Rattle.lock_modes.proofs.NamesLemmas.{name_refl}

and_no : (a : Bool) → (a && false) ≡ false
and_no true = refl
and_no false = refl

distinct_nil : IsDistinct same_name []
unfolding IsDistinct
distinct_nil = tt

-- no name passes
none_number : (test : LockName → Bool) → ((n : LockName) → test n ≡ false) → IsNumber test 0
none_number test none = record { names = []; apart = distinct_nil; exact = λ n. sym (none n); long = refl }

pub none_held : IsNumber (λ n. is_held no_modes) 0
none_held = none_number (λ n. is_held no_modes) (λ n. held_none)

pub none_rows : (table : ℕ) → IsNumber (λ n. is_row_name table n && is_held no_modes) 0
none_rows table = none_number (λ n. is_row_name table n && is_held no_modes) (λ n. ap (λ b. is_row_name table n && b) held_none ∙ and_no (is_row_name table n))

pub none_written : (table : ℕ) → IsNumber (λ n. is_row_name table n && writes no_modes) 0
none_written table = none_number (λ n. is_row_name table n && writes no_modes) (λ n. and_no (is_row_name table n))

pub none_ranged : IsNumber (λ n. is_ranged no_modes) 0
none_ranged = none_number (λ n. is_ranged no_modes) (λ n. refl)

-- one name passes where the number isn't 0
first_of : (names : List LockName) → 0 < length names → (n : LockName) × (list_any (same_name n) names ≡ true)
first_of [] h = absurd (omega (arith, h))
first_of (x ∷ xs) h = (x, or_left _ _ (name_refl x))

pub some_of : (test : LockName → Bool) (k : ℕ) → IsNumber test k → 0 < k → (n : LockName) × (test n ≡ true)
some_of test k s h =
    let l = s.long in
    let f = first_of s.names (omega (arith, l, h)) in
    (f.0, sym (s.exact f.0) ∙ f.1)

none_of : (test : LockName → Bool) → IsNumber test 0 → (n : LockName) → test n ≡ true → ⊥
none_of test s n h = both_ways _ (nothing s.names s.long ∙ refl) (s.exact n ∙ h)
  where
    nothing : (names : List LockName) → length names ≡ 0 → list_any (same_name n) names ≡ false
    nothing [] e = refl
    nothing (x ∷ xs) e = absurd (omega (arith, e))

pub number_positive : (test : LockName → Bool) (k : ℕ) → IsNumber test k → (n : LockName) → test n ≡ true → nat_lt 0 k ≡ true
number_positive test k s n h =
    let cases = λ (b : Bool) (e : nat_lt 0 k ≡ b).
    (elim b as (λ x. nat_lt 0 k ≡ x → nat_lt 0 k ≡ true) [
      | true ↦ λ t. t
      | false ↦ λ f. (let l : k ≤ 0 = ltb-false 0 k f in let z : k ≡ 0 = omega (arith, l) in absurd (none_of test (subst (λ (j : ℕ). IsNumber test j) z s) n h))
    ]) e in
    cases (nat_lt 0 k) refl

-- whether the number isn't 0 tells whether a name passes
pub number_tells : (test : LockName → Bool) (k : ℕ) → IsNumber test k → IsTrue (nat_lt 0 k) ↔ ((n : LockName) × (test n ≡ true))
number_tells test k s = (λ h. some_of test k s (ltb-true 0 k h), λ x. number_positive test k s x.0 x.1)

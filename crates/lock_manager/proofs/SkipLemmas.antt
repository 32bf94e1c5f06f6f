-- Stretches of a line without requests for names that pass a test.
use Rattle.std.proofs.Common.{◌≡◌, ℕ, suc, ◌+◌, ◌<◌, ◌≤◌, Bool, true, false, refl, sym, ◌∙◌, ap, cond, List, [], ◌∷◌, length, get_or, arith, Option, Some}
use Rattle.std.specs.Prelude.{◌||◌, nat_lt}
use Rattle.std.specs.Option.{unwrap_or}
use Rattle.std.specs.Map.{lookup}
use Rattle.std.specs.List.{slice_get}
use Rattle.std.proofs.lemmas.Bool.{ltb-true, ltb-false}
use Rattle.std.proofs.lemmas.Option.{get_or_from_slice_get}
use Rattle.lock_modes.specs.declared.entry.Request.{Request}
use Rattle.lock_modes.specs.declared.name.LockName.{LockName}
use Rattle.lock_modes.specs.declared.modes.Modes.{Modes}
use Rattle.lock_modes.specs.Modes.{is_held, no_modes}
use Rattle.lock_modes.specs.Names.{same_name}
use Rattle.lock_modes.proofs.ModesLemmas.{held_none}
use Rattle.lock_manager.specs.Asked.{asks_for, asked_before, IsNumbered}
use Rattle.lock_manager.specs.Freed.{Skips, SkipsNames}
use Rattle.lock_manager.proofs.AskedLemmas.{asks_short}
use Rattle.lock_manager.proofs.StandingLemmas.{before_up, before_most, none_here, name_flip}

pub skips_none : (p : LockName → Bool) (rs : List Request) (i : ℕ) → i ≤ length rs → Skips p rs i i
skips_none p rs i within = record { from = omega arith; within = within; none = λ k low high. absurd (omega (arith, low, high)) }

-- one stretch behind another
pub skips_on : (p : LockName → Bool) (rs : List Request) (i j k : ℕ) → Skips p rs i j → Skips p rs j k → Skips p rs i k
skips_on p rs i j k a b = record { from = (let x = a.from in let y = b.from in omega (arith, x, y)); within = b.within; none = λ m low high q there. cases m low high q there (nat_lt m j) refl }
  where
    cases : (m : ℕ) → i ≤ m → m < k → (q : Request) → slice_get rs m ≡ Some q → (w : Bool) → nat_lt m j ≡ w → p q.name ≡ false
    cases m low high q there true s = a.none m low (ltb-true m j s) q there
    cases m low high q there false s = b.none m (ltb-false m j s) high q there

pub skips_step : (p : LockName → Bool) (rs : List Request) (i j : ℕ) (d : Request) → j < length rs → p (get_or rs j d).name ≡ false → Skips p rs i j → Skips p rs i (j + 1)
skips_step p rs i j d within none a = record { from = (let x = a.from in omega (arith, x)); within = omega (arith, within); none = λ m low high q there. cases m low high q there (nat_lt m j) refl }
  where
    cases : (m : ℕ) → i ≤ m → m < j + 1 → (q : Request) → slice_get rs m ≡ Some q → (w : Bool) → nat_lt m j ≡ w → p q.name ≡ false
    cases m low high q there true s = a.none m low (ltb-true m j s) q there
    cases m low high q there false s =
        let least = ltb-false m j s in
        let is : m ≡ j = omega (arith, least, high) in
        let same : q ≡ get_or rs j d = sym (get_or_from_slice_get rs m q d there) ∙ ap (λ x. get_or rs x d) is in
        ap (λ (x : Request). p x.name) same ∙ none

-- a shorter stretch, and one of names that pass either test
pub skips_either : (p t : LockName → Bool) (rs : List Request) (i j k : ℕ) → Skips t rs i j → Skips p rs i k → k ≤ j → Skips (λ n. p n || t n) rs i k
skips_either p t rs i j k a b less = record {
  from = b.from;
  within = b.within;
  none = λ m low high q there. both (p q.name) (t q.name) (b.none m low high q there) (a.none m low (omega (arith, high, less)) q there);
}
  where
    both : (x y : Bool) → x ≡ false → y ≡ false → (x || y) ≡ false
    both x y h g = ap (λ w. w || y) h ∙ g

-- what a name's list tells
pub skips_to : (n : LockName) (rs : List Request) (i p k : ℕ) → k ≡ asked_before n rs i → IsNumbered n rs p k → Skips (same_name n) rs i p
skips_to n rs i p k is at = record {
  from = order (nat_lt p i) refl;
  within = (let x = at.within in omega (arith, x));
  none = λ m low high q there. none_here n rs i m q low there (let up = before_up n rs (suc m) p (omega (arith, high)) in let x = at.before in omega (arith, up, x, is));
}
  where
    order : (w : Bool) → nat_lt p i ≡ w → i ≤ p
    order true s =
        let less = ltb-true p i s in
        let up = before_up n rs (suc p) i (omega (arith, less)) in
        let x = at.through in
        absurd (omega (arith, up, x, is))
    order false s = ltb-false p i s

pub skips_rest : (n : LockName) (rs : List Request) (i k : ℕ) → i ≤ length rs → k ≡ asked_before n rs i → length (asks_for n rs) ≤ k → Skips (same_name n) rs i (length rs)
skips_rest n rs i k start is end = record {
  from = start;
  within = omega arith;
  none = λ m low high q there. none_here n rs i m q low there (let most = before_most n rs (suc m) in omega (arith, most, end, is));
}

-- whether the request at a place of a name's list stands before a place of the line
pub stands_before : (n : LockName) (rs : List Request) (i p k : ℕ) → IsNumbered n rs p k → p < i → k < asked_before n rs i
stands_before n rs i p k at less = let up = before_up n rs (suc p) i (omega (arith, less)) in let x = at.through in omega (arith, up, x)

pub stands_behind : (n : LockName) (rs : List Request) (i p k : ℕ) → IsNumbered n rs p k → i ≤ p → asked_before n rs i ≤ k
stands_behind n rs i p k at less = let up = before_up n rs i p less in let x = at.before in omega (arith, up, x)

pub stands_nowhere : (n : LockName) (rs : List Request) (i k : ℕ) → length (asks_for n rs) ≤ k → asked_before n rs i ≤ k
stands_nowhere n rs i k end = let most = before_most n rs i in omega (arith, most, end)

-- a name's list is no longer than the line
pub before_length : (n : LockName) (rs : List Request) (i : ℕ) → asked_before n rs i ≤ length rs
before_length n rs i = let most = before_most n rs i in let short = asks_short n rs in omega (arith, most, short)

-- names that were asked about, one by one
pub names_start : (es : List (LockName × Modes)) (rs : List Request) (i j : ℕ) → SkipsNames es es rs i j
names_start es rs i j = λ k low high q there. refl

pub names_next : (es left : List (LockName × Modes)) (e : LockName × Modes) (rs : List Request) (i j k : ℕ) → SkipsNames es (e ∷ left) rs i j → (to : ℕ) → Skips (same_name e.0) rs i to → k ≤ j → k ≤ to → SkipsNames es left rs i k
names_next es left e rs i j k passed to skips first second = λ m low high q there.
    passed m low (omega (arith, high, first)) q there
    ∙ ap (λ b. cond b (Some e.1) (lookup (same_name q.name) left)) (name_flip q.name e.0 (skips.none m low (omega (arith, high, second)) q there))

pub names_end : (es : List (LockName × Modes)) (rs : List Request) (i j : ℕ) → i ≤ j → j ≤ length rs → SkipsNames es [] rs i j → Skips (λ n. is_held (unwrap_or (lookup (same_name n) es) no_modes)) rs i j
names_end es rs i j from within passed = record {
  from = from;
  within = within;
  none = λ k low high q there. ap (λ (o : Option Modes). is_held (unwrap_or o no_modes)) (passed k low high q there) ∙ held_none;
}

-- Each transaction's list of changes goes by itself.
use Rattle.std.proofs.Common.{◌≡◌, ◌≢◌, ℕ, List, [], ◌∷◌, refl, sym, ◌∙◌, ap, arith, inl, inr}
use Rattle.std.specs.Prelude.{◌==◌, if◌then◌else◌}
use Rattle.std.proofs.lemmas.Bool.Decides.{nat_tests}
use Rattle.std.proofs.lemmas.Bool.{cases_eq}
use Rattle.table_model.specs.Tables.{rest_of}
use Rattle.log_model.specs.Places.{Change}
use Rattle.log_model.specs.Steps.{Step, changes_of, without, without_newest}
use Rattle.log_model.specs.Steps.Step.{change, compensation, commit, rolled_back, silent}
use Rattle.log_model.specs.States.{State, stepped}
use Rattle.log_model.specs.Apiece.{list_after}
use Rattle.log_model.proofs.Lists.{without_mine, without_other, changes_mine, changes_other, rest_mine, rest_other, changes_without, others_stay}

if_mine : {Y : Type 0} (u t : ℕ) (x y : Y) → u ≡ t → (if u == t then x else y) ≡ x
if_mine u t x y e = grind (arith, nat_tests)

if_other : {Y : Type 0} (u t : ℕ) (x y : Y) → u ≢ t → (if u == t then x else y) ≡ y
if_other u t x y ne = grind (arith, nat_tests)

module _ {X : Type 0} where
  -- without the newest one of them
  rest_left : (t : ℕ) (cs : List (Change X)) → changes_of t (without_newest t cs) ≡ rest_of (changes_of t cs)
  rest_left t [] = refl
  rest_left t (c ∷ cs) = elim (cases_eq c.txn t) [
    | inl e ↦ ap (changes_of t) (rest_mine t c cs e) ∙ sym (ap rest_of (changes_mine t c cs e))
    | inr ne ↦ ap (changes_of t) (rest_other t c cs ne) ∙ changes_other t c (without_newest t cs) ne ∙ rest_left t cs ∙ sym (ap rest_of (changes_other t c cs ne))
  ]

  -- and without all of them
  none_left : (t : ℕ) (cs : List (Change X)) → changes_of t (without t cs) ≡ []
  none_left t [] = refl
  none_left t (c ∷ cs) = elim (cases_eq c.txn t) [
    | inl e ↦ ap (changes_of t) (without_mine t c cs e) ∙ none_left t cs
    | inr ne ↦ ap (changes_of t) (without_other t c cs ne) ∙ changes_other t c (without t cs) ne ∙ none_left t cs
  ]

  ended : (t u : ℕ) (cs : List (Change X)) → changes_of t (without u cs) ≡ (if u == t then [] else changes_of t cs)
  ended t u cs = elim (cases_eq u t) [
    | inl e ↦ ap (λ v. changes_of t (without v cs)) e ∙ none_left t cs ∙ sym (if_mine u t [] (changes_of t cs) e)
    | inr ne ↦ changes_without u t cs (λ e. ne (sym e)) ∙ sym (if_other u t [] (changes_of t cs) ne)
  ]

  pub lists_follow : (s : State X) (r : Step X) (t : ℕ) → changes_of t (stepped s r).standing ≡ list_after t (changes_of t s.standing) r
  lists_follow s (change c) t = refl
  lists_follow s (compensation c) t = elim (cases_eq c.txn t) [
    | inl e ↦ ap (λ u. changes_of t (without_newest u s.standing)) e ∙ rest_left t s.standing ∙ sym (if_mine c.txn t (rest_of (changes_of t s.standing)) (changes_of t s.standing) e)
    | inr ne ↦ others_stay c.txn t s.standing (λ e. ne (sym e)) ∙ sym (if_other c.txn t (rest_of (changes_of t s.standing)) (changes_of t s.standing) ne)
  ]
  lists_follow s (commit u) t = ended t u s.standing
  lists_follow s (rolled_back u) t = ended t u s.standing
  lists_follow s silent t = refl

-- The changes of one transaction, and of all others, in a list of changes.
use Rattle.std.proofs.Common.{◌≡◌, ◌≢◌, ℕ, List, [], ◌∷◌, Option, Some, None, refl, sym, ◌∙◌, ap, subst, arith, inl, inr}
use Rattle.std.specs.Option.{unwrap_or}
use Rattle.std.proofs.lemmas.Bool.Decides.{nat_tests}
use Rattle.std.proofs.lemmas.Bool.{cases_eq}
use Rattle.table_model.specs.Tables.{Each}
use Rattle.log_model.specs.Places.{Change}
use Rattle.log_model.specs.Steps.{changes_of, without, newest_of, without_newest}
use Rattle.log_model.specs.States.{AreApart}

pub none_is_none : {Y : Type 0} {x : Y} → None ≡ Some x → ⊥
none_is_none e = cc

pub cons_is_none : {Y : Type 0} {x : Y} {xs : List Y} → x ∷ xs ≡ [] → ⊥
cons_is_none e = cc

module _ {X : Type 0} where
  pub without_mine : (t : ℕ) (c : Change X) (cs : List (Change X)) → c.txn ≡ t → without t (c ∷ cs) ≡ without t cs
  without_mine t c cs e = grind (arith, nat_tests)

  pub without_other : (t : ℕ) (c : Change X) (cs : List (Change X)) → c.txn ≢ t → without t (c ∷ cs) ≡ c ∷ without t cs
  without_other t c cs ne = grind (arith, nat_tests)

  pub changes_mine : (t : ℕ) (c : Change X) (cs : List (Change X)) → c.txn ≡ t → changes_of t (c ∷ cs) ≡ c ∷ changes_of t cs
  changes_mine t c cs e = grind (arith, nat_tests)

  pub changes_other : (t : ℕ) (c : Change X) (cs : List (Change X)) → c.txn ≢ t → changes_of t (c ∷ cs) ≡ changes_of t cs
  changes_other t c cs ne = grind (arith, nat_tests)

  pub rest_mine : (t : ℕ) (c : Change X) (cs : List (Change X)) → c.txn ≡ t → without_newest t (c ∷ cs) ≡ cs
  rest_mine t c cs e = grind (arith, nat_tests)

  pub rest_other : (t : ℕ) (c : Change X) (cs : List (Change X)) → c.txn ≢ t → without_newest t (c ∷ cs) ≡ c ∷ without_newest t cs
  rest_other t c cs ne = grind (arith, nat_tests)

  pub newest_mine : (t : ℕ) (c : Change X) (cs : List (Change X)) → c.txn ≡ t → newest_of t (c ∷ cs) ≡ Some c
  newest_mine t c cs e = grind (arith, nat_tests)

  pub newest_other : (t : ℕ) (c : Change X) (cs : List (Change X)) → c.txn ≢ t → newest_of t (c ∷ cs) ≡ newest_of t cs
  newest_other t c cs ne = grind (arith, nat_tests)

  -- what holds of each holds of those that are left
  pub each_without : (P : Change X → Type 0) (t : ℕ) (cs : List (Change X)) → Each P cs → Each P (without t cs)
  each_without P t [] h = tt
  each_without P t (c ∷ cs) h = elim (cases_eq c.txn t) [
    | inl e ↦ subst (Each P) (sym (without_mine t c cs e)) (each_without P t cs h.1)
    | inr ne ↦ subst (Each P) (sym (without_other t c cs ne)) (h.0, each_without P t cs h.1)
  ]

  pub each_rest : (P : Change X → Type 0) (t : ℕ) (cs : List (Change X)) → Each P cs → Each P (without_newest t cs)
  each_rest P t [] h = tt
  each_rest P t (c ∷ cs) h = elim (cases_eq c.txn t) [
    | inl e ↦ subst (Each P) (sym (rest_mine t c cs e)) h.1
    | inr ne ↦ subst (Each P) (sym (rest_other t c cs ne)) (h.0, each_rest P t cs h.1)
  ]

  -- of the others it holds without a premise on the transaction
  pub each_others : (P : Change X → Type 0) (t : ℕ) (cs : List (Change X)) → Each (λ (c : Change X). c.txn ≢ t → P c) cs → Each P (without t cs)
  each_others P t [] h = tt
  each_others P t (c ∷ cs) h = elim (cases_eq c.txn t) [
    | inl e ↦ subst (Each P) (sym (without_mine t c cs e)) (each_others P t cs h.1)
    | inr ne ↦ subst (Each P) (sym (without_other t c cs ne)) (h.0 ne, each_others P t cs h.1)
  ]

  pub apart_without : (t : ℕ) (cs : List (Change X)) → AreApart cs → AreApart (without t cs)
  apart_without t [] h = tt
  apart_without t (c ∷ cs) h = elim (cases_eq c.txn t) [
    | inl e ↦ subst AreApart (sym (without_mine t c cs e)) (apart_without t cs h.1)
    | inr ne ↦ subst AreApart (sym (without_other t c cs ne)) (each_without _ t cs h.0, apart_without t cs h.1)
  ]

  pub apart_rest : (t : ℕ) (cs : List (Change X)) → AreApart cs → AreApart (without_newest t cs)
  apart_rest t [] h = tt
  apart_rest t (c ∷ cs) h = elim (cases_eq c.txn t) [
    | inl e ↦ subst AreApart (sym (rest_mine t c cs e)) h.1
    | inr ne ↦ subst AreApart (sym (rest_other t c cs ne)) (each_rest _ t cs h.0, apart_rest t cs h.1)
  ]

  -- the newest of a transaction is of it, and one of the list
  pub newest_txn : (t : ℕ) (cs : List (Change X)) (c : Change X) → newest_of t cs ≡ Some c → c.txn ≡ t
  newest_txn t [] c n = absurd (none_is_none n)
  newest_txn t (d ∷ cs) c n = elim (cases_eq d.txn t) [
    | inl e ↦ ap (λ (o : Option (Change X)). (unwrap_or o d).txn) (sym n ∙ newest_mine t d cs e) ∙ e
    | inr ne ↦ newest_txn t cs c (sym (newest_other t d cs ne) ∙ n)
  ]

  pub head_is : (t : ℕ) (d : Change X) (cs : List (Change X)) (c : Change X) → d.txn ≡ t → newest_of t (d ∷ cs) ≡ Some c → d ≡ c
  head_is t d cs c e n = ap (λ (o : Option (Change X)). unwrap_or o d) (sym (newest_mine t d cs e) ∙ n)

  pub newest_among : (P : Change X → Type 0) (t : ℕ) (cs : List (Change X)) (c : Change X) → newest_of t cs ≡ Some c → Each P cs → P c
  newest_among P t [] c n h = absurd (none_is_none n)
  newest_among P t (d ∷ cs) c n h = elim (cases_eq d.txn t) [
    | inl e ↦ subst P (head_is t d cs c e n) h.0
    | inr ne ↦ newest_among P t cs c (sym (newest_other t d cs ne) ∙ n) h.1
  ]

  -- a transaction's changes are its newest and the rest of them
  pub changes_rest : (t : ℕ) (cs : List (Change X)) (c : Change X) → newest_of t cs ≡ Some c → changes_of t cs ≡ c ∷ changes_of t (without_newest t cs)
  changes_rest t [] c n = absurd (none_is_none n)
  changes_rest t (d ∷ cs) c n = elim (cases_eq d.txn t) [
    | inl e ↦ changes_mine t d cs e ∙ ap (λ (x : Change X). x ∷ changes_of t cs) (head_is t d cs c e n) ∙ ap (λ (x : List (Change X)). c ∷ changes_of t x) (sym (rest_mine t d cs e))
    | inr ne ↦ changes_other t d cs ne ∙ changes_rest t cs c (sym (newest_other t d cs ne) ∙ n)
        ∙ ap (λ (x : List (Change X)). c ∷ x) (sym (ap (changes_of t) (rest_other t d cs ne) ∙ changes_other t d (without_newest t cs) ne))
  ]

  -- those of any other stay
  pub others_stay : (t u : ℕ) (cs : List (Change X)) → u ≢ t → changes_of u (without_newest t cs) ≡ changes_of u cs
  others_stay t u [] ne = refl
  others_stay t u (d ∷ cs) ne = elim (cases_eq d.txn t) [
    | inl e ↦ ap (changes_of u) (rest_mine t d cs e) ∙ sym (changes_other u d cs (λ k. ne (sym k ∙ e)))
    | inr other ↦ ap (changes_of u) (rest_other t d cs other) ∙ elim (cases_eq d.txn u) [
      | inl k ↦ changes_mine u d (without_newest t cs) k ∙ ap (λ (x : List (Change X)). d ∷ x) (others_stay t u cs ne) ∙ sym (changes_mine u d cs k)
      | inr k ↦ changes_other u d (without_newest t cs) k ∙ others_stay t u cs ne ∙ sym (changes_other u d cs k)
    ]
  ]

  -- a list's changes of a transaction without another's
  pub changes_without : (t u : ℕ) (cs : List (Change X)) → u ≢ t → changes_of u (without t cs) ≡ changes_of u cs
  changes_without t u [] ne = refl
  changes_without t u (c ∷ cs) ne = elim (cases_eq c.txn t) [
    | inl e ↦ ap (changes_of u) (without_mine t c cs e) ∙ changes_without t u cs ne ∙ sym (changes_other u c cs (λ k. ne (sym k ∙ e)))
    | inr other ↦ ap (changes_of u) (without_other t c cs other) ∙ elim (cases_eq c.txn u) [
      | inl k ↦ changes_mine u c (without t cs) k ∙ ap (λ (x : List (Change X)). c ∷ x) (changes_without t u cs ne) ∙ sym (changes_mine u c cs k)
      | inr k ↦ changes_other u c (without t cs) k ∙ changes_without t u cs ne ∙ sym (changes_other u c cs k)
    ]
  ]

  -- none of a transaction: all are of others
  pub without_none : (t : ℕ) (cs : List (Change X)) → changes_of t cs ≡ [] → without t cs ≡ cs
  without_none t [] none = refl
  without_none t (c ∷ cs) none = elim (cases_eq c.txn t) [
    | inl e ↦ absurd (cons_is_none (sym (changes_mine t c cs e) ∙ none))
    | inr ne ↦ without_other t c cs ne ∙ ap (λ (x : List (Change X)). c ∷ x) (without_none t cs (sym (changes_other t c cs ne) ∙ none))
  ]

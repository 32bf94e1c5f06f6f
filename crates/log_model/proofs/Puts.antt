-- What is put at a place, and what changes made or taken back leave elsewhere.
use Rattle.std.proofs.Common.{◌≡◌, ◌≢◌, ◌⊎◌, List, [], ◌∷◌, ◌++◌, true, false, refl, sym, ◌∙◌, ap, subst, inl, inr}
use Rattle.std.specs.Prelude.{if◌then◌else◌}
use Rattle.std.proofs.lemmas.Bool.{and_parts, and_from, eqb-true, eq-eqb, false_from_ne_true, cases_Bool}
use Rattle.std.proofs.lemmas.Slice.Eq.{bytes_eq-Decides}
use Rattle.table_model.specs.Tables.{Each}
use Rattle.log_model.specs.Places.{Place, Database, Same, Change, is_same, put, laid_over, taken_back, after_commits}

place_is : (p q : Place) → is_same p q ≡ true → p ≡ q
place_is p q h =
    let both = and_parts _ _ h in
    let container = eqb-true p.container q.container both.0 in
    let key = (bytes_eq-Decides p.key q.key).0 both.1 in
    λ i. record { container = container i; key = key i }

place_same : (p q : Place) → p ≡ q → is_same p q ≡ true
place_same p q e = subst (λ (x : Place). is_same p x ≡ true) e (and_from _ _ (eq-eqb p.container p.container refl) ((bytes_eq-Decides p.key p.key).1 refl))

place_other : (p q : Place) → p ≢ q → is_same p q ≡ false
place_other p q ne = false_from_ne_true _ (λ h. ne (place_is p q h))

-- two places are the same or they aren't
pub cases_place : (p q : Place) → (p ≡ q) ⊎ (p ≢ q)
cases_place p q = elim (cases_Bool (is_same p q)) [
  | inl e ↦ inl (place_is p q e)
  | inr e ↦ inr (λ same. both (sym (place_same p q same) ∙ e))
]
  where
    both : true ≡ false → ⊥
    both e = cc

module _ {X : Type 0} where
  pub put_here : (d : Database X) (p : Place) (x : X) (q : Place) → q ≡ p → put d p x q ≡ x
  put_here d p x q e = ap (λ b. if b then x else d q) (place_same q p e)

  pub put_elsewhere : (d : Database X) (p : Place) (x : X) (q : Place) → q ≢ p → put d p x q ≡ d q
  put_elsewhere d p x q ne = ap (λ b. if b then x else d q) (place_other q p ne)

  -- what is put depends on the same place alone
  pub put_at : (d e : Database X) (p : Place) (x : X) (q : Place) → d q ≡ e q → put d p x q ≡ put e p x q
  put_at d e p x q same = ap (λ y. if is_same q p then x else y) same

  -- what stood there back again
  pub put_back : (d : Database X) (p : Place) (x b : X) → b ≡ d p → Same (put (put d p x) p b) d
  put_back d p x b e q = elim (cases_place q p) [
    | inl here ↦ put_here (put d p x) p b q here ∙ e ∙ ap d (sym here)
    | inr ne ↦ put_elsewhere (put d p x) p b q ne ∙ put_elsewhere d p x q ne
  ]

  -- two puts at different places
  pub put_swap : (d : Database X) (p : Place) (x : X) (q : Place) (y : X) → p ≢ q → Same (put (put d p x) q y) (put (put d q y) p x)
  put_swap d p x q y other r = elim (cases_place r p) [
    | inl here ↦ put_elsewhere (put d p x) q y r (λ e. other (sym here ∙ e)) ∙ put_here d p x r here ∙ sym (put_here (put d q y) p x r here)
    | inr ne ↦ put_at (put d p x) d q y r (put_elsewhere d p x r ne) ∙ sym (put_elsewhere (put d q y) p x r ne)
  ]

  -- a put over what differs at that place alone
  pub put_over : (d e : Database X) (p : Place) (x : X) → d p ≡ x → ((q : Place) → q ≢ p → d q ≡ e q) → Same d (put e p x)
  put_over d e p x here there q = elim (cases_place q p) [
    | inl same ↦ ap d same ∙ here ∙ sym (put_here e p x q same)
    | inr ne ↦ there q ne ∙ sym (put_elsewhere e p x q ne)
  ]

  -- taking back reads the same place alone
  pub taken_back_at : (cs : List (Change X)) (d e : Database X) (p : Place) → d p ≡ e p → taken_back cs d p ≡ taken_back cs e p
  taken_back_at [] d e p same = same
  taken_back_at (c ∷ cs) d e p same = taken_back_at cs _ _ p (put_at d e c.place c.before p same)

  pub taken_back_same : (cs : List (Change X)) (d e : Database X) → Same d e → Same (taken_back cs d) (taken_back cs e)
  taken_back_same cs d e same p = taken_back_at cs d e p (same p)

  -- changes of other places leave a place as it is
  pub taken_back_elsewhere : (cs : List (Change X)) (d : Database X) (p : Place) → Each (λ (c : Change X). p ≢ c.place) cs → taken_back cs d p ≡ d p
  taken_back_elsewhere [] d p h = refl
  taken_back_elsewhere (c ∷ cs) d p h = taken_back_elsewhere cs _ p h.1 ∙ put_elsewhere d c.place c.before p h.0

  pub laid_over_at : (cs : List (Change X)) (d e : Database X) (p : Place) → d p ≡ e p → laid_over cs d p ≡ laid_over cs e p
  laid_over_at [] d e p same = same
  laid_over_at (c ∷ cs) d e p same = put_at (laid_over cs d) (laid_over cs e) c.place c.after p (laid_over_at cs d e p same)

  pub after_commits_at : (css : List (List (Change X))) (d e : Database X) (p : Place) → d p ≡ e p → after_commits d css p ≡ after_commits e css p
  after_commits_at [] d e p same = same
  after_commits_at (cs ∷ css) d e p same = after_commits_at css _ _ p (laid_over_at cs d e p same)

  pub after_commits_append : (d : Database X) (css more : List (List (Change X))) → after_commits d (css ++ more) ≡ after_commits (after_commits d css) more
  after_commits_append d [] more = refl
  after_commits_append d (cs ∷ css) more = after_commits_append (laid_over cs d) css more

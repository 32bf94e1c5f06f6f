-- What stands, taken back, is what the commits make: one lemma for a commit and one for a compensation.
use Rattle.std.proofs.Common.{◌≡◌, ◌≢◌, ℕ, List, [], ◌∷◌, Some, refl, sym, ◌∙◌, ap, subst, inl, inr}
use Rattle.std.proofs.lemmas.Bool.{cases_eq}
use Rattle.table_model.specs.Tables.{Each}
use Rattle.table_model.proofs.TablesLemmas.{each_map}
use Rattle.log_model.specs.Places.{Place, Database, Same, Change, put, laid_over, taken_back}
use Rattle.log_model.specs.Steps.{changes_of, without, newest_of, without_newest}
use Rattle.log_model.specs.States.{AreApart, AreStacked}
use Rattle.log_model.proofs.Puts.{put_elsewhere, put_at, put_swap, put_over, taken_back_at, taken_back_same, taken_back_elsewhere}
use Rattle.log_model.proofs.Lists.{without_mine, without_other, changes_mine, changes_other, rest_mine, rest_other, newest_other, none_is_none, each_others, newest_txn, newest_among, head_is}

module _ {X : Type 0} where
  pub stacked_same : (cs : List (Change X)) (d e : Database X) → Same d e → AreStacked d cs → AreStacked e cs
  stacked_same [] d e same h = tt
  stacked_same (c ∷ cs) d e same h = (sym (same c.place) ∙ h.0, stacked_same cs _ _ (λ p. put_at d e c.place c.before p (same p)) h.1)

  -- a put at another place doesn't matter
  stacked_elsewhere : (cs : List (Change X)) (d : Database X) (p : Place) (x : X) → Each (λ (c : Change X). p ≢ c.place) cs → AreStacked (put d p x) cs → AreStacked d cs
  stacked_elsewhere [] d p x h k = tt
  stacked_elsewhere (c ∷ cs) d p x h k = (
    sym (put_elsewhere d p x c.place (λ e. h.0 (sym e))) ∙ k.0,
    stacked_elsewhere cs (put d c.place c.before) p x h.1 (stacked_same cs _ _ (put_swap d p x c.place c.before h.0) k.1),
  )

  -- the others' changes are elsewhere
  others_elsewhere : (t : ℕ) (c : Change X) (cs : List (Change X)) → c.txn ≡ t → AreApart (c ∷ cs) → Each (λ (x : Change X). c.place ≢ x.place) (without t cs)
  others_elsewhere t c cs e a = each_others (λ (x : Change X). c.place ≢ x.place) t cs (each_map (λ (x : Change X). x.txn ≢ c.txn → c.place ≢ x.place) (λ (x : Change X). x.txn ≢ t → c.place ≢ x.place) (λ x k ne. k (λ e'. ne (e' ∙ e))) cs a.0)

  -- COMMIT: without the transaction's changes it is what was, with these laid over
  pub commit_stacked : (t : ℕ) (cs : List (Change X)) (d : Database X) → AreApart cs → AreStacked d cs → AreStacked d (without t cs)
  commit_stacked t [] d a h = tt
  commit_stacked t (c ∷ cs) d a h = elim (cases_eq c.txn t) [
    | inl e ↦ subst (AreStacked d) (sym (without_mine t c cs e)) (stacked_elsewhere (without t cs) d c.place c.before (others_elsewhere t c cs e a) (commit_stacked t cs _ a.1 h.1))
    | inr ne ↦ subst (AreStacked d) (sym (without_other t c cs ne)) (h.0, commit_stacked t cs _ a.1 h.1)
  ]

  pub commit_sound : (t : ℕ) (cs : List (Change X)) (d : Database X) → AreApart cs → AreStacked d cs → Same (taken_back (without t cs) d) (laid_over (changes_of t cs) (taken_back cs d))
  commit_sound t [] d a h p = refl
  commit_sound t (c ∷ cs) d a h p = elim (cases_eq c.txn t) [
    | inl e ↦
        let rest = commit_sound t cs (put d c.place c.before) a.1 h.1 in
        ap (λ (x : List (Change X)). taken_back x d p) (without_mine t c cs e)
        ∙ put_over (taken_back (without t cs) d) (laid_over (changes_of t cs) (taken_back (c ∷ cs) d)) c.place c.after
        (taken_back_elsewhere (without t cs) d c.place (others_elsewhere t c cs e a) ∙ h.0)
        (λ q ne. taken_back_at (without t cs) _ _ q (sym (put_elsewhere d c.place c.before q ne)) ∙ rest q) p
        ∙ sym (ap (λ (x : List (Change X)). laid_over x (taken_back (c ∷ cs) d) p) (changes_mine t c cs e))
    | inr ne ↦ ap (λ (x : List (Change X)). taken_back x d p) (without_other t c cs ne) ∙ commit_sound t cs _ a.1 h.1 p
        ∙ sym (ap (λ (x : List (Change X)). laid_over x (taken_back (c ∷ cs) d) p) (changes_other t c cs ne))
  ]

  -- the newest change of a transaction, below a change of another, is of another place
  below : (t : ℕ) (d : Change X) (cs : List (Change X)) (c : Change X) → d.txn ≢ t → newest_of t cs ≡ Some c → AreApart (d ∷ cs) → d.place ≢ c.place
  below t d cs c ne n a = newest_among (λ (x : Change X). x.txn ≢ d.txn → d.place ≢ x.place) t cs c n a.0 (λ e. ne (sym e ∙ newest_txn t cs c n))

  -- COMPENSATION: the newest change taken back, the others stand as they stood
  pub undo_stacked : (t : ℕ) (cs : List (Change X)) (d : Database X) (c : Change X) → newest_of t cs ≡ Some c → AreApart cs → AreStacked d cs → AreStacked (put d c.place c.before) (without_newest t cs)
  undo_stacked t [] d c n a h = absurd (none_is_none n)
  undo_stacked t (x ∷ cs) d c n a h = elim (cases_eq x.txn t) [
    | inl e ↦ subst (AreStacked (put d c.place c.before)) (sym (rest_mine t x cs e)) (subst (λ (y : Change X). AreStacked (put d y.place y.before) cs) (head_is t x cs c e n) h.1)
    | inr ne ↦
        let n' : newest_of t cs ≡ Some c = sym (newest_other t x cs ne) ∙ n in
        let apart : x.place ≢ c.place = below t x cs c ne n' a in
        subst (AreStacked (put d c.place c.before)) (sym (rest_other t x cs ne)) (
          put_elsewhere d c.place c.before x.place apart ∙ h.0,
          stacked_same (without_newest t cs) _ _ (put_swap d x.place x.before c.place c.before apart) (undo_stacked t cs (put d x.place x.before) c n' a.1 h.1),
        )
  ]

  pub undo_sound : (t : ℕ) (cs : List (Change X)) (d : Database X) (c : Change X) → newest_of t cs ≡ Some c → AreApart cs → Same (taken_back (without_newest t cs) (put d c.place c.before)) (taken_back cs d)
  undo_sound t [] d c n a p = absurd (none_is_none n)
  undo_sound t (x ∷ cs) d c n a p = elim (cases_eq x.txn t) [
    | inl e ↦ ap (λ (y : List (Change X)). taken_back y (put d c.place c.before) p) (rest_mine t x cs e)
        ∙ sym (ap (λ (y : Change X). taken_back cs (put d y.place y.before) p) (head_is t x cs c e n))
    | inr ne ↦
        let n' : newest_of t cs ≡ Some c = sym (newest_other t x cs ne) ∙ n in
        ap (λ (y : List (Change X)). taken_back y (put d c.place c.before) p) (rest_other t x cs ne)
        ∙ taken_back_same (without_newest t cs) _ _ (put_swap d c.place c.before x.place x.before (λ e. below t x cs c ne n' a (sym e))) p
        ∙ undo_sound t cs (put d x.place x.before) c n' a.1 p
  ]

  -- what the newest change of a transaction put there stands there
  pub newest_shows : (t : ℕ) (cs : List (Change X)) (d : Database X) (c : Change X) → newest_of t cs ≡ Some c → AreApart cs → AreStacked d cs → d c.place ≡ c.after
  newest_shows t [] d c n a h = absurd (none_is_none n)
  newest_shows t (x ∷ cs) d c n a h = elim (cases_eq x.txn t) [
    | inl e ↦ subst (λ (y : Change X). d y.place ≡ y.after) (head_is t x cs c e n) h.0
    | inr ne ↦
        let n' : newest_of t cs ≡ Some c = sym (newest_other t x cs ne) ∙ n in
        sym (put_elsewhere d x.place x.before c.place (λ e. below t x cs c ne n' a (sym e))) ∙ newest_shows t cs (put d x.place x.before) c n' a.1 h.1
  ]

-- Net changes, states as bases, and what follows an end.
use Rattle.std.proofs.Common.{◌≡◌, ◌≢◌, ℕ, List, [], ◌∷◌, ◌++◌, refl, sym, ◌∙◌, ap, subst, inl, inr, append_assoc, append-nil}
use Rattle.std.proofs.lemmas.Bool.{cases_eq}
use Rattle.table_model.specs.Tables.{Each}
use Rattle.table_model.proofs.TablesLemmas.{each_map}
use Rattle.log_model.specs.Places.{Place, Database, Same, Change, put, laid_over, taken_back, after_commits}
use Rattle.log_model.specs.Steps.{Step, IsOf, changes_of}
use Rattle.log_model.specs.Steps.Step.{change, compensation, commit, rolled_back, silent}
use Rattle.log_model.specs.States.{State, IsOpen, AreApart, AreStacked, MayFollow, IsLegal, IsSound, stepped, after}
use Rattle.log_model.specs.Bases.{net_of, as_base, FollowsBase}
use Rattle.log_model.proofs.Puts.{cases_place, put_here, put_elsewhere}
use Rattle.log_model.proofs.Lists.{changes_mine, changes_other}
use Rattle.log_model.proofs.States.{legal_rest}

module _ {X : Type 0} where
  -- net changes read what stands at the same place alone
  net_at : (cs : List (Change X)) (d e base : Database X) (p : Place) → d p ≡ e p → laid_over (net_of d cs) base p ≡ laid_over (net_of e cs) base p
  net_at [] d e base p same = refl
  net_at (c ∷ cs) d e base p same = elim (cases_place p c.place) [
    | inl here ↦ put_here (laid_over (net_of d cs) base) c.place (d c.place) p here ∙ ap d (sym here) ∙ same ∙ ap e here ∙ sym (put_here (laid_over (net_of e cs) base) c.place (e c.place) p here)
    | inr ne ↦ put_elsewhere (laid_over (net_of d cs) base) c.place (d c.place) p ne ∙ net_at cs d e base p same ∙ sym (put_elsewhere (laid_over (net_of e cs) base) c.place (e c.place) p ne)
  ]

  -- changes of other places leave a place as it is
  net_elsewhere : (cs : List (Change X)) (d e base : Database X) (p : Place) → Each (λ (c : Change X). p ≢ c.place) cs → laid_over (net_of d cs) base p ≡ laid_over (net_of e cs) base p
  net_elsewhere [] d e base p h = refl
  net_elsewhere (c ∷ cs) d e base p h = put_elsewhere (laid_over (net_of d cs) base) c.place (d c.place) p h.0 ∙ net_elsewhere cs d e base p h.1 ∙ sym (put_elsewhere (laid_over (net_of e cs) base) c.place (e c.place) p h.0)

  -- the changes of a transaction are elsewhere than those of another
  pub mine_elsewhere : (t : ℕ) (p : Place) (cs : List (Change X)) → Each (λ (c : Change X). c.txn ≡ t → p ≢ c.place) cs → Each (λ (c : Change X). p ≢ c.place) (changes_of t cs)
  mine_elsewhere t p [] h = tt
  mine_elsewhere t p (c ∷ cs) h = elim (cases_eq c.txn t) [
    | inl e ↦ subst (Each (λ (x : Change X). p ≢ x.place)) (sym (changes_mine t c cs e)) (h.0 e, mine_elsewhere t p cs h.1)
    | inr ne ↦ subst (Each (λ (x : Change X). p ≢ x.place)) (sym (changes_other t c cs ne)) (mine_elsewhere t p cs h.1)
  ]

  nets : (t : ℕ) (cs : List (Change X)) (d base : Database X) → AreApart cs → AreStacked d cs → Same (laid_over (changes_of t cs) base) (laid_over (net_of d (changes_of t cs)) base)
  nets t [] d base a h p = refl
  nets t (c ∷ cs) d base a h p =
      let below = put d c.place c.before in
      let rest = nets t cs below base a.1 h.1 in
      elim (cases_eq c.txn t) [
        | inl e ↦ ap (λ (x : List (Change X)). laid_over x base p) (changes_mine t c cs e)
            ∙ elim (cases_place p c.place) [
              | inl here ↦ put_here (laid_over (changes_of t cs) base) c.place c.after p here ∙ sym h.0 ∙ sym (put_here (laid_over (net_of d (changes_of t cs)) base) c.place (d c.place) p here)
              | inr ne ↦ put_elsewhere (laid_over (changes_of t cs) base) c.place c.after p ne ∙ rest p ∙ net_at (changes_of t cs) below d base p (put_elsewhere d c.place c.before p ne)
                  ∙ sym (put_elsewhere (laid_over (net_of d (changes_of t cs)) base) c.place (d c.place) p ne)
            ]
            ∙ sym (ap (λ (x : List (Change X)). laid_over (net_of d x) base p) (changes_mine t c cs e))
        | inr ne ↦ ap (λ (x : List (Change X)). laid_over x base p) (changes_other t c cs ne) ∙ rest p
            ∙ elim (cases_place p c.place) [
              | inl here ↦ net_elsewhere (changes_of t cs) below d base p (subst (λ (q : Place). Each (λ (x : Change X). q ≢ x.place) (changes_of t cs)) (sym here)
                  (mine_elsewhere t c.place cs (each_map (λ (x : Change X). x.txn ≢ c.txn → c.place ≢ x.place) (λ (x : Change X). x.txn ≡ t → c.place ≢ x.place) (λ x k e. k (λ e'. ne (sym e' ∙ e))) cs a.0)))
              | inr other ↦ net_at (changes_of t cs) below d base p (put_elsewhere d c.place c.before p other)
            ]
            ∙ sym (ap (λ (x : List (Change X)). laid_over (net_of d x) base p) (changes_other t c cs ne))
      ]

  pub commit_nets : (base : Database X) (s : State X) (t : ℕ) (d : Database X) → IsSound base s → Same (laid_over (changes_of t s.standing) d) (laid_over (net_of s.shown (changes_of t s.standing)) d)
  commit_nets base s t d ok = nets t s.standing s.shown d ok.apart ok.stacked

  -- the same state with other commits in front
  abbrev behind : List (List (Change X)) → State X → State X
  behind css s = record s { commits = css ++ s.commits }

  behind_step : (css : List (List (Change X))) (s : State X) (r : Step X) → stepped (behind css s) r ≡ behind css (stepped s r)
  behind_step css s (change c) = refl
  behind_step css s (compensation c) = refl
  behind_step css s (commit t) = λ i. record (stepped s (commit t)) { commits = append_assoc css s.commits (changes_of t s.standing ∷ []) i }
  behind_step css s (rolled_back t) = refl
  behind_step css s silent = refl

  behind_after : (css : List (List (Change X))) (s : State X) (log : List (Step X)) → after (behind css s) log ≡ behind css (after s log)
  behind_after css s [] = refl
  behind_after css s (r ∷ rs) = ap (λ (x : State X). after x rs) (behind_step css s r) ∙ behind_after css (stepped s r) rs

  behind_may : (css : List (List (Change X))) (s : State X) (r : Step X) → MayFollow (behind css s) r → MayFollow s r
  behind_may css s (change c) h = h
  behind_may css s (compensation c) h = h
  behind_may css s (commit t) h = h
  behind_may css s (rolled_back t) h = h
  behind_may css s silent h = h

  behind_legal : (css : List (List (Change X))) (s : State X) (log : List (Step X)) → IsLegal (behind css s) log → IsLegal s log
  behind_legal css s [] h = tt
  behind_legal css s (r ∷ rs) h = (behind_may css s r h.0, behind_legal css (stepped s r) rs (subst (λ (x : State X). IsLegal x rs) (behind_step css s r) h.1))

  -- a state is its base behind its commits
  is_behind : (s : State X) → s ≡ behind s.commits (as_base s)
  is_behind s = λ i. record s { commits = sym (append-nil s.commits) i }

  pub follows_base : (s : State X) (log : List (Step X)) → FollowsBase s log
  follows_base s log =
      let whole : after s log ≡ behind s.commits (after (as_base s) log) = ap (λ (x : State X). after x log) (is_behind s) ∙ behind_after s.commits (as_base s) log in
      record {
        legal = λ h. behind_legal s.commits (as_base s) log (subst (λ (x : State X). IsLegal x log) (is_behind s) h);
        shown = sym (ap (λ (x : State X). x.shown) whole);
        standing = sym (ap (λ (x : State X). x.standing) whole);
        commits = ap (λ (x : State X). x.commits) whole;
      }

  -- where nothing stands, the state is sound over what it shows, which is the base after its commits
  pub base_sound : (base : Database X) (s : State X) → IsSound base s → s.standing ≡ [] → IsSound s.shown (as_base s) × Same s.shown (after_commits base s.commits)
  base_sound base s ok none = (
    record { running = ok.running; apart = ok.apart; stacked = ok.stacked; same = λ p. ap (λ (x : List (Change X)). taken_back x s.shown p) none },
    (λ p. sym (ap (λ (x : List (Change X)). taken_back x s.shown p) none) ∙ ok.same p),
  )

  -- what ended stays so
  open_before : (t : ℕ) (s : State X) (r : Step X) → IsOpen t (stepped s r) → IsOpen t s
  open_before t s (change c) h = h
  open_before t s (compensation c) h = h
  open_before t s (commit u) h = h.1
  open_before t s (rolled_back u) h = h.1
  open_before t s silent h = h

  pub open_at_first : (t : ℕ) (s : State X) (log : List (Step X)) → IsOpen t (after s log) → IsOpen t s
  open_at_first t s [] h = h
  open_at_first t s (r ∷ rs) h = open_before t s r (open_at_first t (stepped s r) rs h)

  mine_is_open : (t : ℕ) (s : State X) (r : Step X) → MayFollow s r → IsOf t r → IsOpen t s
  mine_is_open t s (change c) h e = subst (λ u. IsOpen u s) e h.0
  mine_is_open t s (compensation c) h e = subst (λ u. IsOpen u s) e h.0
  mine_is_open t s (commit u) h e = subst (λ u. IsOpen u s) e h
  mine_is_open t s (rolled_back u) h e = subst (λ u. IsOpen u s) e h.0
  mine_is_open t s silent h e = absurd e

  nothing_more : (t : ℕ) (s : State X) (log : List (Step X)) → (IsOpen t s → ⊥) → IsLegal s log → Each (λ (r : Step X). IsOf t r → ⊥) log
  nothing_more t s [] gone h = tt
  nothing_more t s (r ∷ rs) gone h = ((λ e. gone (mine_is_open t s r h.0 e)), nothing_more t (stepped s r) rs (λ o. gone (open_before t s r o)) h.1)

  -- NOTHING FOLLOWS A COMMIT of its transaction, nor its rollback
  pub commit_is_last : (s : State X) (log more : List (Step X)) (t : ℕ) → IsLegal s (log ++ commit t ∷ more) → Each (λ (r : Step X). IsOf t r → ⊥) more
  commit_is_last s log more t h = nothing_more t (stepped (after s log) (commit t)) more (λ o. o.0 refl) (legal_rest s log (commit t ∷ more) h).1

  pub rollback_is_last : (s : State X) (log more : List (Step X)) (t : ℕ) → IsLegal s (log ++ rolled_back t ∷ more) → Each (λ (r : Step X). IsOf t r → ⊥) more
  rollback_is_last s log more t h = nothing_more t (stepped (after s log) (rolled_back t)) more (λ o. o.0 refl) (legal_rest s log (rolled_back t ∷ more) h).1

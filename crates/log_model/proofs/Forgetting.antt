-- A transaction that is rolled back leaves all as if it never was.
use Rattle.std.proofs.Common.{◌≡◌, ◌≢◌, ℕ, List, [], ◌∷◌, ◌++◌, Some, refl, sym, ◌∙◌, ap, subst, arith, inl, inr}
use Rattle.std.specs.Prelude.{◌==◌, if◌then◌else◌}
use Rattle.std.proofs.lemmas.Bool.Decides.{nat_tests}
use Rattle.std.proofs.lemmas.Bool.{cases_eq}
use Rattle.table_model.specs.Tables.{Each}
use Rattle.table_model.proofs.TablesLemmas.{each_map}
use Rattle.log_model.specs.Places.{reversed, Place, Database, Same, Change, put, taken_back}
use Rattle.log_model.specs.Steps.{Step, changes_of, without, newest_of, without_newest}
use Rattle.log_model.specs.Steps.Step.{change, compensation, commit, rolled_back, silent}
use Rattle.log_model.specs.States.{State, IsOpen, IsFreeFor, AreApart, MayFollow, IsLegal, IsSound, stepped, after}
use Rattle.log_model.specs.Forget.{forget, IsForgotten}
use Rattle.log_model.proofs.Puts.{put_back, put_at, put_swap, taken_back_same, taken_back_elsewhere}
use Rattle.log_model.proofs.Lists.{without_mine, without_other, changes_mine, changes_other, rest_mine, rest_other, newest_mine, newest_other, none_is_none, newest_txn, newest_among, head_is, each_without, changes_rest, changes_without, others_stay, without_none}
use Rattle.log_model.proofs.States.{sound_step, after_append, legal_front, legal_rest}
use Rattle.log_model.proofs.Bases.{mine_elsewhere, open_at_first}

module _ {X : Type 0} where
  newest_without : (t u : ℕ) (cs : List (Change X)) → u ≢ t → newest_of u (without t cs) ≡ newest_of u cs
  newest_without t u [] ne = refl
  newest_without t u (c ∷ cs) ne = elim (cases_eq c.txn t) [
    | inl e ↦ ap (newest_of u) (without_mine t c cs e) ∙ newest_without t u cs ne ∙ sym (newest_other u c cs (λ k. ne (sym k ∙ e)))
    | inr other ↦ ap (newest_of u) (without_other t c cs other) ∙ elim (cases_eq c.txn u) [
      | inl k ↦ newest_mine u c (without t cs) k ∙ sym (newest_mine u c cs k)
      | inr k ↦ newest_other u c (without t cs) k ∙ newest_without t u cs ne ∙ sym (newest_other u c cs k)
    ]
  ]

  without_swap : (t u : ℕ) (cs : List (Change X)) → without u (without t cs) ≡ without t (without u cs)
  without_swap t u [] = refl
  without_swap t u (c ∷ cs) = elim (cases_eq c.txn t) [
    | inl e ↦ ap (without u) (without_mine t c cs e) ∙ elim (cases_eq c.txn u) [
      | inl k ↦ without_swap t u cs ∙ sym (ap (without t) (without_mine u c cs k))
      | inr k ↦ without_swap t u cs ∙ sym (without_mine t c (without u cs) e) ∙ sym (ap (without t) (without_other u c cs k))
    ]
    | inr ne ↦ ap (without u) (without_other t c cs ne) ∙ elim (cases_eq c.txn u) [
      | inl k ↦ without_mine u c (without t cs) k ∙ without_swap t u cs ∙ sym (ap (without t) (without_mine u c cs k))
      | inr k ↦ without_other u c (without t cs) k ∙ ap (λ (x : List (Change X)). c ∷ x) (without_swap t u cs) ∙ sym (without_other t c (without u cs) ne) ∙ sym (ap (without t) (without_other u c cs k))
    ]
  ]

  -- the newest of one's own is one's own
  without_rest : (t : ℕ) (cs : List (Change X)) → without t (without_newest t cs) ≡ without t cs
  without_rest t [] = refl
  without_rest t (c ∷ cs) = elim (cases_eq c.txn t) [
    | inl e ↦ ap (without t) (rest_mine t c cs e) ∙ sym (without_mine t c cs e)
    | inr ne ↦ ap (without t) (rest_other t c cs ne) ∙ without_other t c (without_newest t cs) ne ∙ ap (λ (x : List (Change X)). c ∷ x) (without_rest t cs) ∙ sym (without_other t c cs ne)
  ]

  rest_without : (t u : ℕ) (cs : List (Change X)) → u ≢ t → without_newest u (without t cs) ≡ without t (without_newest u cs)
  rest_without t u [] ne = refl
  rest_without t u (c ∷ cs) ne = elim (cases_eq c.txn t) [
    | inl e ↦ ap (without_newest u) (without_mine t c cs e) ∙ rest_without t u cs ne ∙ sym (without_mine t c (without_newest u cs) e) ∙ sym (ap (without t) (rest_other u c cs (λ k. ne (sym k ∙ e))))
    | inr other ↦ ap (without_newest u) (without_other t c cs other) ∙ elim (cases_eq c.txn u) [
      | inl k ↦ rest_mine u c (without t cs) k ∙ sym (ap (without t) (rest_mine u c cs k))
      | inr k ↦ rest_other u c (without t cs) k ∙ ap (λ (x : List (Change X)). c ∷ x) (rest_without t u cs ne) ∙ sym (without_other t c (without_newest u cs) other) ∙ sym (ap (without t) (rest_other u c cs k))
    ]
  ]

  -- the newest change of another is elsewhere than a transaction's changes
  newest_elsewhere : (t u : ℕ) (cs : List (Change X)) (d : Change X) → u ≢ t → newest_of u cs ≡ Some d → AreApart cs → Each (λ (c : Change X). d.place ≢ c.place) (changes_of t cs)
  newest_elsewhere t u [] d ne n a = absurd (none_is_none n)
  newest_elsewhere t u (c ∷ cs) d ne n a = elim (cases_eq c.txn u) [
    | inl e ↦ subst (λ (x : Change X). Each (λ (y : Change X). x.place ≢ y.place) (changes_of t (c ∷ cs))) (head_is u c cs d e n)
        (subst (Each (λ (y : Change X). c.place ≢ y.place)) (sym (changes_other t c cs (λ k. ne (sym e ∙ k))))
        (mine_elsewhere t c.place cs (each_map (λ (x : Change X). x.txn ≢ c.txn → c.place ≢ x.place) (λ (x : Change X). x.txn ≡ t → c.place ≢ x.place) (λ x k mine. k (λ e'. ne (sym e ∙ sym e' ∙ mine))) cs a.0)))
    | inr other ↦
        let n' : newest_of u cs ≡ Some d = sym (newest_other u c cs other) ∙ n in
        let rest = newest_elsewhere t u cs d ne n' a.1 in
        elim (cases_eq c.txn t) [
          | inl e ↦ subst (Each (λ (y : Change X). d.place ≢ y.place)) (sym (changes_mine t c cs e)) (
            (λ same. newest_among (λ (x : Change X). x.txn ≢ c.txn → c.place ≢ x.place) u cs d n' a.0 (λ k. other (sym k ∙ newest_txn u cs d n')) (sym same)),
            rest,
          )
          | inr k ↦ subst (Each (λ (y : Change X). d.place ≢ y.place)) (sym (changes_other t c cs k)) rest
        ]
  ]

  -- a put elsewhere, and then taken back
  taken_back_put : (cs : List (Change X)) (d : Database X) (p : Place) (x : X) → Each (λ (c : Change X). p ≢ c.place) cs → Same (taken_back cs (put d p x)) (put (taken_back cs d) p x)
  taken_back_put [] d p x h q = refl
  taken_back_put (c ∷ cs) d p x h q = taken_back_same cs _ _ (put_swap d p x c.place c.before h.0) q ∙ taken_back_put cs (put d c.place c.before) p x h.1 q

  -- WITHOUT A TRANSACTION: what it has standing is taken back, and nothing else differs
  record Without (t : ℕ) (a b : State X) : Type 0 where
    shown : Same b.shown (taken_back (changes_of t a.standing) a.shown)
    standing : b.standing ≡ without t a.standing
    commits : b.commits ≡ a.commits
    ended : b.ended ≡ a.ended

  still_open : (t u : ℕ) (a b : State X) → Without t a b → IsOpen u a → IsOpen u b
  still_open t u a b w h = subst (Each (λ v. v ≢ u)) (sym w.ended) h

  -- its own step is seen by nobody
  mine : (t : ℕ) (a b : State X) (c : Change X) → c.txn ≡ t → MayFollow a (change c) → Without t a b → Without t (stepped a (change c)) b
  mine t a b c e ok w = record {
    shown = λ p. w.shown p ∙ sym (ap (λ (x : List (Change X)). taken_back x (put a.shown c.place c.after) p) (changes_mine t c a.standing e) ∙ taken_back_same (changes_of t a.standing) _ _ (put_back a.shown c.place c.after c.before ok.1) p);
    standing = w.standing ∙ sym (without_mine t c a.standing e);
    commits = w.commits;
    ended = w.ended;
  }

  mine_back : (t : ℕ) (a b : State X) (c : Change X) → c.txn ≡ t → MayFollow a (compensation c) → Without t a b → Without t (stepped a (compensation c)) b
  mine_back t a b c e ok w =
      let left : without_newest c.txn a.standing ≡ without_newest t a.standing = ap (λ u. without_newest u a.standing) e in
      let newest : newest_of t a.standing ≡ Some (reversed c) = sym (ap (λ u. newest_of u a.standing) e) ∙ ok.1 in
      record {
        shown = λ p. w.shown p ∙ ap (λ (x : List (Change X)). taken_back x a.shown p) (changes_rest t a.standing (reversed c) newest)
            ∙ sym (ap (λ (x : List (Change X)). taken_back (changes_of t x) (put a.shown c.place c.after) p) left);
        standing = w.standing ∙ sym (ap (without t) left ∙ without_rest t a.standing);
        commits = w.commits;
        ended = w.ended;
      }

  -- another's change is elsewhere
  others_elsewhere : (t : ℕ) (c : Change X) (cs : List (Change X)) → c.txn ≢ t → IsFreeFor c.txn c.place cs → Each (λ (x : Change X). c.place ≢ x.place) (changes_of t cs)
  others_elsewhere t c cs ne h = mine_elsewhere t c.place cs (each_map (λ (x : Change X). x.txn ≢ c.txn → c.place ≢ x.place) (λ (x : Change X). x.txn ≡ t → c.place ≢ x.place) (λ x k e. k (λ e'. ne (sym e' ∙ e))) cs h)

  -- another's step is as it was
  other_may : (t : ℕ) (a b : State X) (c : Change X) → c.txn ≢ t → MayFollow a (change c) → Without t a b → MayFollow b (change c)
  other_may t a b c ne ok w = (
    still_open t c.txn a b w ok.0,
    ok.1 ∙ sym (w.shown c.place ∙ taken_back_elsewhere (changes_of t a.standing) a.shown c.place (others_elsewhere t c a.standing ne ok.2)),
    subst (IsFreeFor c.txn c.place) (sym w.standing) (each_without (λ (x : Change X). x.txn ≢ c.txn → c.place ≢ x.place) t a.standing ok.2),
  )

  other_changes : (t : ℕ) (a b : State X) (c : Change X) → c.txn ≢ t → MayFollow a (change c) → Without t a b → Without t (stepped a (change c)) (stepped b (change c))
  other_changes t a b c ne ok w = record {
    shown = λ p. put_at b.shown (taken_back (changes_of t a.standing) a.shown) c.place c.after p (w.shown p)
        ∙ sym (ap (λ (x : List (Change X)). taken_back x (put a.shown c.place c.after) p) (changes_other t c a.standing ne)
        ∙ taken_back_put (changes_of t a.standing) a.shown c.place c.after (others_elsewhere t c a.standing ne ok.2) p);
    standing = ap (λ (x : List (Change X)). c ∷ x) w.standing ∙ sym (without_other t c a.standing ne);
    commits = w.commits;
    ended = w.ended;
  }

  other_may_back : (t : ℕ) (a b : State X) (c : Change X) → c.txn ≢ t → MayFollow a (compensation c) → Without t a b → MayFollow b (compensation c)
  other_may_back t a b c ne ok w = (still_open t c.txn a b w ok.0, ap (newest_of c.txn) w.standing ∙ newest_without t c.txn a.standing ne ∙ ok.1)

  other_takes_back : (base : Database X) (t : ℕ) (a b : State X) (c : Change X) → IsSound base a → c.txn ≢ t → MayFollow a (compensation c) → Without t a b → Without t (stepped a (compensation c)) (stepped b (compensation c))
  other_takes_back base t a b c sound ne ok w =
      let elsewhere : Each (λ (x : Change X). c.place ≢ x.place) (changes_of t a.standing) = newest_elsewhere t c.txn a.standing (reversed c) ne ok.1 sound.apart in
      record {
        shown = λ p. put_at b.shown (taken_back (changes_of t a.standing) a.shown) c.place c.after p (w.shown p)
            ∙ sym (ap (λ (x : List (Change X)). taken_back x (put a.shown c.place c.after) p) (others_stay c.txn t a.standing (λ e. ne (sym e)))
            ∙ taken_back_put (changes_of t a.standing) a.shown c.place c.after elsewhere p);
        standing = ap (without_newest c.txn) w.standing ∙ rest_without t c.txn a.standing ne;
        commits = w.commits;
        ended = w.ended;
      }

  other_commits : (t u : ℕ) (a b : State X) → u ≢ t → Without t a b → Without t (stepped a (commit u)) (stepped b (commit u))
  other_commits t u a b ne w = record {
    shown = λ p. w.shown p ∙ sym (ap (λ (x : List (Change X)). taken_back x a.shown p) (changes_without u t a.standing (λ e. ne (sym e))));
    standing = ap (without u) w.standing ∙ without_swap t u a.standing;
    commits = ap (λ (x : List (List (Change X))). x ++ changes_of u b.standing ∷ []) w.commits
        ∙ ap (λ (x : List (Change X)). a.commits ++ x ∷ []) (ap (changes_of u) w.standing ∙ changes_without t u a.standing ne);
    ended = ap (λ (x : List ℕ). u ∷ x) w.ended;
  }

  other_ends : (t u : ℕ) (a b : State X) → u ≢ t → Without t a b → Without t (stepped a (rolled_back u)) (stepped b (rolled_back u))
  other_ends t u a b ne w = record {
    shown = λ p. w.shown p ∙ sym (ap (λ (x : List (Change X)). taken_back x a.shown p) (changes_without u t a.standing (λ e. ne (sym e))));
    standing = ap (without u) w.standing ∙ without_swap t u a.standing;
    commits = w.commits;
    ended = ap (λ (x : List ℕ). u ∷ x) w.ended;
  }

  other_may_end : (t u : ℕ) (a b : State X) → u ≢ t → MayFollow a (rolled_back u) → Without t a b → MayFollow b (rolled_back u)
  other_may_end t u a b ne ok w = (still_open t u a b w ok.0, ap (changes_of u) w.standing ∙ changes_without t u a.standing ne ∙ ok.1)

  -- what is forgotten of a step
  forget_mine : (t u : ℕ) (r : Step X) (rs : List (Step X)) → u ≡ t → (if u == t then forget t rs else r ∷ forget t rs) ≡ forget t rs
  forget_mine t u r rs e = grind (arith, nat_tests)

  forget_other : (t u : ℕ) (r : Step X) (rs : List (Step X)) → u ≢ t → (if u == t then forget t rs else r ∷ forget t rs) ≡ r ∷ forget t rs
  forget_other t u r rs ne = grind (arith, nat_tests)

  -- the log without it is legal, and leaves the state without it
  record Runs (t : ℕ) (a b : State X) (log : List (Step X)) (rest : List (Step X)) : Type 0 where
    legal : IsLegal b rest
    stays : Without t (after a log) (after b rest)

  forgets : (base : Database X) (t : ℕ) (a b : State X) (log : List (Step X)) → IsSound base a → IsLegal a log → IsOpen t (after a log) → Without t a b → Runs t a b log (forget t log)
  forgets base t a b [] sound legal is w = record { legal = tt; stays = w }
  forgets base t a b (change c ∷ rs) sound legal is w =
      let next = sound_step base a (change c) sound legal.0 in
      elim (cases_eq c.txn t) [
        | inl e ↦
            let h = forgets base t (stepped a (change c)) b rs next legal.1 is (mine t a b c e legal.0 w) in
            subst (Runs t a b (change c ∷ rs)) (sym (forget_mine t c.txn (change c) rs e)) (record { legal = h.legal; stays = h.stays })
        | inr ne ↦
            let h = forgets base t (stepped a (change c)) (stepped b (change c)) rs next legal.1 is (other_changes t a b c ne legal.0 w) in
            subst (Runs t a b (change c ∷ rs)) (sym (forget_other t c.txn (change c) rs ne)) (record { legal = (other_may t a b c ne legal.0 w, h.legal); stays = h.stays })
      ]
  forgets base t a b (compensation c ∷ rs) sound legal is w =
      let next = sound_step base a (compensation c) sound legal.0 in
      elim (cases_eq c.txn t) [
        | inl e ↦
            let h = forgets base t (stepped a (compensation c)) b rs next legal.1 is (mine_back t a b c e legal.0 w) in
            subst (Runs t a b (compensation c ∷ rs)) (sym (forget_mine t c.txn (compensation c) rs e)) (record { legal = h.legal; stays = h.stays })
        | inr ne ↦
            let h = forgets base t (stepped a (compensation c)) (stepped b (compensation c)) rs next legal.1 is (other_takes_back base t a b c sound ne legal.0 w) in
            subst (Runs t a b (compensation c ∷ rs)) (sym (forget_other t c.txn (compensation c) rs ne)) (record { legal = (other_may_back t a b c ne legal.0 w, h.legal); stays = h.stays })
      ]
  forgets base t a b (commit u ∷ rs) sound legal is w =
      let next = sound_step base a (commit u) sound legal.0 in
      elim (cases_eq u t) [
        | inl e ↦ absurd ((open_at_first t (stepped a (commit u)) rs is).0 e)
        | inr ne ↦
            let h = forgets base t (stepped a (commit u)) (stepped b (commit u)) rs next legal.1 is (other_commits t u a b ne w) in
            subst (Runs t a b (commit u ∷ rs)) (sym (forget_other t u (commit u) rs ne)) (record { legal = (still_open t u a b w legal.0, h.legal); stays = h.stays })
      ]
  forgets base t a b (rolled_back u ∷ rs) sound legal is w =
      let next = sound_step base a (rolled_back u) sound legal.0 in
      elim (cases_eq u t) [
        | inl e ↦ absurd ((open_at_first t (stepped a (rolled_back u)) rs is).0 e)
        | inr ne ↦
            let h = forgets base t (stepped a (rolled_back u)) (stepped b (rolled_back u)) rs next legal.1 is (other_ends t u a b ne w) in
            subst (Runs t a b (rolled_back u ∷ rs)) (sym (forget_other t u (rolled_back u) rs ne)) (record { legal = (other_may_end t u a b ne legal.0 w, h.legal); stays = h.stays })
      ]
  forgets base t a b (silent ∷ rs) sound legal is w = let h = forgets base t a b rs sound legal.1 is w in record { legal = (tt, h.legal); stays = h.stays }

  -- AS IF IT NEVER WAS
  pub forgotten : (base : Database X) (s : State X) (t : ℕ) (log : List (Step X)) → IsSound base s → changes_of t s.standing ≡ [] → IsLegal s (log ++ rolled_back t ∷ []) → IsForgotten s t log
  forgotten base s t log sound none legal =
      let last = legal_rest s log (rolled_back t ∷ []) legal in
      let nothing : Without t s s = record {
        shown = λ p. sym (ap (λ (x : List (Change X)). taken_back x s.shown p) none);
        standing = sym (without_none t s.standing none);
        commits = refl;
        ended = refl;
      } in
      let h = forgets base t s s log sound (legal_front s log (rolled_back t ∷ []) legal) last.0.0 nothing in
      let end : after s (log ++ rolled_back t ∷ []) ≡ stepped (after s log) (rolled_back t) = after_append s log (rolled_back t ∷ []) in
      record {
        legal = h.legal;
        shown = λ p. h.stays.shown p ∙ ap (λ (x : List (Change X)). taken_back x (after s log).shown p) last.0.1 ∙ sym (ap (λ (x : State X). x.shown p) end);
        standing = h.stays.standing ∙ sym (ap (λ (x : State X). x.standing) end);
        commits = h.stays.commits ∙ sym (ap (λ (x : State X). x.commits) end);
      }

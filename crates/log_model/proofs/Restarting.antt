-- Undo and restart.
use Rattle.std.proofs.Common.{◌≡◌, ◌≢◌, ◌≤◌, ℕ, zero, suc, ◌-◌, List, [], ◌∷◌, ◌++◌, length, take, drop, Some, refl, sym, ◌∙◌, ap, subst, arith}
use Rattle.table_model.specs.Tables.{Each}
use Rattle.log_model.specs.Places.{Database, Change, put, reversed, taken_back}
use Rattle.log_model.specs.Steps.{Step, changes_of, newest_of, without, without_newest}
use Rattle.log_model.specs.Steps.Step.{change, compensation, rolled_back}
use Rattle.log_model.specs.States.{State, IsOpen, IsLegal, IsSound, stepped, after, recovered}
use Rattle.log_model.specs.Restart.{TakesBack, undo_of, ends_of, restart_of, AreOpen, Restarts, GoesOn}
use Rattle.log_model.specs.Crash.{IsLeft, HasSomeCommits}
use Rattle.log_model.proofs.Crashing.{crash}
use Rattle.std.proofs.lemmas.List.{take-append-drop}
use Rattle.std.proofs.Math.Seq.{drop-nil}
use Rattle.log_model.proofs.Lists.{newest_txn, changes_rest, others_stay, rest_mine, newest_mine}
use Rattle.log_model.proofs.Undoing.{undo_sound, newest_shows}
use Rattle.log_model.proofs.States.{after_append, legal_append, legal_rest, sound_log}

module _ {X : Type 0} where
  -- UNDO
  pub undo : (base : Database X) (s : State X) (t : ℕ) (c : Change X) → IsSound base s → IsOpen t s → newest_of t s.standing ≡ Some c
      → TakesBack s t c (stepped s (compensation (reversed c)))
  undo base s t c ok is n =
      let mine : c.txn ≡ t = newest_txn t s.standing c n in
      let left : without_newest c.txn s.standing ≡ without_newest t s.standing = ap (λ u. without_newest u s.standing) mine in
      record {
        follows = (subst (λ u. IsOpen u s) (sym mine) is, ap (λ u. newest_of u s.standing) mine ∙ n);
        stood = newest_shows t s.standing s.shown c n ok.apart ok.stacked;
        shown = λ p. refl;
        rest = changes_rest t s.standing c n ∙ ap (λ (x : List (Change X)). c ∷ changes_of t x) (sym left);
        others = λ u ne. ap (changes_of u) left ∙ others_stay t u s.standing ne;
        same = λ p. ap (λ (x : List (Change X)). taken_back x (put s.shown c.place c.before) p) left ∙ undo_sound t s.standing s.shown c n ok.apart p;
      }

  -- a change's undo puts back what stood there when it was made
  pub stood_before : (s : State X) (log more : List (Step X)) (c : Change X) → IsLegal s (log ++ change c ∷ more) → c.before ≡ (after s log).shown c.place
  stood_before s log more c legal = (legal_rest s log (change c ∷ more) legal).0.1

  -- one compensation leaves the list without its head
  undone : (s : State X) (c : Change X) (cs : List (Change X)) → s.standing ≡ c ∷ cs → (stepped s (compensation (reversed c))).standing ≡ cs
  undone s c cs e = ap (without_newest c.txn) e ∙ rest_mine c.txn c cs refl

  undo_legal : (s : State X) (cs : List (Change X)) → s.standing ≡ cs → Each (λ (c : Change X). IsOpen c.txn s) cs → IsLegal s (undo_of cs)
  undo_legal s [] e h = tt
  undo_legal s (c ∷ cs) e h = (
    (h.0, ap (newest_of c.txn) e ∙ newest_mine c.txn c cs refl),
    undo_legal (stepped s (compensation (reversed c))) cs (undone s c cs e) h.1,
  )

  -- all of them taken back
  undo_all : (s : State X) (cs : List (Change X)) → s.standing ≡ cs → after s (undo_of cs) ≡ record s { shown = taken_back cs s.shown; standing = [] }
  undo_all s [] e = λ i. record s { standing = e i }
  undo_all s (c ∷ cs) e = undo_all (stepped s (compensation (reversed c))) cs (undone s c cs e)

  -- the first n of them taken back
  pub undo_some : (n : ℕ) (s : State X) (cs : List (Change X)) → s.standing ≡ cs → (after s (take n (undo_of cs))).standing ≡ drop n cs
  undo_some zero s [] e = e
  undo_some zero s (c ∷ cs) e = e
  undo_some (suc n) s [] e = e
  undo_some (suc n) s (c ∷ cs) e = undo_some n (stepped s (compensation (reversed c))) cs (undone s c cs e)

  -- and the first n of them taken back stand for what all of them do
  undo_some_same : (n : ℕ) (s : State X) (cs : List (Change X)) → s.standing ≡ cs → recovered (after s (take n (undo_of cs))) ≡ recovered s
  undo_some_same zero s [] e = refl
  undo_some_same zero s (c ∷ cs) e = refl
  undo_some_same (suc n) s [] e = refl
  undo_some_same (suc n) s (c ∷ cs) e =
      let now = stepped s (compensation (reversed c)) in
      let left = undone s c cs e in
      undo_some_same n now cs left ∙ ap (λ (x : List (Change X)). taken_back x now.shown) left ∙ sym (ap (λ (x : List (Change X)). taken_back x s.shown) e)

  undo_commits : (n : ℕ) (s : State X) (cs : List (Change X)) → (after s (take n (undo_of cs))).commits ≡ s.commits
  undo_commits zero s [] = refl
  undo_commits zero s (c ∷ cs) = refl
  undo_commits (suc n) s [] = refl
  undo_commits (suc n) s (c ∷ cs) = undo_commits n (stepped s (compensation (reversed c))) cs

  -- what is left to undo are the compensations that were not made
  pub drop_undo : (n : ℕ) (cs : List (Change X)) → undo_of (drop n cs) ≡ drop n (undo_of cs)
  drop_undo zero [] = refl
  drop_undo zero (c ∷ cs) = refl
  drop_undo (suc n) [] = refl
  drop_undo (suc n) (c ∷ cs) = drop_undo n cs

  -- ends of transactions of which nothing stands
  end_opens : (t : ℕ) (ts : List ℕ) (s : State X) → Each (λ u. t ≢ u) ts → AreOpen ts s → AreOpen ts (stepped s (rolled_back t))
  end_opens t [] s ne h = tt
  end_opens t (u ∷ ts) s ne h = ((ne.0, h.0), h.1, end_opens t ts s ne.1 h.2)

  none_stands : (t : ℕ) (s : State X) → s.standing ≡ [] → (stepped s (rolled_back t)).standing ≡ []
  none_stands t s e = ap (without t) e

  ends : (ts : List ℕ) (s : State X) → s.standing ≡ [] → AreOpen ts s → IsLegal s (ends_of ts) × ((after s (ends_of ts)).standing ≡ []) × ((after s (ends_of ts)).shown ≡ s.shown) × ((after s (ends_of ts)).commits ≡ s.commits)
  ends [] s e h = (tt, e, refl, refl)
  ends (t ∷ ts) s e h =
      let rest = ends ts (stepped s (rolled_back t)) (none_stands t s e) (end_opens t ts s h.1 h.2) in
      (((h.0, ap (changes_of t) e), rest.0), rest.1, rest.2, rest.3)

  still_open : (ts : List ℕ) (s : State X) (d : Database X) (cs : List (Change X)) → AreOpen ts s → AreOpen ts (record s { shown = d; standing = cs })
  still_open [] s d cs h = tt
  still_open (t ∷ ts) s d cs h = (h.0, h.1, still_open ts s d cs h.2)

  -- RESTART
  pub restarts : (base : Database X) (s : State X) (ts : List ℕ) → IsSound base s → AreOpen ts s → Restarts s (restart_of s ts)
  restarts base s ts ok opens =
      let cs = s.standing in
      let done : State X = record s { shown = taken_back cs s.shown; standing = [] } in
      let at : after s (undo_of cs) ≡ done = undo_all s cs refl in
      let rest = ends ts done refl (still_open ts s (taken_back cs s.shown) [] opens) in
      let whole : after s (restart_of s ts) ≡ after done (ends_of ts) = after_append s (undo_of cs) (ends_of ts) ∙ ap (λ (x : State X). after x (ends_of ts)) at in
      record {
        legal = legal_append s (undo_of cs) (ends_of ts) (undo_legal s cs refl ok.running) (subst (λ (x : State X). IsLegal x (ends_of ts)) (sym at) rest.0);
        none = ap (λ (x : State X). x.standing) whole ∙ rest.1;
        shown = λ p. ap (λ (x : State X). x.shown p) whole ∙ ap (λ (d : Database X). d p) rest.2;
        commits = ap (λ (x : State X). x.commits) whole ∙ rest.3;
      }

  ends_stopped : (n : ℕ) (ts : List ℕ) (s : State X) → s.standing ≡ []
      → ((after s (take n (ends_of ts))).shown ≡ s.shown) × ((after s (take n (ends_of ts))).commits ≡ s.commits) × ((after s (take n (ends_of ts))).standing ≡ [])
  ends_stopped zero [] s e = (refl, refl, e)
  ends_stopped zero (t ∷ ts) s e = (refl, refl, e)
  ends_stopped (suc n) [] s e = (refl, refl, e)
  ends_stopped (suc n) (t ∷ ts) s e = ends_stopped n ts (stepped s (rolled_back t)) (none_stands t s e)

  drop_ends : (n : ℕ) (ts : List ℕ) → ◌≡◌ {A = List (Step X)} (ends_of (drop n ts)) (drop n (ends_of ts))
  drop_ends zero [] = refl
  drop_ends zero (t ∷ ts) = refl
  drop_ends (suc n) [] = refl
  drop_ends (suc n) (t ∷ ts) = drop_ends n ts

  drop_restart : (n : ℕ) (cs : List (Change X)) (ts : List ℕ) → undo_of (drop n cs) ++ ends_of (drop (n - length cs) ts) ≡ drop n (undo_of cs ++ ends_of ts)
  drop_restart n [] ts =
      let all : n - 0 ≡ n = omega arith in
      let none : drop n [] ≡ [] = drop-nil n in
      ap (λ (x : List (Change X)). undo_of x ++ ends_of (drop (n - 0) ts)) none ∙ ap (λ m. ends_of (drop m ts)) all ∙ drop_ends n ts
  drop_restart zero (c ∷ cs) ts = let none : 0 - suc (length cs) ≡ 0 = omega arith in ap (λ m. undo_of (c ∷ cs) ++ ends_of (drop m ts)) none ∙ ap (λ (x : List ℕ). undo_of (c ∷ cs) ++ ends_of x) (drop_zero ts)
    where
      drop_zero : (xs : List ℕ) → drop 0 xs ≡ xs
      drop_zero [] = refl
      drop_zero (x ∷ xs) = refl
  drop_restart (suc n) (c ∷ cs) ts = let less : suc n - suc (length cs) ≡ n - length cs = omega arith in ap (λ m. undo_of (drop n cs) ++ ends_of (drop m ts)) less ∙ drop_restart n cs ts

  stopped : (n : ℕ) (s : State X) (cs : List (Change X)) (ts : List ℕ) → s.standing ≡ cs
      → (recovered (after s (take n (undo_of cs ++ ends_of ts))) ≡ recovered s) × ((after s (take n (undo_of cs ++ ends_of ts))).commits ≡ s.commits) × ((after s (take n (undo_of cs ++ ends_of ts))).standing ≡ drop n cs)
  stopped n s [] ts e =
      let h = ends_stopped n ts s e in
      (ap (λ (x : List (Change X)). taken_back x (after s (take n (ends_of ts))).shown) h.2 ∙ h.0 ∙ ap (λ (x : List (Change X)). taken_back x s.shown) (sym e), h.1, h.2 ∙ sym (drop-nil n))
  stopped zero s (c ∷ cs) ts e = (refl, refl, e)
  stopped (suc n) s (c ∷ cs) ts e =
      let now = stepped s (compensation (reversed c)) in
      let left = undone s c cs e in
      let h = stopped n now cs ts left in
      (h.0 ∙ ap (λ (x : List (Change X)). taken_back x now.shown) left ∙ sym (ap (λ (x : List (Change X)). taken_back x s.shown) e), h.1, h.2)

  -- A RESTART THAT WAS STOPPED
  pub goes_on : (base : Database X) (s : State X) (ts : List ℕ) (n : ℕ) → IsSound base s → AreOpen ts s → GoesOn s ts n (after s (take n (restart_of s ts)))
  goes_on base s ts n ok opens =
      let steps = restart_of s ts in
      let now = after s (take n steps) in
      let h = stopped n s s.standing ts refl in
      let whole = restarts base s ts ok opens in
      let end : after now (drop n steps) ≡ after s steps = sym (after_append s (take n steps) (drop n steps)) ∙ ap (after s) (take-append-drop n steps) in
      record {
        same = λ p. ap (λ (d : Database X). d p) h.0;
        commits = h.1;
        left = ap (λ (x : List (Change X)). undo_of x ++ ends_of (drop (n - length s.standing) ts)) h.2 ∙ drop_restart n s.standing ts;
        again = record {
          legal = legal_rest s (take n steps) (drop n steps) (subst (λ (l : List (Step X)). IsLegal s l) (sym (take-append-drop n steps)) whole.legal);
          none = ap (λ (x : State X). x.standing) end ∙ whole.none;
          shown = λ p. ap (λ (x : State X). x.shown p) end ∙ whole.shown p ∙ ap (λ (d : Database X). d p) (sym h.0);
          commits = ap (λ (x : State X). x.commits) end ∙ whole.commits ∙ sym h.1;
        };
      }

  -- a crash within a restart
  pub crash_in_restart : (base : Database X) (s : State X) (log left : List (Step X)) (ts : List ℕ) (forced durable : ℕ) → IsSound base s → IsLegal s log → AreOpen ts (after s log)
      → durable ≤ length (after s (take forced (log ++ restart_of (after s log) ts))).commits
      → IsLeft (log ++ restart_of (after s log) ts) forced left → HasSomeCommits base (after s log).commits durable (recovered (after s left))
  crash_in_restart base s log left ts forced durable ok legal opens few h =
      let steps = restart_of (after s log) ts in
      let whole = restarts base (after s log) ts (sound_log base s log ok legal) opens in
      let same : (after s (log ++ steps)).commits ≡ (after s log).commits = ap (λ (x : State X). x.commits) (after_append s log steps) ∙ whole.commits in
      subst (λ (css : List (List (Change X))). HasSomeCommits base css durable (recovered (after s left))) same (crash base s (log ++ steps) left forced durable ok (legal_append s log steps legal whole.legal) few h)

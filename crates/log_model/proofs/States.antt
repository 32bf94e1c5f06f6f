-- States stay sound, step by step.
use Rattle.std.proofs.Common.{◌≡◌, ◌≢◌, ℕ, zero, suc, List, [], ◌∷◌, ◌++◌, take, drop, refl, sym, ◌∙◌, ap, append_assoc, append-nil}
use Rattle.std.proofs.lemmas.List.{take-append-drop}
use Rattle.table_model.specs.Tables.{Each}
use Rattle.table_model.proofs.TablesLemmas.{each_map}
use Rattle.log_model.specs.Places.{reversed, Database, Same, Change, put, taken_back}
use Rattle.log_model.specs.Steps.{Step, changes_of, without}
use Rattle.log_model.specs.Steps.Step.{change, compensation, commit, rolled_back, silent}
use Rattle.log_model.specs.States.{State, IsOpen, start, stepped, after, MayFollow, IsLegal, IsSound}
use Rattle.log_model.proofs.Puts.{put_here, put_back, taken_back_same, laid_over_at, after_commits_append}
use Rattle.log_model.proofs.Lists.{each_others, each_rest, apart_without, apart_rest, without_none}
use Rattle.log_model.proofs.Undoing.{stacked_same, commit_stacked, commit_sound, undo_stacked, undo_sound}

module _ {X : Type 0} where
  pub sound_start : (base : Database X) → IsSound base (start base)
  sound_start base = record { running = tt; apart = tt; stacked = tt; same = λ p. refl }

  -- of the others no end has come
  running_on : (t : ℕ) (s : State X) → Each (λ (c : Change X). IsOpen c.txn s) s.standing → Each (λ (c : Change X). (t ≢ c.txn) × IsOpen c.txn s) (without t s.standing)
  running_on t s h = each_others (λ (c : Change X). (t ≢ c.txn) × IsOpen c.txn s) t s.standing (each_map (λ (c : Change X). IsOpen c.txn s) (λ (c : Change X). c.txn ≢ t → (t ≢ c.txn) × IsOpen c.txn s) (λ c o ne. ((λ e. ne (sym e)), o)) s.standing h)

  -- EACH STEP that may follow leaves a sound state
  pub sound_step : (base : Database X) (s : State X) (r : Step X) → IsSound base s → MayFollow s r → IsSound base (stepped s r)
  sound_step base s (change c) h ok =
      let back : Same s.shown (put (put s.shown c.place c.after) c.place c.before) = λ p. sym (put_back s.shown c.place c.after c.before ok.1 p) in
      record {
        running = (ok.0, h.running);
        apart = (ok.2, h.apart);
        stacked = (put_here s.shown c.place c.after c.place refl, stacked_same s.standing _ _ back h.stacked);
        same = λ p. sym (taken_back_same s.standing _ _ back p) ∙ h.same p;
      }
  sound_step base s (compensation c) h ok = record {
    running = each_rest (λ (x : Change X). IsOpen x.txn s) c.txn s.standing h.running;
    apart = apart_rest c.txn s.standing h.apart;
    stacked = undo_stacked c.txn s.standing s.shown (reversed c) ok.1 h.apart h.stacked;
    same = λ p. undo_sound c.txn s.standing s.shown (reversed c) ok.1 h.apart p ∙ h.same p;
  }
  sound_step base s (commit t) h ok = record {
    running = running_on t s h.running;
    apart = apart_without t s.standing h.apart;
    stacked = commit_stacked t s.standing s.shown h.apart h.stacked;
    same = λ p. commit_sound t s.standing s.shown h.apart h.stacked p
        ∙ laid_over_at (changes_of t s.standing) _ _ p (h.same p)
        ∙ ap (λ (d : Database X). d p) (sym (after_commits_append base s.commits (changes_of t s.standing ∷ [])));
  }
  sound_step base s (rolled_back t) h ok = record {
    running = running_on t s h.running;
    apart = apart_without t s.standing h.apart;
    stacked = commit_stacked t s.standing s.shown h.apart h.stacked;
    same = λ p. ap (λ (x : List (Change X)). taken_back x s.shown p) (without_none t s.standing ok.1) ∙ h.same p;
  }
  sound_step base s silent h ok = h

  pub sound_log : (base : Database X) (s : State X) (log : List (Step X)) → IsSound base s → IsLegal s log → IsSound base (after s log)
  sound_log base s [] h ok = h
  sound_log base s (r ∷ rs) h ok = sound_log base (stepped s r) rs (sound_step base s r h ok.0) ok.1

  -- THE TABLES: what a legal log shows, with what stands taken back, is the base after its commits
  pub legal_sound : (base : Database X) (log : List (Step X)) → IsLegal (start base) log → IsSound base (after (start base) log)
  legal_sound base log ok = sound_log base (start base) log (sound_start base) ok

  pub after_append : (s : State X) (log more : List (Step X)) → after s (log ++ more) ≡ after (after s log) more
  after_append s [] more = refl
  after_append s (r ∷ rs) more = after_append (stepped s r) rs more

  pub legal_append : (s : State X) (log more : List (Step X)) → IsLegal s log → IsLegal (after s log) more → IsLegal s (log ++ more)
  legal_append s [] more ok k = k
  legal_append s (r ∷ rs) more ok k = (ok.0, legal_append (stepped s r) rs more ok.1 k)

  pub legal_front : (s : State X) (log more : List (Step X)) → IsLegal s (log ++ more) → IsLegal s log
  legal_front s [] more ok = tt
  legal_front s (r ∷ rs) more ok = (ok.0, legal_front (stepped s r) rs more ok.1)

  pub legal_rest : (s : State X) (log more : List (Step X)) → IsLegal s (log ++ more) → IsLegal (after s log) more
  legal_rest s [] more ok = ok
  legal_rest s (r ∷ rs) more ok = legal_rest (stepped s r) rs more ok.1

  pub legal_take : (s : State X) (log : List (Step X)) (n : ℕ) → IsLegal s log → IsLegal s (take n log)
  legal_take s [] zero ok = ok
  legal_take s [] (suc n) ok = ok
  legal_take s (r ∷ rs) zero ok = tt
  legal_take s (r ∷ rs) (suc n) ok = (ok.0, legal_take (stepped s r) rs n ok.1)

  -- commits only come
  step_commits : (s : State X) (r : Step X) → (more : List (List (Change X))) × ((stepped s r).commits ≡ s.commits ++ more)
  step_commits s (change c) = ([], sym (append-nil s.commits))
  step_commits s (compensation c) = ([], sym (append-nil s.commits))
  step_commits s (commit t) = (changes_of t s.standing ∷ [], refl)
  step_commits s (rolled_back t) = ([], sym (append-nil s.commits))
  step_commits s silent = ([], sym (append-nil s.commits))

  pub commits_grow : (s : State X) (log : List (Step X)) → (more : List (List (Change X))) × ((after s log).commits ≡ s.commits ++ more)
  commits_grow s [] = ([], sym (append-nil s.commits))
  commits_grow s (r ∷ rs) =
      let first = step_commits s r in
      let rest = commits_grow (stepped s r) rs in
      (first.0 ++ rest.0, rest.1 ∙ ap (λ (x : List (List (Change X))). x ++ rest.0) first.1 ∙ append_assoc s.commits first.0 rest.0)

  pub commits_take : (s : State X) (log : List (Step X)) (n : ℕ) → (more : List (List (Change X))) × ((after s log).commits ≡ (after s (take n log)).commits ++ more)
  commits_take s log n = let h = commits_grow (after s (take n log)) (drop n log) in
      (h.0, ap (λ (x : List (Step X)). (after s x).commits) (sym (take-append-drop n log)) ∙ ap (λ (x : State X). x.commits) (after_append s (take n log) (drop n log)) ∙ h.1)

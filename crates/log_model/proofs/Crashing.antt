-- What a crash leaves has the base after some of the commits.
use Rattle.std.proofs.Common.{◌≡◌, ◌≤◌, ℕ, List, ◌++◌, length, take, sym, ◌∙◌, ap, subst, arith, length-append}
use Rattle.std.proofs.lemmas.List.{take-take, take-append-le}
use Rattle.std.proofs.Math.Seq.{take-append_seam}
use Rattle.log_model.specs.Places.{Database, Change, after_commits}
use Rattle.log_model.specs.Steps.{Step}
use Rattle.log_model.specs.States.{State, IsLegal, IsSound, after, recovered}
use Rattle.log_model.specs.Crash.{IsLeft, HasSomeCommits}
use Rattle.log_model.proofs.States.{sound_log, legal_take, commits_take}

module _ {X : Type 0} where
  -- the commits of a front of the log are the first ones
  pub commits_front : (s : State X) (log : List (Step X)) (n : ℕ) → (after s (take n log)).commits ≡ take (length (after s (take n log)).commits) (after s log).commits
  commits_front s log n =
      let more = commits_take s log n in
      let few = (after s (take n log)).commits in
      sym (ap (take (length few)) more.1 ∙ take-append_seam few more.0)

  pub fewer : (s : State X) (log : List (Step X)) (n : ℕ) → length (after s (take n log)).commits ≤ length (after s log).commits
  fewer s log n = let more = commits_take s log n in omega (arith, ap length more.1, length-append (after s (take n log)).commits more.0)

  some : (base : Database X) (s : State X) (log : List (Step X)) (forced durable kept : ℕ) → IsSound base s → IsLegal s log → durable ≤ length (after s (take forced log)).commits
      → forced ≤ kept → HasSomeCommits base (after s log).commits durable (recovered (after s (take kept log)))
  some base s log forced durable kept ok legal few le =
      let less : length (after s (take forced (take kept log))).commits ≤ length (after s (take kept log)).commits = fewer s (take kept log) forced in
      let same : length (after s (take forced (take kept log))).commits ≡ length (after s (take forced log)).commits = ap (λ (l : List (Step X)). length (after s l).commits) (take-take forced kept log le) in
      record {
        kept = length (after s (take kept log)).commits;
        at_least = omega (arith, few, less, same);
        at_most = fewer s log kept;
        same = λ p. (sound_log base s (take kept log) ok (legal_take s log kept legal)).same p
            ∙ ap (λ (x : List (List (Change X))). after_commits base x p) (commits_front s log kept);
      }

  -- A CRASH
  pub crash : (base : Database X) (s : State X) (log left : List (Step X)) (forced durable : ℕ) → IsSound base s → IsLegal s log → durable ≤ length (after s (take forced log)).commits
      → IsLeft log forced left → HasSomeCommits base (after s log).commits durable (recovered (after s left))
  crash base s log left forced durable ok legal few h =
      subst (λ (l : List (Step X)). HasSomeCommits base (after s log).commits durable (recovered (after s l))) (sym h.is) (some base s log forced durable h.kept ok legal few h.at_least)

  -- more commits, and fewer durable ones
  pub some_stay : (base : Database X) (commits more : List (List (Change X))) (durable fewer : ℕ) (d : Database X) → fewer ≤ durable
      → HasSomeCommits base commits durable d → HasSomeCommits base (commits ++ more) fewer d
  some_stay base commits more durable fewer d le h = record {
    kept = h.kept;
    at_least = omega (arith, le, h.at_least);
    at_most = omega (arith, h.at_most, length-append commits more);
    same = λ p. h.same p ∙ ap (λ (x : List (List (Change X))). after_commits base x p) (sym (take-append-le h.kept commits more h.at_most));
  }

-- What a crash leaves.
use Rattle.std.specs.Prelude.{◌≡◌, ◌≤◌, ℕ, List, length, take}
use Rattle.log_model.specs.Places.{Database, Same, Change, after_commits}
use Rattle.log_model.specs.Steps.{Step}

-- A CRASH leaves the first steps of a log, all that were forced among them
pub record IsLeft {X : Type 0} (log : List (Step X)) (forced : ℕ) (left : List (Step X)) : Type 0 where
  pub kept : ℕ
  pub at_least : forced ≤ kept
  pub at_most : kept ≤ length log
  pub is : left ≡ take kept log

-- THE BASE AFTER SOME OF THE COMMITS: the first ones, every durable one among them
pub record HasSomeCommits {X : Type 0} (base : Database X) (commits : List (List (Change X))) (durable : ℕ) (d : Database X) : Type 0 where
  pub kept : ℕ
  pub at_least : durable ≤ kept
  pub at_most : kept ≤ length commits
  pub same : Same d (after_commits base (take kept commits))

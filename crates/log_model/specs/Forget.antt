-- A log without one transaction.
use Rattle.std.specs.Prelude.{◌≡◌, ◌==◌, if◌then◌else◌, ℕ, List, [], ◌∷◌, ◌++◌}
use Rattle.log_model.specs.Places.{Same}
use Rattle.log_model.specs.Steps.{Step}
use Rattle.log_model.specs.Steps.Step.{change, compensation, commit, rolled_back, silent}
use Rattle.log_model.specs.States.{State, IsLegal, after}

-- the steps of all others
abbrev pub forget : {X : Type 0} → ℕ → List (Step X) → List (Step X)
forget t [] = []
forget t (change c ∷ rs) = if c.txn == t then forget t rs else change c ∷ forget t rs
forget t (compensation c ∷ rs) = if c.txn == t then forget t rs else compensation c ∷ forget t rs
forget t (commit u ∷ rs) = if u == t then forget t rs else commit u ∷ forget t rs
forget t (rolled_back u ∷ rs) = if u == t then forget t rs else rolled_back u ∷ forget t rs
forget t (silent ∷ rs) = silent ∷ forget t rs

-- A TRANSACTION THAT WAS ROLLED BACK leaves all as if it never was: the log without it is legal, shows the same, and has the same commits
pub record IsForgotten {X : Type 0} (s : State X) (t : ℕ) (log : List (Step X)) : Type 0 where
  pub legal : IsLegal s (forget t log)
  pub shown : Same (after s (forget t log)).shown (after s (log ++ rolled_back t ∷ [])).shown
  pub standing : (after s (forget t log)).standing ≡ (after s (log ++ rolled_back t ∷ [])).standing
  pub commits : (after s (forget t log)).commits ≡ (after s (log ++ rolled_back t ∷ [])).commits

-- What a step makes of what a state stands for.
use Rattle.log_model.specs.Places.{Database, laid_over}
use Rattle.log_model.specs.Steps.{Step, changes_of}
use Rattle.log_model.specs.Steps.Step.{change, compensation, commit, rolled_back, silent}
use Rattle.log_model.specs.States.{State, recovered}

-- a commit lays its transaction's changes over it; no other step makes any difference
abbrev pub stands_for : {X : Type 0} → State X → Step X → Database X
stands_for s (change c) = recovered s
stands_for s (compensation c) = recovered s
stands_for s (commit t) = laid_over (changes_of t s.standing) (recovered s)
stands_for s (rolled_back t) = recovered s
stands_for s silent = recovered s

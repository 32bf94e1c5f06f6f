-- The changes of one transaction that stand, step by step, without a look at any other.
use Rattle.std.specs.Prelude.{◌==◌, if◌then◌else◌, ℕ, List, [], ◌∷◌}
use Rattle.table_model.specs.Tables.{rest_of}
use Rattle.log_model.specs.Places.{Change}
use Rattle.log_model.specs.Steps.{Step}
use Rattle.log_model.specs.Steps.Step.{change, compensation, commit, rolled_back, silent}

-- a change comes in front, a compensation takes the first one away, an end all of them; other transactions' steps leave it
abbrev pub list_after : {X : Type 0} → ℕ → List (Change X) → Step X → List (Change X)
list_after t cs (change c) = if c.txn == t then c ∷ cs else cs
list_after t cs (compensation c) = if c.txn == t then rest_of cs else cs
list_after t cs (commit u) = if u == t then [] else cs
list_after t cs (rolled_back u) = if u == t then [] else cs
list_after t cs silent = cs

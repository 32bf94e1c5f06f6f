-- Commits said otherwise: by what stands at their places, and over a base that a state is.
use Rattle.std.specs.Prelude.{◌≡◌, List, [], ◌∷◌, ◌++◌}
use Rattle.log_model.specs.Places.{Database, Change}
use Rattle.log_model.specs.Steps.{Step}
use Rattle.log_model.specs.States.{State, IsLegal, after}

-- NET CHANGES: the same places, each with what stands there in the end
abbrev pub net_of : {X : Type 0} → Database X → List (Change X) → List (Change X)
net_of d [] = []
net_of d (c ∷ cs) = record c { after = d c.place } ∷ net_of d cs

-- a state as a base of its own: what it shows, with no commit yet
abbrev pub as_base : {X : Type 0} → State X → State X
as_base s = record s { commits = [] }

-- A LOG GOES ON from a base: whatever follows is as legal, shows the same, and its commits come behind those before
pub record FollowsBase {X : Type 0} (s : State X) (log : List (Step X)) : Type 0 where
  pub legal : IsLegal s log → IsLegal (as_base s) log
  pub shown : (after (as_base s) log).shown ≡ (after s log).shown
  pub standing : (after (as_base s) log).standing ≡ (after s log).standing
  pub commits : (after s log).commits ≡ s.commits ++ (after (as_base s) log).commits

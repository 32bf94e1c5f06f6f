-- The victim of a cycle.
use Rattle.std.specs.Prelude.{Bool, ◌&&◌, ◌||◌, if◌then◌else◌, List, [], ◌∷◌, nat_eq, nat_lt}
use Rattle.lock_modes.specs.declared.cycle.Edge.{Edge}

-- one edge's waiter has fewer locks than another's, or as many and a greater number
abbrev pub is_weaker : Edge → Edge → Bool
is_weaker e f = nat_lt e.locks f.locks || (nat_eq e.locks f.locks && nat_lt f.waiter.0 e.waiter.0)

-- the edge of the weakest waiter
abbrev pub weakest : Edge → List Edge → Edge
weakest best [] = best
weakest best (e ∷ es) = weakest (if is_weaker e best then e else best) es

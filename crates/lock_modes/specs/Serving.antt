-- What is granted once something was given back.
use Rattle.std.specs.Prelude.{◌≡◌, ◌⊎◌, List, [], ◌∷◌, ◌++◌, map}
use Rattle.lock_modes.specs.declared.entry.Request.{Request}
use Rattle.lock_modes.specs.declared.event.LockEvent.{LockEvent}
use Rattle.lock_modes.specs.declared.event.LockEvent.TheVariants.{Granted}
use Rattle.lock_modes.specs.Lock.{Grants, granted}
use Rattle.lock_modes.specs.Waits.{IsFree, IsBlocked}

-- The requests rs, taken in order behind those in `before`: each is granted where it conflicts with no grant of another
-- transaction and with no request that is still queued before it. `woken` are those that were granted, `left` the others.
abbrev pub Serves : Grants → List Request → List Request → List Request → List Request → Type 0
Serves g before [] woken left = (woken ≡ []) × (left ≡ [])
Serves g before (r ∷ rs) woken left =
    ((w : List Request) × (woken ≡ r ∷ w) × IsFree g before r × Serves (granted g r) before rs w left)
    ⊎ ((k : List Request) × (left ≡ r ∷ k) × IsBlocked g before r × Serves g (before ++ r ∷ []) rs woken k)

-- the grants with those of a list of requests
abbrev pub granted_all : Grants → List Request → Grants
granted_all g [] = g
granted_all g (r ∷ rs) = granted_all (granted g r) rs

-- the event of a grant
abbrev pub grant_of : Request → LockEvent
grant_of r = Granted r.txn r.name r.mode

abbrev pub grants_of : List Request → List LockEvent
grants_of rs = map grant_of rs

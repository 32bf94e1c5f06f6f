-- Which of several cycles a search finds.
use Rattle.std.specs.Prelude.{◌≡◌, ◌⊎◌, ◌<◌, false, List, [], ◌∷◌}
use Rattle.dby_types.specs.declared.number.TxnNo.{TxnNo}
use Rattle.lock_modes.specs.declared.cycle.Edge.{Edge}
use Rattle.lock_modes.specs.Lock.{Lock}
use Rattle.deadlock_cycle.specs.Search.{IsCycleThrough, is_on}

-- the first wait is a transaction's own
abbrev pub BeginsWith : TxnNo → List Edge → Type 0
BeginsWith t [] = ⊥
BeginsWith t (e ∷ es) = e.waiter ≡ t

-- nobody waits in two of the edges
abbrev pub IsOnce : List Edge → Type 0
IsOnce [] = Unit {0}
IsOnce (e ∷ es) = (is_on e.waiter es ≡ false) × IsOnce es

-- a cycle as it is walked from a transaction: the transaction comes first, and nobody is come to twice
pub record IsWalk (t : TxnNo) (c : List Edge) : Type 0 where
  pub begins : BeginsWith t c
  pub once : IsOnce c

-- where two walks first part, the one goes on to a lower number than the other
abbrev pub GoesLower : List Edge → List Edge → Type 0
GoesLower [] d = Unit {0}
GoesLower (e ∷ es) [] = ⊥
GoesLower (e ∷ es) (f ∷ fs) = (e.holder.0 < f.holder.0) ⊎ ((e.holder ≡ f.holder) × GoesLower es fs)

-- of all cycles through a transaction that stand and have no chosen victim in them, walked from the transaction with nobody come to
-- twice, it is the one that goes on to the lower number wherever it parts from another
pub record IsFirst (l : Lock) (t : TxnNo) (c : List Edge) : Type 0 where
  pub walk : IsWalk t c
  pub lowest : (d : List Edge) → IsCycleThrough l t d → IsWalk t d → GoesLower c d

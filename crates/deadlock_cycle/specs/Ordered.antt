-- A search goes by the lowest numbers.
use Rattle.std.specs.Prelude.{◌≡◌, ◌⊎◌, ◌<◌, true, false, List, [], ◌∷◌, Option}
use Rattle.dby_types.specs.declared.number.TxnNo.{TxnNo}
use Rattle.lock_modes.specs.declared.cycle.Edge.{Edge}
use Rattle.lock_modes.specs.Lock.{Lock}
use Rattle.lock_manager.specs.Blocking.{is_above}
use Rattle.deadlock_cycle.specs.Search.{IsCycleThrough, is_on, is_seen}
use Rattle.deadlock_cycle.specs.First.{IsOnce, IsWalk}

-- where a walk first parts from a path it goes on to a greater number; where it follows the path to its end, the rest passes a test
abbrev pub IsBeside : (List Edge → Type 0) → List Edge → List Edge → Type 0
IsBeside P [] d = P d
IsBeside P (e ∷ es) [] = ⊥
IsBeside P (e ∷ es) (f ∷ fs) = (e.holder.0 < f.holder.0) ⊎ ((e.holder ≡ f.holder) × IsBeside P es fs)

-- a walk goes on to a number above a given one
abbrev pub GoesAbove : Option TxnNo → List Edge → Type 0
GoesAbove above [] = ⊥
GoesAbove above (f ∷ fs) = is_above above f.holder ≡ true

-- nobody is on the path twice, all that are on it were come to, and no cycle lies where the search has been
pub record Ordered (l : Lock) (t : TxnNo) (path : List Edge) (seen : List TxnNo) (node : TxnNo) (above : Option TxnNo) : Type 0 where
  pub once : IsOnce path
  pub off : is_on node path ≡ false
  pub come : (s : TxnNo) → is_on s path ≡ true → is_seen s seen ≡ true
  pub here : is_seen node seen ≡ true
  pub ahead : (d : List Edge) → IsCycleThrough l t d → IsWalk t d → IsBeside (GoesAbove above) path d

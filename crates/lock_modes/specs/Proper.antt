-- When a lock event may come, over the state before it.
use Rattle.std.specs.Prelude.{◌≡◌, ◌⊎◌, Bool, true, false, ◌||◌, List, [], ◌∷◌, None, Option, Some}
use Rattle.dby_types.specs.declared.number.TxnNo.{TxnNo}
use Rattle.lock_modes.specs.declared.cycle.Edge.{Edge}
use Rattle.lock_modes.specs.declared.entry.Request.{Request}
use Rattle.lock_modes.specs.declared.event.LockEvent.{LockEvent}
use Rattle.lock_modes.specs.declared.event.LockEvent.TheVariants.{Granted, Queued, Released, ReleasedAll, Chosen}
use Rattle.lock_modes.specs.Modes.{is_covered}
use Rattle.lock_modes.specs.Names.{same_txn}
use Rattle.lock_modes.specs.Lock.{Lock, queue, has_grant, request, lock_of}
use Rattle.lock_modes.specs.Waits.{IsFree, IsBlocked, earlier, waiting, ahead, IsStanding, NoneIs, IsVictim}

-- the requests queued before one: those before it in the queue, or those that count as earlier where it isn't queued
abbrev pub before_of : Lock → Request → Option Request → List Request
before_of l r None = earlier l r
before_of l r (Some q) = ahead r.txn (queue l)

-- what the transaction has on the name covers the mode
abbrev pub IsCovered : Lock → Request → Type 0
IsCovered l r = is_covered (l.grants r.txn r.name) r.mode ≡ true

-- the request is refused now: nothing covers it, and somebody is in its way
pub record IsRefused (l : Lock) (r : Request) : Type 0 where
  pub uncovered : is_covered (l.grants r.txn r.name) r.mode ≡ false
  pub blocked : IsBlocked l.grants (earlier l r) r

-- the request may be granted now: what the transaction has covers it, or nobody is in its way
abbrev pub MayHave : Lock → Request → Type 0
MayHave l r = IsCovered l r ⊎ IsFree l.grants (earlier l r) r

-- an event may come; `ever` tells who was ever chosen
abbrev pub IsProper : Lock → (TxnNo → Bool) → LockEvent → Type 0
IsProper l ever (Granted t n m) = IsCovered l (request t n m) ⊎ IsFree l.grants (before_of l (request t n m) (waiting l t)) (request t n m)
IsProper l ever (Queued t n m) = (waiting l t ≡ None) × IsRefused l (request t n m)
IsProper l ever (Released t n) = has_grant l.grants t n ≡ true
IsProper l ever (ReleasedAll t) = Unit {0}
IsProper l ever (Chosen t) = (c : List Edge) × IsStanding l c × NoneIs ever c × IsVictim c t

-- whether an event chose a transaction
abbrev pub chooses : LockEvent → TxnNo → Bool
chooses (Chosen u) t = same_txn u t
chooses _ t = false

-- whether some event of a list chose a transaction
abbrev pub was_chosen : List LockEvent → TxnNo → Bool
was_chosen [] t = false
was_chosen (e ∷ es) t = chooses e t || was_chosen es t

-- an event may come after a list of events
abbrev pub IsProperAfter : List LockEvent → LockEvent → Type 0
IsProperAfter es e = IsProper (lock_of es) (was_chosen es) e

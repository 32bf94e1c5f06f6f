-- Who is in whose way, who waits for whom, and cycles of waits.
use Rattle.std.specs.Prelude.{◌≡◌, ◌⊎◌, ℕ, ◌<◌, ◌≤◌, Bool, true, false, ◌&&◌, ◌||◌, not, if◌then◌else◌, List, [], ◌∷◌, ◌++◌, length, Option, Some, None, All}
use Rattle.std.specs.List.{list_any, find, Any, IsDistinct}
use Rattle.dby_types.specs.declared.number.TxnNo.{TxnNo}
use Rattle.lock_modes.specs.declared.cycle.Edge.{Edge}
use Rattle.lock_modes.specs.declared.entry.Request.{Request}
use Rattle.lock_modes.specs.declared.name.LockName.{LockName}
use Rattle.lock_modes.specs.Modes.{compatible, hinders}
use Rattle.lock_modes.specs.Names.{same_txn, same_name}
use Rattle.lock_modes.specs.Lock.{Lock, Grants, queue, has_grant, request}

-- one request is in the way of another on the same name
abbrev pub opposes : Request → Request → Bool
opposes q r = same_name q.name r.name && not (compatible q.mode r.mode)

-- a transaction has a request among these that is in the way
abbrev pub asks_before : List Request → Request → TxnNo → Bool
asks_before before r h = list_any (λ q. same_txn q.txn h && opposes q r) before

-- a transaction is in the way of another's request: by what it has, or by a request that stands before
abbrev pub blocks : Grants → List Request → Request → TxnNo → Bool
blocks g before r h = not (same_txn h r.txn) && (hinders (g h r.name) r.mode || asks_before before r h)

-- nobody is in the way
abbrev pub IsFree : Grants → List Request → Request → Type 0
IsFree g before r = (h : TxnNo) → blocks g before r h ≡ false

-- somebody is in the way
abbrev pub IsBlocked : Grants → List Request → Request → Type 0
IsBlocked g before r = ¬ (IsFree g before r)

-- the requests that count as earlier than a new one: for who has something on the name, only those of others who have
abbrev pub earlier : Lock → Request → List Request
earlier l r = if has_grant l.grants r.txn r.name then l.conversions else queue l

-- what a transaction waits for
abbrev pub waiting : Lock → TxnNo → Option Request
waiting l t = find (λ r. same_txn r.txn t) (queue l)

-- the requests that stand before a transaction's own
abbrev pub ahead : TxnNo → List Request → List Request
ahead t [] = []
ahead t (r ∷ rs) = if same_txn r.txn t then [] else (r ∷ ahead t rs)

-- a transaction is in the way of what another waits for
abbrev pub blocks_wait : Lock → TxnNo → Option Request → TxnNo → Bool
blocks_wait l w None h = false
blocks_wait l w (Some r) h = blocks l.grants (ahead w (queue l)) r h

-- w waits for h
abbrev pub waits_for : Lock → TxnNo → TxnNo → Bool
waits_for l w h = blocks_wait l w (waiting l w) h

-- every request in the queue has somebody in its way
abbrev pub AllBlocked : Grants → List Request → List Request → Type 0
AllBlocked g before [] = Unit {0}
AllBlocked g before (r ∷ rs) = IsBlocked g before r × AllBlocked g (before ++ r ∷ []) rs

-- no request that can be granted waits
abbrev pub IsSettled : Lock → Type 0
IsSettled l = AllBlocked l.grants [] (queue l)

-- exactly so many names pass the test
pub record IsNumber (test : LockName → Bool) (k : ℕ) : Type 0 where
  pub names : List LockName
  pub apart : IsDistinct same_name names
  pub exact : (n : LockName) → list_any (same_name n) names ≡ test n
  pub long : length names ≡ k

-- an edge tells a wait as it is: for what, for whom, with how many names
pub record IsEdge (l : Lock) (e : Edge) : Type 0 where
  pub waits : waiting l e.waiter ≡ Some (request e.waiter e.name e.asked)
  pub blocked : waits_for l e.waiter e.holder ≡ true
  pub number : IsNumber (λ n. has_grant l.grants e.waiter n) e.locks

-- each edge ends where the next begins, and the last at a given transaction
abbrev pub LeadsTo : TxnNo → List Edge → Type 0
LeadsTo first [] = ⊥
LeadsTo first (e ∷ []) = e.holder ≡ first
LeadsTo first (e ∷ f ∷ es) = (e.holder ≡ f.waiter) × LeadsTo first (f ∷ es)

-- the edges are a ring
abbrev pub IsRing : List Edge → Type 0
IsRing [] = ⊥
IsRing (e ∷ es) = LeadsTo e.waiter (e ∷ es)

-- the cycle stands: each edge is a wait, and they are a ring
pub record IsStanding (l : Lock) (c : List Edge) : Type 0 where
  pub edges : All (λ e. IsEdge l e) c
  pub ring : IsRing c

-- a transaction is among those that wait in the cycle
abbrev pub IsThrough : TxnNo → List Edge → Type 0
IsThrough t c = Any (λ e. e.waiter ≡ t) c

-- nobody in the cycle passes the test
abbrev pub NoneIs : (TxnNo → Bool) → List Edge → Type 0
NoneIs test c = All (λ e. test e.waiter ≡ false) c

-- e has fewer locks than f, or as many and no lesser number
abbrev pub IsBefore : Edge → Edge → Type 0
IsBefore e f = (e.locks < f.locks) ⊎ ((e.locks ≡ f.locks) × (f.waiter.0 ≤ e.waiter.0))

-- the victim of a cycle: who has the fewest locks, the greatest number among equals
abbrev pub IsVictim : List Edge → TxnNo → Type 0
IsVictim c t = Any (λ e. (e.waiter ≡ t) × All (λ f. IsBefore e f) c) c

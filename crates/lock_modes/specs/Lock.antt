-- The state of a lock table, and what each lock event makes of it.
use Rattle.std.specs.Prelude.{Bool, false, ◌&&◌, ◌||◌, not, if◌then◌else◌, List, [], ◌∷◌, ◌++◌}
use Rattle.std.specs.List.{filter}
use Rattle.dby_types.specs.declared.number.TxnNo.{TxnNo}
use Rattle.lock_modes.specs.declared.entry.Request.{Request}
use Rattle.lock_modes.specs.declared.event.LockEvent.{LockEvent}
use Rattle.lock_modes.specs.declared.event.LockEvent.TheVariants.{Granted, Queued, Released, ReleasedAll, Chosen}
use Rattle.lock_modes.specs.declared.mode.Mode.{Mode}
use Rattle.lock_modes.specs.declared.modes.Modes.{Modes}
use Rattle.lock_modes.specs.declared.name.LockName.{LockName}
use Rattle.lock_modes.specs.Modes.{with_mode, no_modes, is_held}
use Rattle.lock_modes.specs.Names.{same_txn, same_name}

-- the modes that each transaction has on each name
abbrev pub Grants : Type 0
Grants = TxnNo → LockName → Modes

-- who has what, and who waits for what, the oldest request first
pub record Lock : Type 0 where
  pub grants : Grants
  -- requests of transactions that have something on the name already: they stand before all others
  pub conversions : List Request
  pub requests : List Request
  -- the victims that were chosen
  pub victims : TxnNo → Bool

abbrev pub no_locks : Lock
no_locks = record { grants = λ t n. no_modes; conversions = []; requests = []; victims = λ t. false }

abbrev pub request : TxnNo → LockName → Mode → Request
request t n m = record { txn = t; name = n; mode = m }

-- everybody who waits, in the order of the queue
abbrev pub queue : Lock → List Request
queue l = l.conversions ++ l.requests

-- whether the transaction has anything on the name
abbrev pub has_grant : Grants → TxnNo → LockName → Bool
has_grant g t n = is_held (g t n)

-- one mode more for a transaction on a name
abbrev pub granted : Grants → Request → Grants
granted g r = λ t n. if same_txn r.txn t && same_name r.name n then with_mode (g t n) r.mode else g t n

-- nothing any more for a transaction on a name
abbrev pub released : Grants → TxnNo → LockName → Grants
released g u k = λ t n. if same_txn u t && same_name k n then no_modes else g t n

-- nothing any more for a transaction
abbrev pub released_all : Grants → TxnNo → Grants
released_all g u = λ t n. if same_txn u t then no_modes else g t n

-- the requests without the one of a transaction for a name
abbrev pub without_request : TxnNo → LockName → List Request → List Request
without_request t n rs = filter (λ r. not (same_txn r.txn t && same_name r.name n)) rs

-- the requests of the other transactions
abbrev pub without : TxnNo → List Request → List Request
without t rs = filter (λ r. not (same_txn r.txn t)) rs

-- a request that has to wait: behind those of its kind
abbrev pub queued : Lock → Request → Lock
queued l r = if has_grant l.grants r.txn r.name then record l { conversions = l.conversions ++ r ∷ [] } else record l { requests = l.requests ++ r ∷ [] }

-- what one event makes of the state
abbrev pub apply : Lock → LockEvent → Lock
apply l (Granted t n m) = record l { grants = granted l.grants (request t n m); conversions = without_request t n l.conversions; requests = without_request t n l.requests }
apply l (Queued t n m) = queued l (request t n m)
apply l (Released t n) = record l { grants = released l.grants t n }
apply l (ReleasedAll t) = record { grants = released_all l.grants t; conversions = without t l.conversions; requests = without t l.requests; victims = λ u. not (same_txn t u) && l.victims u }
apply l (Chosen t) = record l { victims = λ u. same_txn t u || l.victims u }

-- the state after a list of events, the first event first
abbrev pub apply_all : Lock → List LockEvent → Lock
apply_all l [] = l
apply_all l (e ∷ es) = apply_all (apply l e) es

-- the state that a list of events tells
abbrev pub lock_of : List LockEvent → Lock
lock_of es = apply_all no_locks es

-- A lock table as its callers see it.
use Rattle.std.specs.Prelude.{◌≡◌, ◌⊎◌, ◌<◌, ◌-◌, ◌&&◌, ◌∷◌, ◌||◌, not, ℕ, Bool, true, false, List, [], ◌++◌, if◌then◌else◌, Option, Some, None}
use Rattle.dby_types.specs.declared.number.TxnNo.{TxnNo}
use Rattle.lock_modes.specs.declared.entry.Request.{Request}
use Rattle.lock_modes.specs.declared.event.LockEvent.{LockEvent}
use Rattle.lock_modes.specs.declared.event.LockEvent.TheVariants.{Chosen}
use Rattle.lock_modes.specs.Lock.{Lock, queue, has_grant, apply, apply_all}
use Rattle.std.specs.List.{list_any}
use Rattle.lock_modes.specs.declared.mode.Mode.{Mode}
use Rattle.lock_modes.specs.declared.name.LockName.{LockName}
use Rattle.lock_modes.specs.Modes.{hinders, is_covered, writes, is_ranged}
use Rattle.lock_manager.specs.Serve.{contests}
use Rattle.lock_modes.specs.Names.{same_txn, is_row_name}
use Rattle.lock_modes.specs.Proper.{IsProper, IsRefused, MayHave, chooses}
use Rattle.lock_modes.specs.Serving.{Serves, grants_of}
use Rattle.lock_modes.specs.Waits.{earlier, blocks, waiting}
use Rattle.lock_modes.specs.Escalation.{released_rows, IsAllRows, escalation}
use Rattle.lock_manager.specs.declared.table.LockTable.{LockTable}
use Rattle.lock_manager.specs.declared.tried.Tried.{Tried}
use Rattle.lock_manager.specs.declared.tried.Tried.TheVariants.{Granted, Conflict}
use Rattle.lock_manager.specs.Owners.{grants_in, left_in, victim_in}

-- the grants, the queue and the victims: the state that lock events change
abbrev pub lock : LockTable → Lock
lock v = record { grants = grants_in v.ledger.owners.entries; conversions = v.conversions.line.items; requests = v.requests.line.items; victims = victim_in v.ledger.owners.entries }

-- the queued requests that were granted and not given yet
abbrev pub woken_of : LockTable → List Request
woken_of v = v.woken.items

-- how many names more a transaction may ask for
abbrev pub spare_of : LockTable → TxnNo → ℕ
spare_of v t = left_in v.ledger.owners.entries t

-- a request needs no memory
abbrev pub HasSpare : LockTable → TxnNo → Bool → Type 0
HasSpare v t held = (held ≡ true) ⊎ (0 < spare_of v t)

-- why a try was answered so
abbrev pub IsCause : Lock → Request → Tried → Type 0
IsCause l r Granted = MayHave l r
IsCause l r (Conflict h) = IsRefused l r × (blocks l.grants (earlier l r) r h ≡ true)

-- who is in the way of a request
abbrev pub IsHindrance : Lock → Request → Option TxnNo → Type 0
IsHindrance l r None = MayHave l r
IsHindrance l r (Some h) = (is_covered (l.grants r.txn r.name) r.mode ≡ false) × (blocks l.grants (earlier l r) r h ≡ true)

-- events may come one after another
abbrev pub AreProper : Lock → (TxnNo → Bool) → List LockEvent → Type 0
AreProper l ever [] = Unit {0}
AreProper l ever (e ∷ es) = IsProper l ever e × AreProper (apply l e) (λ t. chooses e t || ever t) es

-- the events came, and then each queued request that could be granted was granted, in the order of the queue
pub record Gives (old new : LockTable) (es : List LockEvent) : Type 0 where
  pub given : List Request
  pub noted : woken_of new ≡ woken_of old ++ given
  pub order : Serves (apply_all (lock old) es).grants [] (queue (apply_all (lock old) es)) given (queue (lock new))
  pub events : lock new ≡ apply_all (apply_all (lock old) es) (grants_of given)
  pub proper : (ever : TxnNo → Bool) → AreProper (apply_all (lock old) es) ever (grants_of given)

-- a transaction gave back its rows of a table, and then each queued request that could be granted was granted, in order
pub record GivesRows (old new : LockTable) (t : TxnNo) (table : ℕ) : Type 0 where
  pub given : List Request
  pub noted : woken_of new ≡ woken_of old ++ given
  pub order : Serves (released_rows (lock old).grants t table) [] (queue (lock old)) given (queue (lock new))
  pub events : lock new ≡ apply_all (record (lock old) { grants = released_rows (lock old).grants t table }) (grants_of given)
  pub proper : (ever : TxnNo → Bool) → AreProper (record (lock old) { grants = released_rows (lock old).grants t table }) ever (grants_of given)

-- a table's mode was granted and its rows were given back, in whatever order, and then queued requests were granted
abbrev pub Escalates : LockTable → LockTable → TxnNo → ℕ → Mode → Type 0
Escalates old new t table mode = (names : List LockName) → IsAllRows (lock old) t table names → Gives old new (escalation t table mode names)

-- a transaction has no grant, waits for nothing and may ask for nothing
pub record IsStranger (v : LockTable) (t : TxnNo) : Type 0 where
  pub nothing : (n : LockName) → has_grant (lock v).grants t n ≡ false
  pub idle : waiting (lock v) t ≡ None
  pub spare : spare_of v t ≡ 0

-- a transaction was chosen; or nothing changed, where it's a stranger to the table
abbrev pub IsNoted : LockTable → LockTable → TxnNo → Type 0
IsNoted old new t = (lock new ≡ apply (lock old) (Chosen t)) ⊎ ((lock new ≡ lock old) × IsStranger old t)

-- one name less is left to a transaction, unless it has something on the name already
abbrev pub IsSpent : LockTable → LockTable → TxnNo → Bool → Type 0
IsSpent old new t held = (u : TxnNo) → spare_of new u ≡ (if same_txn t u && not held then spare_of old u - 1 else spare_of old u)

-- nobody has or asks for a mode on the name that isn't compatible with this one
pub record IsUncontested (l : Lock) (n : LockName) (m : Mode) : Type 0 where
  pub granted : (h : TxnNo) → hinders (l.grants h n) m ≡ false
  pub queued : list_any (contests n m) (queue l) ≡ false

-- a transaction has a mode of one who changes on a row name of a table
abbrev pub WritesIn : Lock → TxnNo → ℕ → Type 0
WritesIn l t table = (n : LockName) × (is_row_name table n ≡ true) × (writes (l.grants t n) ≡ true)

-- a transaction has a mode that also holds the gap
abbrev pub HoldsGap : Lock → TxnNo → Type 0
HoldsGap l t = (n : LockName) × (is_ranged (l.grants t n) ≡ true)

-- Giving all rows of a table back, for a lock on the whole table.
use Rattle.std.specs.Prelude.{◌≡◌, ℕ, ◌&&◌, if◌then◌else◌, List, ◌∷◌, map}
use Rattle.std.specs.List.{list_any}
use Rattle.dby_types.specs.declared.number.TxnNo.{TxnNo}
use Rattle.lock_modes.specs.declared.event.LockEvent.{LockEvent}
use Rattle.lock_modes.specs.declared.event.LockEvent.TheVariants.{Granted, Released}
use Rattle.lock_modes.specs.declared.mode.Mode.{Mode}
use Rattle.lock_modes.specs.declared.name.LockName.{LockName}
use Rattle.lock_modes.specs.declared.name.LockName.TheVariants.{Table}
use Rattle.lock_modes.specs.Modes.{no_modes}
use Rattle.lock_modes.specs.Names.{same_txn, same_name, is_row_name}
use Rattle.lock_modes.specs.Lock.{Lock, Grants, has_grant}

-- nothing any more for a transaction on the rows, and places before a first entry, of a table
abbrev pub released_rows : Grants → TxnNo → ℕ → Grants
released_rows g u table = λ t n. if same_txn u t && is_row_name table n then no_modes else g t n

-- a list has exactly the rows, and places before a first entry, of a table on which a transaction has a grant, in any order
abbrev pub IsAllRows : Lock → TxnNo → ℕ → List LockName → Type 0
IsAllRows l t table names = (n : LockName) → list_any (same_name n) names ≡ (is_row_name table n && has_grant l.grants t n)

-- the events of names that are given back
abbrev pub releases : TxnNo → List LockName → List LockEvent
releases t names = map (λ n. Released t n) names

-- the events of an escalation: the table's mode, and each name that is given up
abbrev pub escalation : TxnNo → ℕ → Mode → List LockName → List LockEvent
escalation t table mode names = Granted t (Table table) mode ∷ releases t names

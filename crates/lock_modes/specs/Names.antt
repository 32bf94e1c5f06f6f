-- Names of locks, and of transactions.
use Rattle.std.specs.Prelude.{ℕ, Bool, true, false, ◌&&◌, ◌==◌}
use Rattle.dby_types.specs.declared.number.TxnNo.{TxnNo}
use Rattle.lock_modes.specs.declared.name.LockName.{LockName}
use Rattle.lock_modes.specs.declared.name.LockName.TheVariants.{Dictionary, Table, Row, First}

abbrev pub same_txn : TxnNo → TxnNo → Bool
same_txn a b = a.0 == b.0

abbrev pub same_name : LockName → LockName → Bool
same_name Dictionary Dictionary = true
same_name (Table a) (Table b) = a == b
same_name (Row a r) (Row b s) = a == b && (r.page == s.page && r.slot == s.slot)
same_name (First a i) (First b j) = a == b && i == j
same_name _ _ = false

-- whether a name is of a row, or of the place before a first entry, of a table
abbrev pub is_row_name : ℕ → LockName → Bool
is_row_name table Dictionary = false
is_row_name table (Table a) = false
is_row_name table (Row a r) = a == table
is_row_name table (First a i) = a == table

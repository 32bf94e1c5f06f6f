-- The list of those who have something on a name.
use Rattle.std.specs.Prelude.{◌≡◌, ◌+◌, ℕ, ◌&&◌, List, [], ◌∷◌, ◌++◌, if◌then◌else◌}
use Rattle.dby_types.specs.declared.number.TxnNo.{TxnNo}
use Rattle.lock_modes.specs.declared.mode.Mode.{Mode}
use Rattle.lock_modes.specs.declared.modes.Modes.{Modes}
use Rattle.lock_modes.specs.declared.name.LockName.{LockName}
use Rattle.lock_modes.specs.Lock.{Grants}
use Rattle.lock_modes.specs.Modes.{all_modes, has_mode, same_mode}
use Rattle.lock_modes.specs.Names.{same_txn}
use Rattle.lock_manager.specs.Holdings.{modes_in}
use Rattle.lock_manager.specs.Owners.{Owners}
use Rattle.lock_manager.specs.Tallies.{one}

-- how often a transaction is listed with a mode
abbrev pub times_listed : TxnNo → Mode → List (TxnNo × Mode) → ℕ
times_listed t m [] = 0
times_listed t m (h ∷ hs) = one (same_txn h.0 t && same_mode h.1 m) + times_listed t m hs

-- each transaction is listed once with each mode that it has on the name, and with no other
abbrev pub IsHolders : Grants → LockName → List (TxnNo × Mode) → Type 0
IsHolders g n hs = (t : TxnNo) (m : Mode) → times_listed t m hs ≡ one (has_mode (g t n) m)

-- a transaction with each of some modes that it has
abbrev pub pairs_of : TxnNo → Modes → List Mode → List (TxnNo × Mode)
pairs_of t ms [] = []
pairs_of t ms (m ∷ rest) = (if has_mode ms m then (t, m) ∷ [] else []) ++ pairs_of t ms rest

-- every transaction with each mode that it has on a name
abbrev pub holders_in : LockName → Owners → List (TxnNo × Mode)
holders_in n [] = []
holders_in n (e ∷ es) = pairs_of e.0 (modes_in e.1.holdings n) all_modes ++ holders_in n es

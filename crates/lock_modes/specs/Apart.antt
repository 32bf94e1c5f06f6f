-- Grants of two transactions on one name, and what each event leaves of them.
use Rattle.std.specs.Prelude.{◌≡◌, Bool, true, false, ◌&&◌, None}
use Rattle.dby_types.specs.declared.number.TxnNo.{TxnNo}
use Rattle.lock_modes.specs.declared.event.LockEvent.{LockEvent}
use Rattle.lock_modes.specs.declared.event.LockEvent.TheVariants.{Released, ReleasedAll}
use Rattle.lock_modes.specs.declared.mode.Mode.{Mode}
use Rattle.lock_modes.specs.declared.name.LockName.{LockName}
use Rattle.lock_modes.specs.Modes.{compatible, has_mode, no_modes}
use Rattle.lock_modes.specs.Names.{same_txn, same_name}
use Rattle.lock_modes.specs.Lock.{Lock, Grants}
use Rattle.lock_modes.specs.Waits.{waiting}

-- grants never conflict: modes of two transactions on one name are compatible
abbrev pub IsApart : Grants → Type 0
IsApart g = (t u : TxnNo) (n : LockName) (a b : Mode) → same_txn t u ≡ false → has_mode (g t n) a ≡ true → has_mode (g u n) b ≡ true → compatible a b ≡ true

-- an event takes away what a transaction has on a name
abbrev pub takes : LockEvent → TxnNo → LockName → Bool
takes (Released u k) t n = same_txn u t && same_name k n
takes (ReleasedAll u) t n = same_txn u t
takes _ t n = false

-- a transaction has nothing, waits for nothing and is no victim
pub record IsGone (l : Lock) (t : TxnNo) : Type 0 where
  pub nothing : (n : LockName) → l.grants t n ≡ no_modes
  pub idle : waiting l t ≡ None
  pub pardoned : l.victims t ≡ false

-- What a grant makes of a transaction's record.
use Rattle.std.specs.Prelude.{◌≡◌, if◌then◌else◌}
use Rattle.lock_modes.specs.declared.mode.Mode.{Mode}
use Rattle.lock_modes.specs.declared.name.LockName.{LockName}
use Rattle.lock_modes.specs.Modes.{with_mode}
use Rattle.lock_modes.specs.Names.{same_name}
use Rattle.lock_manager.specs.declared.owner.Owner.{Owner}
use Rattle.lock_manager.specs.Holdings.{modes_in}

-- one mode more on one name, and nobody else's note of a victim
pub record GainsMode (old new : Owner) (name : LockName) (mode : Mode) : Type 0 where
  pub modes : (k : LockName) → modes_in new.holdings k ≡ (if same_name name k then with_mode (modes_in old.holdings k) mode else modes_in old.holdings k)
  pub victim : new.victim ≡ old.victim

-- The modes of one transaction, by name.
use Rattle.std.specs.HashMap.{HashMap, get}
use Rattle.std.specs.Option.{unwrap_or}
use Rattle.lock_modes.specs.declared.modes.Modes.{Modes}
use Rattle.lock_modes.specs.declared.name.LockName.{LockName}
use Rattle.lock_modes.specs.Modes.{no_modes}
use Rattle.lock_modes.specs.Names.{same_name}

-- the modes on a name
abbrev pub modes_at : {S : Type 0} → HashMap LockName Modes S → LockName → Modes
modes_at m n = unwrap_or (get same_name m n) no_modes

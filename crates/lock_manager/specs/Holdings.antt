-- What one transaction has: its modes by name.
use Rattle.std.specs.Prelude.{◌≡◌, ◌⊎◌, ◌<◌, true}
use Rattle.std.specs.HashMap.{spare}
use Rattle.lock_modes.specs.declared.modes.Modes.{Modes}
use Rattle.lock_modes.specs.declared.name.LockName.{LockName}
use Rattle.lock_modes.specs.Modes.{is_held}
use Rattle.lock_manager.specs.ByName.{modes_at}
use Rattle.lock_manager.specs.declared.holdings.Holdings.{Holdings}

-- the modes on a name
abbrev pub modes_in : Holdings → LockName → Modes
modes_in h n = modes_at h.modes n

-- a mode on the name needs no memory
abbrev pub HasRoom : Holdings → LockName → Type 0
HasRoom h n = (is_held (modes_in h n) ≡ true) ⊎ ((0 < spare h.modes) × (0 < spare h.tallies.tables))

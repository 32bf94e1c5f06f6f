-- What a connection does once its statement is told.
use Rattle.std.specs.Prelude.{◌≡◌, Bool}
use Rattle.dby_types.specs.declared.number.Level.{Level}
use Rattle.sql_commands.specs.declared.command.Command.{Command}
use Rattle.sql_commands.specs.declared.command.Command.TheVariants.{Autocommit, SetIsolation}
use Rattle.session_model.specs.World.{Stage, resting, committing, leaving}
use Rattle.session_engine.specs.declared.session.Phase.{Phase}
use Rattle.session_engine.specs.declared.session.Phase.TheVariants.{Idle, Resting, Asking, Preparing, Claiming, Working, Refusing, Committing, Forcing, Acknowledging, Leaving}

-- the phase goes with where the transaction is now
abbrev pub Follows : Phase → Stage → Type 0
Follows Idle x = ⊥
Follows Resting x = x ≡ resting
Follows Asking x = ⊥
Follows Preparing x = ⊥
Follows Claiming x = ⊥
Follows Working x = ⊥
Follows Refusing x = ⊥
Follows Committing x = x ≡ committing
Follows Forcing x = ⊥
Follows Acknowledging x = ⊥
Follows Leaving x = x ≡ leaving

-- the level and the autocommit that a command leaves
abbrev pub level_set : Command → Level → Level
level_set (SetIsolation level) old = level
level_set _ old = old

abbrev pub automatic_set : Command → Bool → Bool
automatic_set (Autocommit on) old = on
automatic_set _ old = old

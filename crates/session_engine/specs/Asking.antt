-- What a connection asks for.
use Rattle.std.specs.Prelude.{Option, Some, None}
use Rattle.journal_model.specs.declared.journal.Refusal.TheVariants.{Memory}
use Rattle.lock_modes.specs.declared.mode.Mode.{Mode}
use Rattle.lock_modes.specs.declared.mode.Mode.TheVariants.{TS, TX}
use Rattle.lock_modes.specs.declared.name.LockName.{LockName}
use Rattle.lock_modes.specs.declared.name.LockName.TheVariants.{Dictionary, Table}
use Rattle.session_model.specs.declared.order.Order.{Order}
use Rattle.session_model.specs.Legal.{dictionary_mode}
use Rattle.session_engine.specs.declared.session.Phase.{Phase}
use Rattle.session_engine.specs.declared.session.Phase.TheVariants.{Asking, Claiming, Preparing, Working, Refusing}
use Rattle.session_engine.specs.declared.session.Plan.{Plan}
use Rattle.session_engine.specs.declared.session.Plan.TheVariants.{Select, Insert, Refuse}
use Rattle.session_engine.specs.declared.session.Session.{Session}

abbrev pub claimed : Plan → Option (LockName × Mode)
claimed (Select scan) = Some (Table scan.number, TS)
claimed (Insert fill) = Some (Table fill.number, TX)
claimed _ = None

-- the lock that a connection asks for now
abbrev pub wanted : Phase → Option Order → Plan → Option (LockName × Mode)
wanted Asking order p = Some (Dictionary, dictionary_mode order)
wanted Claiming order p = claimed p
wanted _ order p = None

-- what follows the lock
abbrev pub behind : Phase → Phase
behind Asking = Preparing
behind _ = Working

-- the connection once there was no memory for what its statement needs
abbrev pub in_want : Session → Session
in_want s = record s { phase = Refusing; plan = Refuse Memory }

use Rattle.std.proofs.Common.{None}
use Rattle.lock_manager.proofs.HoldingsLemmas.{put_modes}
use Rattle.lock_manager.proofs.TalliesLemmas.{moves_removed}
use Rattle.lock_manager.proofs.names.drop_modes.Goals as goal

pub returns-clause-exact : goal.returns-clause-exact
returns-clause-exact c = put_modes c.args.names.now c.remove.new.self c.args.name None c.remove.ensures.updates.0

pub returns-clause-moves : goal.returns-clause-moves
returns-clause-moves c = moves_removed c.args.names.now c.remove.new.self c.args.name c.remove.ensures.entries

use Rattle.log_model.proofs.Restarting.{undo}
use Rattle.log_model.proofs.laws.undo_takes_one_back.Goals as goal

pub returns : goal.returns
returns c d = undo

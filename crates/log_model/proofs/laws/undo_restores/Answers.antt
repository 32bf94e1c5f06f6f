use Rattle.log_model.proofs.Restarting.{stood_before}
use Rattle.log_model.proofs.laws.undo_restores.Goals as goal

pub returns : goal.returns
returns c d = stood_before

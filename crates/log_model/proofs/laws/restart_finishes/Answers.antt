use Rattle.log_model.proofs.Restarting.{restarts}
use Rattle.log_model.proofs.laws.restart_finishes.Goals as goal

pub returns : goal.returns
returns c d = restarts

use Rattle.log_model.proofs.Restarting.{goes_on}
use Rattle.log_model.proofs.laws.restart_goes_on.Goals as goal

pub returns : goal.returns
returns c d = goes_on

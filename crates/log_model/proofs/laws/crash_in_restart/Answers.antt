use Rattle.log_model.proofs.Restarting.{crash_in_restart}
use Rattle.log_model.proofs.laws.crash_in_restart.Goals as goal

pub returns : goal.returns
returns c d = crash_in_restart

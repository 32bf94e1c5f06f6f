use Rattle.log_model.proofs.Crashing.{crash}
use Rattle.log_model.proofs.laws.crash_keeps_commits.Goals as goal

pub returns : goal.returns
returns c d = crash

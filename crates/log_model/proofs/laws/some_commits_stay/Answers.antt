use Rattle.log_model.proofs.Crashing.{some_stay}
use Rattle.log_model.proofs.laws.some_commits_stay.Goals as goal

pub returns : goal.returns
returns c d = some_stay

use Rattle.log_model.proofs.Bases.{commit_nets}
use Rattle.log_model.proofs.laws.commits_are_net.Goals as goal

pub returns : goal.returns
returns c d = commit_nets

use Rattle.log_model.proofs.Apiece.{lists_follow}
use Rattle.log_model.proofs.laws.lists_follow.Goals as goal

pub returns : goal.returns
returns c d = lists_follow

use Rattle.log_model.proofs.Forgetting.{forgotten}
use Rattle.log_model.proofs.laws.rollback_forgets.Goals as goal

pub returns : goal.returns
returns c d = forgotten

use Rattle.store_model.proofs.Standing.{stands_committed}
use Rattle.store_model.proofs.laws.stands_committed.Goals as goal

pub returns : goal.returns
returns c = stands_committed

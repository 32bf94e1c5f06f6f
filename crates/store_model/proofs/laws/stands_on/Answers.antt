use Rattle.store_model.proofs.Standing.{stands_on}
use Rattle.store_model.proofs.laws.stands_on.Goals as goal

pub returns : goal.returns
returns c = stands_on

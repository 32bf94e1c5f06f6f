use Rattle.store_model.proofs.Standing.{stands_crashed}
use Rattle.store_model.proofs.laws.stands_crashed.Goals as goal

pub returns : goal.returns
returns c = stands_crashed

use Rattle.store_model.proofs.Standing.{stands_forced}
use Rattle.store_model.proofs.laws.stands_forced.Goals as goal

pub returns : goal.returns
returns c = stands_forced

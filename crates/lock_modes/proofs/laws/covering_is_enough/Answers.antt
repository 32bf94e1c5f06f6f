use Rattle.lock_modes.proofs.ApartLemmas.{covers_means}
use Rattle.lock_modes.proofs.laws.covering_is_enough.Goals as goal

pub returns : goal.returns
returns c = covers_means

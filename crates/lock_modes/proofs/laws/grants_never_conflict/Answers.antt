use Rattle.lock_modes.proofs.ApartLemmas.{stay_apart}
use Rattle.lock_modes.proofs.laws.grants_never_conflict.Goals as goal

pub returns : goal.returns
returns c = stay_apart

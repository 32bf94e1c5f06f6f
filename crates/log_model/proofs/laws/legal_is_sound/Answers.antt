use Rattle.log_model.proofs.States.{legal_sound}
use Rattle.log_model.proofs.laws.legal_is_sound.Goals as goal

pub returns : goal.returns
returns c d = legal_sound

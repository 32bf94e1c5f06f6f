use Rattle.log_model.proofs.States.{sound_step}
use Rattle.log_model.proofs.laws.stays_sound.Goals as goal

pub returns : goal.returns
returns c d = sound_step

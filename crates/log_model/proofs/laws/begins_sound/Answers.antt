use Rattle.log_model.proofs.States.{sound_start}
use Rattle.log_model.proofs.laws.begins_sound.Goals as goal

pub returns : goal.returns
returns c d = sound_start

use Rattle.log_model.proofs.Bases.{base_sound, follows_base}
use Rattle.log_model.proofs.laws.logs_go_on.Goals as goal

pub returns : goal.returns
returns c d = record { base = base_sound; follows = follows_base }

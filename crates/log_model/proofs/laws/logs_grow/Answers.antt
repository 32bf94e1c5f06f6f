use Rattle.log_model.proofs.Effects.{after_push, legal_push, step_stands}
use Rattle.log_model.proofs.laws.logs_grow.Goals as goal

pub returns : goal.returns
returns c d = record { legal = legal_push; state = after_push; same = step_stands }

use Rattle.log_model.proofs.Crashing.{commits_front}
use Rattle.log_model.proofs.States.{legal_take}
use Rattle.log_model.proofs.laws.fronts_are_legal.Goals as goal

pub returns : goal.returns
returns c d = record { legal = legal_take; commits = commits_front }

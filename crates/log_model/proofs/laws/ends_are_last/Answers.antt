use Rattle.log_model.proofs.Bases.{commit_is_last, rollback_is_last}
use Rattle.log_model.proofs.laws.ends_are_last.Goals as goal

pub returns : goal.returns
returns c d = record { commit = commit_is_last; rollback = rollback_is_last }

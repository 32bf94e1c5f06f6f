use Rattle.store_model.proofs.Effects.{commit_shown, rollback_shown}
use Rattle.store_model.proofs.laws.ends_are_shown.Goals as goal

pub returns : goal.returns
returns c = record { rollback = rollback_shown; commit = commit_shown }

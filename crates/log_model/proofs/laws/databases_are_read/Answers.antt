use Rattle.log_model.proofs.ReadingAs.{after_commits_as, some_as}
use Rattle.log_model.proofs.laws.databases_are_read.Goals as goal

pub returns : goal.returns
returns c d = record { commits = after_commits_as; some = some_as }

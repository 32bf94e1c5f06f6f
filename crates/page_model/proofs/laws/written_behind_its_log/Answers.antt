use Rattle.page_model.proofs.Redoing.{behind_its_log}
use Rattle.page_model.proofs.laws.written_behind_its_log.Goals as goal

pub returns : goal.returns
returns c d = behind_its_log

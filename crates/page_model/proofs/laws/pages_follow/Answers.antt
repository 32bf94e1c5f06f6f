use Rattle.page_model.proofs.Redoing.{written_current}
use Rattle.page_model.proofs.laws.pages_follow.Goals as goal

pub returns : goal.returns
returns c d = written_current

use Rattle.page_model.proofs.Redoing.{lies_later, lies_push}
use Rattle.page_model.proofs.laws.rule_stays.Goals as goal

pub returns : goal.returns
returns c d = record { force = lies_later; append = lies_push }

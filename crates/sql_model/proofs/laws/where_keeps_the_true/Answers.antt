use Rattle.sql_model.proofs.Keeping.{kept_is_true, true_is_kept}
use Rattle.sql_model.proofs.laws.where_keeps_the_true.Goals as goal

pub returns : goal.returns
returns c = λ cs r. (kept_is_true cs r, true_is_kept cs r)

use Rattle.sql_model.proofs.SameRows.{distinct_has_one}
use Rattle.sql_model.proofs.laws.distinct_keeps_one_of_each.Goals as goal

pub returns : goal.returns
returns c = distinct_has_one

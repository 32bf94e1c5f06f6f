use Rattle.sql_model.proofs.Keeping.{split_true, joined_true}
use Rattle.sql_model.proofs.laws.conjuncts_are_the_condition.Goals as goal

pub returns : goal.returns
returns c = λ e row. (joined_true e.node e.ty row, split_true e.node e.ty row)

use Rattle.sql_model.proofs.Answering.{answers_permuted}
use Rattle.sql_model.proofs.laws.answers_are_bags.Goals as goal

pub returns : goal.returns
returns c = answers_permuted

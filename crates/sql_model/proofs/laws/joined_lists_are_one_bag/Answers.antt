use Rattle.sql_model.proofs.OneBag.{one_bag}
use Rattle.sql_model.proofs.laws.joined_lists_are_one_bag.Goals as goal

pub returns : goal.returns
returns c = one_bag

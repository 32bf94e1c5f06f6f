use Rattle.sql_binding.proofs.Changing.{classes_in_order}
use Rattle.sql_binding.proofs.laws.classes_stand_in_order.Goals as goal

pub returns : goal.returns
returns c = classes_in_order

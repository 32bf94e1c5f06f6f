use Rattle.sql_binding.proofs.Changing.{tuple_alike}
use Rattle.sql_binding.proofs.laws.tuples_are_in_the_tables_order.Goals as goal

pub returns : goal.returns
returns c = tuple_alike

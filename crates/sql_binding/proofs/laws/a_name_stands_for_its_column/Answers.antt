use Rattle.sql_binding.proofs.Naming.{named_stands}
use Rattle.sql_binding.proofs.laws.a_name_stands_for_its_column.Goals as goal

pub returns : goal.returns
returns c = named_stands

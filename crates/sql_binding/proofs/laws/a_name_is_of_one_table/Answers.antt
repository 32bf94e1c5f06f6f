use Rattle.sql_binding.proofs.Naming.{none_named, one_named, several_named}
use Rattle.sql_binding.proofs.laws.a_name_is_of_one_table.Goals as goal

pub returns : goal.returns
returns c = record { none = none_named; one = one_named; several = several_named }

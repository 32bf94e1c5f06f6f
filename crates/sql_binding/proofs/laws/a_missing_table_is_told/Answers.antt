use Rattle.sql_binding.proofs.Refusing.{missing_table_told}
use Rattle.sql_binding.proofs.laws.a_missing_table_is_told.Goals as goal

pub returns : goal.returns
returns c = missing_table_told

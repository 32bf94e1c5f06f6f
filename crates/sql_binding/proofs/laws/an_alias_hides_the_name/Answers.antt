use Rattle.sql_binding.proofs.Naming.{by_alias_alone}
use Rattle.sql_binding.proofs.laws.an_alias_hides_the_name.Goals as goal

pub returns : goal.returns
returns c = by_alias_alone

use Rattle.sql_binding.proofs.Querying.{query_places}
use Rattle.sql_binding.proofs.laws.a_query_has_its_places.Goals as goal

pub returns : goal.returns
returns c = query_places

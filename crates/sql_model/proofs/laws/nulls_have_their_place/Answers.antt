use Rattle.sql_model.proofs.Orders.{nulls_last, nulls_first}
use Rattle.sql_model.proofs.laws.nulls_have_their_place.Goals as goal

pub returns : goal.returns
returns c = record { ascending = nulls_last; descending = nulls_first }

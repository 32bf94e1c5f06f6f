use Rattle.sql_model.proofs.Orders.{order_total}
use Rattle.sql_model.proofs.laws.order_is_total.Goals as goal

pub returns : goal.returns
returns c = order_total

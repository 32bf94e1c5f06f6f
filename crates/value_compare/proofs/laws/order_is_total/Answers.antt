use Rattle.value_compare.proofs.OrderLemmas.{value_cmp_total}
use Rattle.value_compare.proofs.laws.order_is_total.Goals as goal

pub returns : goal.returns
returns c = value_cmp_total

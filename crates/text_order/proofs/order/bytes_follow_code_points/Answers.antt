use Rattle.text_order.proofs.OrderLemmas.{text_cmp-follows}
use Rattle.text_order.proofs.order.bytes_follow_code_points.Goals as goal

pub returns : goal.returns
returns c = text_cmp-follows

use Rattle.expr_binder.proofs.Forms.{named_is}
use Rattle.expr_binder.proofs.leaf.named.Goals as goal

pub returns : goal.returns
returns c = named_is _ _ _ _ c.or_fault-spot.ensures.spot _ _ _ c.or_fault-spot.ensures.walk c.expect_key.ensures _ c.at_spot.ensures

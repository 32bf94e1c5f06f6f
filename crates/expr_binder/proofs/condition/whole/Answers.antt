use Rattle.expr_binder.proofs.Conjuncts.{alone_splits}
use Rattle.expr_binder.proofs.condition.whole.Goals as goal

pub returns : goal.returns
returns c = alone_splits _ _ _ _ _ _ _ _ c.requires.alone c.in_ok-x.ensures c.expect_kind.ensures c.in_ok-push.ensures.ok

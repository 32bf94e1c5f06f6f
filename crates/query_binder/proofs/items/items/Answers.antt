use Rattle.std.proofs.Common.{refl}
use Rattle.query_binder.proofs.ItemSteps.{item_more, items_end}
use Rattle.query_binder.proofs.items.items.Goals as goal

pub loop-text-preserved : goal.loop-text-preserved
loop-text-preserved c = item_more _ _ _ _ _ _ _ _ _ _ _ _ _ c.loop-text-test.true c.text-item.is c.loop-text.invariant refl c.in_ok-name.ensures c.in_ok-expression.ensures c.in_ok-push.ensures.ok

pub returns : goal.returns
returns c = items_end _ _ _ _ _ _ _ c.loop-text-test.false c.loop-text.invariant

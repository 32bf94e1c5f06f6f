use Rattle.query_binder.proofs.Tested.{on_more, on_ends}
use Rattle.query_binder.proofs.condition.on.Goals as goal

pub loop-item-preserved : goal.loop-item-preserved
loop-item-preserved c = on_more _ _ _ _ _ _ _ _ _ _ c.loop-item-test.true c.item-item.is c.loop-item.invariant c.as_slice.ensures c.in_ok-joined.ensures

pub returns : goal.returns
returns c = on_ends _ _ _ _ _ _ _ c.loop-item-test.false c.loop-item.invariant

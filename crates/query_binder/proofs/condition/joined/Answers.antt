use Rattle.query_binder.proofs.Tested.{joined_more, joined_ends}
use Rattle.query_binder.proofs.condition.joined.Goals as goal

pub loop-join-preserved : goal.loop-join-preserved
loop-join-preserved c = joined_more _ _ _ _ _ _ _ _ _ _ c.loop-join-test.true c.join-item.is c.loop-join.invariant c.in_ok-test.ensures

pub returns : goal.returns
returns c = joined_ends _ _ _ _ _ _ _ c.loop-join-test.false c.loop-join.invariant

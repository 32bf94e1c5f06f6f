use Rattle.query_binder.proofs.TableSteps.{join_more, joins_end}
use Rattle.query_binder.proofs.found.add_joined.Goals as goal

pub loop-join-preserved : goal.loop-join-preserved
loop-join-preserved g c = join_more _ _ _ _ _ _ _ c.loop-join-test.true c.join-item.is c.loop-join.invariant c.in_ok-add.ensures

pub returns : goal.returns
returns g c = joins_end _ _ _ _ _ c.loop-join-test.false c.loop-join.invariant

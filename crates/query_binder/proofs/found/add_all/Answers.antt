use Rattle.query_binder.proofs.TableSteps.{list_more, list_ends}
use Rattle.query_binder.proofs.found.add_all.Goals as goal

pub loop-item-preserved : goal.loop-item-preserved
loop-item-preserved g c = list_more _ _ _ _ _ _ _ c.loop-item-test.true c.item-item.is c.loop-item.invariant c.in_ok-add_item.ensures

pub returns : goal.returns
returns g c = list_ends _ _ _ _ _ c.loop-item-test.false c.loop-item.invariant

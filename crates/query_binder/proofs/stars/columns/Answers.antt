use Rattle.std.proofs.Common.{refl}
use Rattle.query_binder.proofs.ItemSteps.{column_more, columns_end}
use Rattle.query_binder.proofs.stars.columns.Goals as goal

pub loop-def-preserved : goal.loop-def-preserved
loop-def-preserved c = column_more _ _ _ _ _ _ _ _ _ _ _ _ _ _ c.loop-def-test.true c.def-item.is c.loop-def.invariant c.in_ok-column.ensures c.in_ok-push.ensures.ok refl

pub returns : goal.returns
returns c = columns_end _ _ _ _ _ _ _ _ _ c.loop-def-test.false c.loop-def.invariant

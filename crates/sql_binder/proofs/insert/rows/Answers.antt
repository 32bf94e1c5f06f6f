use Rattle.sql_binder.proofs.Rows.{row_more, rows_end}
use Rattle.sql_binder.proofs.insert.rows.Goals as goal

pub loop-items-preserved : goal.loop-items-preserved
loop-items-preserved c = row_more _ _ _ _ _ _ _ _ _ _ _ c.loop-items-test.true c.items-item.is c.loop-items.invariant c.as_slice.ensures c.in_ok-tuple.ensures c.in_ok-push.ensures.ok

pub returns : goal.returns
returns c = rows_end _ _ _ _ _ _ _ c.loop-items-test.false c.loop-items.invariant

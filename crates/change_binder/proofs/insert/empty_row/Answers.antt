use Rattle.change_binder.proofs.Rows.{null_more}
use Rattle.change_binder.proofs.insert.empty_row.Goals as goal

pub loop-column-preserved : goal.loop-column-preserved
loop-column-preserved c = record { so_far = null_more _ _ _ _ _ _ _ c.loop-column-test.true c.column-item.is c.null.ensures c.in_ok-push.ensures.items c.loop-column.invariant.so_far }

use Rattle.std.proofs.Common.{refl, ap, ◌+◌}
use Rattle.change_binder.proofs.Rows.{column_more}
use Rattle.change_binder.proofs.insert.all_columns.Goals as goal

pub loop-column-preserved : goal.loop-column-preserved
loop-column-preserved c = record {
  place = ap (λ n. n + 1) c.loop-column.invariant.place;
  so_far = column_more _ _ _ _ _ _ _ _ _ c.loop-column-test.true c.column-item.is refl refl c.in_ok-push.ensures.items c.loop-column.invariant.so_far;
}

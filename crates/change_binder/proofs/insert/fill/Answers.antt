use Rattle.std.proofs.Common.{arith}
use Rattle.change_binder.proofs.Rows.{fill_less, fill_step}
use Rattle.change_binder.proofs.insert.fill.Goals as goal

pub last-preserved : goal.last-preserved
last-preserved c = record {
  same = fill_less _ _ _ _ c.in-Some.ensures.items c.last.invariant.same;
  so_far = fill_step _ _ _ _ _ _ _ _ _ (grind (arith, c.len.ensures)) c.in-Some.ensures.items c.last.invariant.same c.put.ensures c.last.invariant.so_far;
}

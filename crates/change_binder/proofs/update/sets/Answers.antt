use Rattle.change_binder.proofs.Chains.{aims_at, set_puts, set_kept}
use Rattle.change_binder.proofs.update.sets.Goals as goal

pub loop-text-preserved : goal.loop-text-preserved
loop-text-preserved c = record {
  puts = set_puts _ _ _ _ _ _ _ _ _ _ _ _ _ c.loop-text-test.true c.text-item.is (aims_at c.as_slice.ensures c.target-spot.ensures) c.in_ok-value.ensures c.in_ok-push.ensures.ok c.loop-text.invariant.puts;
  fault = set_kept _ _ _ _ _ _ _ _ _ _ _ c.loop-text-test.true c.text-item.is (aims_at c.as_slice.ensures c.target-spot.ensures) c.in_ok-value.ensures c.loop-text.invariant.fault;
}

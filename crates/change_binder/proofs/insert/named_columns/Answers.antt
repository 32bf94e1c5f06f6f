use Rattle.change_binder.proofs.Chains.{aims_at, name_spots, name_faults}
use Rattle.change_binder.proofs.insert.named_columns.Goals as goal

pub loop-name-preserved : goal.loop-name-preserved
loop-name-preserved c = record {
  spots = name_spots _ _ _ _ _ _ _ _ _ _ c.loop-name-test.true c.name-item.is (aims_at c.as_slice.ensures c.target.ensures) c.in_ok-push.ensures.items c.loop-name.invariant.spots;
  fault = name_faults _ _ _ _ _ _ _ _ c.loop-name-test.true c.name-item.is (aims_at c.as_slice.ensures c.target.ensures) c.loop-name.invariant.fault;
}

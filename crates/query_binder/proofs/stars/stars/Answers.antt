use Rattle.std.proofs.Common.{refl}
use Rattle.query_binder.proofs.ItemSteps.{stars_fit, table_more, stars_end}
use Rattle.query_binder.proofs.stars.stars.Goals as goal

pub loop-source-preserved : goal.loop-source-preserved
loop-source-preserved c = record {
  fits = stars_fit _ _ _ _ _ c.loop-source-test.true c.source-item.is c.loop-source.invariant.fits;
  so_far = table_more _ _ _ _ _ _ _ _ _ _ _ c.loop-source-test.true c.source-item.is c.loop-source.invariant.so_far c.in_ok-columns.ensures refl;
}

pub returns : goal.returns
returns c = stars_end _ _ _ _ _ _ _ c.loop-source-test.false c.loop-source.invariant.so_far

use Rattle.std.proofs.Common.{refl}
use Rattle.sql_binder.proofs.Changing.{updates}
use Rattle.sql_binder.proofs.change.update.Goals as goal

pub returns : goal.returns
returns g c = updates _ _ _ _ _ _ _ _ _ _ _ _ _ c.in_ok-target.ensures c.as_slice.ensures c.as_slice-2.ensures refl refl c.in_ok-sets.ensures c.in_ok-conjuncts.ensures c.in_ok-judge_names.ensures

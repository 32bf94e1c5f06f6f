use Rattle.std.proofs.Common.{refl}
use Rattle.sql_binder.proofs.Changing.{deletes}
use Rattle.sql_binder.proofs.change.delete.Goals as goal

pub returns : goal.returns
returns g c = deletes _ _ _ _ _ _ _ _ _ c.in_ok-target.ensures c.as_slice.ensures refl refl c.in_ok-conjuncts.ensures

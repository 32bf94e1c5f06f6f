use Rattle.std.proofs.Common.{refl}
use Rattle.sql_binder.proofs.Lending.{name_more}
use Rattle.sql_binder.proofs.insert.lend.Goals as goal

pub loop-name-preserved : goal.loop-name-preserved
loop-name-preserved c = record { so_far = name_more (λ ns. ns) _ _ _ _ _ _ _ _ c.loop-name-test.true c.name-item.is c.as_slice.ensures (λ rest. refl) c.in_ok-push.ensures.items c.loop-name.invariant.so_far }

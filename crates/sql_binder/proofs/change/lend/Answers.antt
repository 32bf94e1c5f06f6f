use Rattle.std.proofs.Common.{refl}
use Rattle.sql_binding.specs.Changes.{set_names as names_of}
use Rattle.sql_binder.proofs.Lending.{name_more}
use Rattle.sql_binder.proofs.change.lend.Goals as goal

pub loop-set-preserved : goal.loop-set-preserved
loop-set-preserved c = record { so_far = name_more names_of _ _ _ _ _ _ _ _ c.loop-set-test.true c.set-item.is c.as_slice.ensures (λ rest. refl) c.in_ok-push.ensures.items c.loop-set.invariant.so_far }

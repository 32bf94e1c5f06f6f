use Rattle.std.proofs.Common.{refl}
use Rattle.sql_binding.specs.Creating.{column_names as names_of}
use Rattle.sql_binder.proofs.Lending.{name_more}
use Rattle.sql_binder.proofs.create.lend.Goals as goal

pub loop-column-preserved : goal.loop-column-preserved
loop-column-preserved c = record { so_far = name_more names_of _ _ _ _ _ _ _ _ c.loop-column-test.true c.column-item.is c.as_slice.ensures (λ rest. refl) c.in_ok-push.ensures.items c.loop-column.invariant.so_far }

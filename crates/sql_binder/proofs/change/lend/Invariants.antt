use Rattle.std.proofs.Common.{◌≡◌, ◌++◌, drop}
use Rattle.name_binder.specs.Lent.{texts}
use Rattle.sql_binding.specs.Changes.{set_names}
use Rattle.sql_binder.proofs.change.lend.Given as goal

abbrev pub invariant-loop-set : goal.invariant-loop-set
invariant-loop-set l = record { so_far : texts l.lent.items ++ set_names (drop l.set-index l.sets) ≡ set_names l.sets }

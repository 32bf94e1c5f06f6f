use Rattle.std.proofs.Common.{◌≡◌, ◌++◌, drop}
use Rattle.name_binder.specs.Lent.{texts}
use Rattle.sql_binding.specs.Creating.{column_names}
use Rattle.sql_binder.proofs.create.lend.Given as goal

abbrev pub invariant-loop-column : goal.invariant-loop-column
invariant-loop-column l = record { so_far : texts l.lent.items ++ column_names (drop l.column-index l.columns) ≡ column_names l.columns }

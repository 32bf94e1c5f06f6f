use Rattle.std.proofs.Common.{◌≡◌, ◌++◌, drop}
use Rattle.name_binder.specs.Lent.{texts}
use Rattle.sql_binder.proofs.insert.lend.Given as goal

abbrev pub invariant-loop-name : goal.invariant-loop-name
invariant-loop-name l = record { so_far : texts l.lent.items ++ drop l.name-index l.names ≡ l.names }

use Rattle.std.proofs.Common.{◌≡◌, drop}
use Rattle.sql_binder.specs.Making.{has_not_null}
use Rattle.sql_binder.proofs.create.has_not_null.Given as goal

abbrev pub invariant-loop-mark : goal.invariant-loop-mark
invariant-loop-mark l = record { so_far : has_not_null (drop l.mark-index l.marks) ≡ has_not_null l.marks }

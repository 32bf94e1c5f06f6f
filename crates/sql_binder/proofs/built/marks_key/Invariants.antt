use Rattle.std.proofs.Common.{◌≡◌, drop}
use Rattle.sql_binder.specs.Built.{marks_key}
use Rattle.sql_binder.proofs.built.marks_key.Given as goal

abbrev pub invariant-loop-mark : goal.invariant-loop-mark
invariant-loop-mark l = record { so_far : marks_key (drop l.mark-index l.marks) ≡ marks_key l.marks }

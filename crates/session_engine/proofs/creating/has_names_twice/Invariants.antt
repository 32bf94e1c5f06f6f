use Rattle.std.proofs.Common.{◌≡◌, drop}
use Rattle.journal_model.specs.Meaning.{names_twice}
use Rattle.session_engine.proofs.creating.has_names_twice.Given as goal

abbrev pub invariant-loop-i : goal.invariant-loop-i
invariant-loop-i l = names_twice (drop l.i l.columns) ≡ names_twice l.columns

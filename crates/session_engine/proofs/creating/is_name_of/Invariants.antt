use Rattle.std.proofs.Common.{◌≡◌, drop}
use Rattle.journal_model.specs.Meaning.{has_name}
use Rattle.session_engine.proofs.creating.is_name_of.Given as goal

abbrev pub invariant-loop-column : goal.invariant-loop-column
invariant-loop-column l = has_name l.name (drop l.column-index l.columns) ≡ has_name l.name l.columns

use Rattle.std.proofs.Common.{◌≡◌, drop}
use Rattle.journal_model.specs.Meaning.{some_null}
use Rattle.session_engine.proofs.fit.some_refused_null.Given as goal

abbrev pub invariant-loop-tuple : goal.invariant-loop-tuple
invariant-loop-tuple l = some_null l.columns (drop l.tuple-index l.tuples) ≡ some_null l.columns l.tuples

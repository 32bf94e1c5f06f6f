use Rattle.std.proofs.Common.{◌≡◌, drop}
use Rattle.journal_model.specs.Catalog.{has_null}
use Rattle.session_engine.proofs.fit.has_refused_null.Given as goal

abbrev pub invariant-loop-i : goal.invariant-loop-i
invariant-loop-i l = has_null (drop l.i l.columns) (drop l.i l.row) ≡ has_null l.columns l.row

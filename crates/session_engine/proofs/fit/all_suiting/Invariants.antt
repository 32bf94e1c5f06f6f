use Rattle.std.proofs.Common.{◌≡◌, true, drop}
use Rattle.journal_model.specs.Meaning.{all_suit}
use Rattle.table_model.specs.Fitting.{fits_columns}
use Rattle.table_model.specs.Tables.{Each}
use Rattle.session_engine.proofs.fit.all_suiting.Given as goal

abbrev pub invariant-loop-tuple : goal.invariant-loop-tuple
invariant-loop-tuple l =
    (all_suit l.columns (drop l.tuple-index l.tuples) ≡ all_suit l.columns l.tuples)
    × (Each (λ t. fits_columns l.columns t ≡ true) (drop l.tuple-index l.tuples) → Each (λ t. fits_columns l.columns t ≡ true) l.tuples)

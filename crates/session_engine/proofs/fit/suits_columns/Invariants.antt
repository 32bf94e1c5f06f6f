use Rattle.std.proofs.Common.{◌≡◌, drop}
use Rattle.journal_model.specs.Catalog.{suits}
use Rattle.table_model.specs.Fitting.{fits_columns}
use Rattle.session_engine.proofs.fit.suits_columns.Given as goal

abbrev pub invariant-loop-i : goal.invariant-loop-i
invariant-loop-i l = (suits (drop l.i l.columns) (drop l.i l.row) ≡ suits l.columns l.row) × (fits_columns (drop l.i l.columns) (drop l.i l.row) ≡ fits_columns l.columns l.row)

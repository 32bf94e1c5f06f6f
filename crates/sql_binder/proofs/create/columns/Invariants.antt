use Rattle.std.proofs.Common.{◌≡◌, ◌++◌, drop}
use Rattle.sql_binder.specs.Making.{plain_columns}
use Rattle.sql_binder.proofs.create.columns.Given as goal

abbrev pub invariant-loop-part : goal.invariant-loop-part
invariant-loop-part l = record { so_far : l.columns ++ plain_columns (drop l.part-index l.parts) ≡ plain_columns l.parts }

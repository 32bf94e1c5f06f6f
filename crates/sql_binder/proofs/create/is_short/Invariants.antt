use Rattle.std.proofs.Common.{◌≡◌, ◌+◌, drop}
use Rattle.row_codec.specs.StoredRow.{row_len}
use Rattle.sql_binder.proofs.create.is_short.Given as goal

abbrev pub invariant-loop-column : goal.invariant-loop-column
invariant-loop-column l = record { so_far : row_len (drop l.column-index l.columns) + 1900 ≡ row_len l.columns + l.left }

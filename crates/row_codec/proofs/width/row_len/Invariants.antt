use Rattle.std.proofs.Common.{◌≡◌, ◌+◌, drop}
use Rattle.row_codec.specs.StoredRow.{row_len}
use Rattle.row_codec.proofs.width.row_len.Given as goal

abbrev pub invariant-loop-column : goal.invariant-loop-column
invariant-loop-column l = l.len + row_len (drop l.column-index l.fn.c) ≡ row_len l.fn.c

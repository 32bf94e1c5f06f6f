use Rattle.std.proofs.Common.{◌≤◌, length}
use Rattle.row_codec.proofs.RowLoops.{HasRead}
use Rattle.row_codec.proofs.read.read_row.Given as goal

abbrev pub invariant-loop-column : goal.invariant-loop-column
invariant-loop-column l = record {
  place : l.at ≤ length l.b;
  read : HasRead l.columns l.b l.column-index l.at l.values.items;
}

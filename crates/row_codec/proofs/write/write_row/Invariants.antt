use Rattle.std.proofs.Common.{◌≡◌, ◌+◌, drop}
use Rattle.row_codec.specs.StoredRow.{FitsColumns, row_len}
use Rattle.row_codec.proofs.RowLoops.{HasWritten}
use Rattle.row_codec.proofs.write.write_row.Given as goal

abbrev pub invariant-loop-i : goal.invariant-loop-i
invariant-loop-i l = record {
  fits : FitsColumns (drop l.i l.values) (drop l.i l.columns);
  place : l.at + row_len (drop l.i l.columns) ≡ row_len l.columns;
  done : HasWritten l.values l.columns l.i l.at l.initial.into l.into;
}

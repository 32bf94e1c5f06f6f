use Rattle.std.proofs.Common.{◌≡◌, ◌+◌, drop}
use Rattle.sql_binding.specs.Names as meaning
use Rattle.expr_binder.proofs.names.spot_from.Given as goal

abbrev pub invariant-loop-column : goal.invariant-loop-column
invariant-loop-column l = record {
  place : l.place ≡ l.at + l.column-index;
  so_far : meaning.spot_from l.place l.name (drop l.column-index l.columns) ≡ meaning.spot_from l.at l.name l.columns;
}

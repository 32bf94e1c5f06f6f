use Rattle.std.proofs.Common.{◌≡◌, ◌+◌, drop}
use Rattle.expr_binder.specs.Seen.{sources_in}
use Rattle.sql_binding.specs.Names.{spot_of, width_of}
use Rattle.expr_binder.proofs.names.qualified.Given as goal

abbrev pub invariant-loop-source : goal.invariant-loop-source
invariant-loop-source l = record {
  fits : l.at + width_of (sources_in (drop l.source-index l.sources)) ≡ width_of (sources_in l.sources);
  so_far : spot_of l.at l.table l.name (sources_in (drop l.source-index l.sources)) ≡ spot_of 0 l.table l.name (sources_in l.sources);
}

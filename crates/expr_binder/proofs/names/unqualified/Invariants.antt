use Rattle.std.proofs.Common.{◌≡◌, ◌+◌, drop}
use Rattle.expr_binder.specs.Found.{with_more}
use Rattle.expr_binder.specs.Seen.{sources_in}
use Rattle.sql_binding.specs.Names.{only_one, spots_from, width_of}
use Rattle.expr_binder.proofs.names.unqualified.Given as goal

abbrev pub invariant-loop-source : goal.invariant-loop-source
invariant-loop-source l = record {
  fits : l.at + width_of (sources_in (drop l.source-index l.sources)) ≡ width_of (sources_in l.sources);
  so_far : with_more l.found (spots_from l.at l.name (sources_in (drop l.source-index l.sources))) ≡ only_one (spots_from 0 l.name (sources_in l.sources));
}

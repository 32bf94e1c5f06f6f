use Rattle.std.proofs.Common.{◌≡◌, ◌+◌, drop}
use Rattle.expr_binder.specs.Seen.{sources_in}
use Rattle.query_binder.proofs.ItemSteps.{Stars}
use Rattle.sql_binding.specs.Names.{width_of}
use Rattle.query_binder.proofs.stars.stars.Given as goal

abbrev pub invariant-loop-source : goal.invariant-loop-source
invariant-loop-source l = record {
  fits : l.at + width_of (sources_in (drop l.source-index l.sources)) ≡ width_of (sources_in l.sources);
  so_far : Stars l.keys l.sources l.source-index l.at l.initial.walk l.walk l.outs;
}

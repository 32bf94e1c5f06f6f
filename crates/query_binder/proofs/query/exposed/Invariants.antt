use Rattle.std.proofs.Common.{◌≡◌, ◌++◌, drop}
use Rattle.expr_binder.specs.Seen.{sources_in}
use Rattle.name_binder.specs.Lent.{texts}
use Rattle.sql_binding.specs.From.{exposed_names}
use Rattle.query_binder.proofs.query.exposed.Given as goal

abbrev pub invariant-loop-source : goal.invariant-loop-source
invariant-loop-source l = record {
  so_far : texts l.names.items ++ exposed_names (sources_in (drop l.source-index l.sources)) ≡ exposed_names (sources_in l.sources);
}

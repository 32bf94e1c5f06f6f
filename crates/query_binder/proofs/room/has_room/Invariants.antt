use Rattle.std.proofs.Common.{◌≡◌, ◌+◌, drop}
use Rattle.expr_binder.specs.Seen.{sources_in}
use Rattle.sql_binding.specs.Names.{width_of}
use Rattle.query_binder.proofs.room.has_room.Given as goal

abbrev pub invariant-loop-source : goal.invariant-loop-source
invariant-loop-source l = record {
  so_far : width_of (sources_in (drop l.source-index l.sources)) + 4294967295 ≡ width_of (sources_in l.sources) + l.left;
}

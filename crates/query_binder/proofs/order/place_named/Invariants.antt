use Rattle.std.proofs.Common.{◌≡◌, drop}
use Rattle.query_binder.proofs.Keys.{behind_all}
use Rattle.sql_binding.specs.Bound.{shown_of}
use Rattle.sql_binding.specs.Ordering.{place_named}
use Rattle.query_binder.proofs.order.place_named.Given as goal

abbrev pub invariant-loop-out : goal.invariant-loop-out
invariant-loop-out l = record {
  place : l.place ≡ l.out-index;
  so_far : behind_all l.place (place_named l.name (shown_of (drop l.out-index l.outs))) ≡ place_named l.name (shown_of l.outs);
}

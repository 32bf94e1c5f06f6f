use Rattle.std.proofs.Common.{◌≡◌, drop}
use Rattle.expr_binder.specs.Listing.{before, bound_all, calls_all, faults_all, sums_all}
use Rattle.expr_binder.specs.Seen.{scope_in, sources_in}
use Rattle.expr_binder.specs.Walking.{Walked}
use Rattle.expr_binder.specs.declared.walk.Walk.{Walk}
use Rattle.expr_binder.proofs.expression.+bind.Given as goal

abbrev pub invariant-members-loop-e : goal.invariant-members-loop-e
invariant-members-loop-e l = record {
  trees : before l.xs.items (bound_all (scope_in l.sources l.keys) l.walk.next (drop l.e-index l.es)) ≡ bound_all (scope_in l.sources l.keys) l.initial.walk.next l.es;
  walk : (v : Walk) → Walked l.walk v (faults_all (scope_in l.sources l.keys) l.left l.walk.next (drop l.e-index l.es)) (calls_all (drop l.e-index l.es)) (sums_all (sources_in l.sources) (drop l.e-index l.es))
      → Walked l.initial.walk v (faults_all (scope_in l.sources l.keys) l.left l.initial.walk.next l.es) (calls_all l.es) (sums_all (sources_in l.sources) l.es);
}

use Rattle.expr_binder.specs.Seen.{sources_in}
use Rattle.query_binder.proofs.Tested.{OnTests}
use Rattle.query_binder.proofs.condition.on.Given as goal

abbrev pub invariant-loop-item : goal.invariant-loop-item
invariant-loop-item l = OnTests (sources_in l.sources) l.from l.item-index l.initial.fault l.fault l.initial.conjuncts l.conjuncts

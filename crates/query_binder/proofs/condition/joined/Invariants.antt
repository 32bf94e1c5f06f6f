use Rattle.expr_binder.specs.Seen.{sources_in}
use Rattle.query_binder.proofs.Tested.{JoinedTests}
use Rattle.query_binder.proofs.condition.joined.Given as goal

abbrev pub invariant-loop-join : goal.invariant-loop-join
invariant-loop-join l = JoinedTests (sources_in l.sources) l.joins l.join-index l.initial.fault l.fault l.initial.conjuncts l.conjuncts

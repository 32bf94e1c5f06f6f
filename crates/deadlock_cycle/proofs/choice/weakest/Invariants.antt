use Rattle.std.proofs.Common.{◌≡◌, drop}
use Rattle.deadlock_cycle.specs.Choice.{weakest}
use Rattle.deadlock_cycle.proofs.choice.weakest.Given as goal

abbrev pub invariant-loop-e : goal.invariant-loop-e
invariant-loop-e l = weakest l.initial.best l.edges ≡ weakest l.best (drop l.e-index l.edges)

use Rattle.lock_manager.specs.Table.{lock}
use Rattle.deadlock_cycle.specs.Search.{rank}
use Rattle.deadlock_cycle.specs.Steps.{IsSearching}
use Rattle.deadlock_cycle.proofs.search.after_wait.Given as goal

abbrev pub invariant-steps : goal.invariant-steps
invariant-steps l = IsSearching (lock l.l) l.t l.s

abbrev pub decreases-steps : goal.decreases-steps
decreases-steps l = rank l.s.path l.s.seen l.s.above

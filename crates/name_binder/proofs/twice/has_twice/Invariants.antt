use Rattle.name_binder.proofs.Seen.{Saw}
use Rattle.name_binder.proofs.twice.has_twice.Given as goal

abbrev pub invariant-names : goal.invariant-names
invariant-names l = Saw l.names l.seen.keys l.left

abbrev pub decreases-names : goal.decreases-names
decreases-names l = l.left

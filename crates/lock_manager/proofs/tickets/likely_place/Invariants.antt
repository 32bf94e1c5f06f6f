use Rattle.std.proofs.Common.{◌≤◌, ◌-◌, length}
use Rattle.lock_manager.proofs.tickets.likely_place.Given as goal

abbrev pub invariant-halve : goal.invariant-halve
invariant-halve l = record {
  order : l.low ≤ l.high;
  within : l.high ≤ length l.line;
}

abbrev pub decreases-halve : goal.decreases-halve
decreases-halve l = l.high - l.low

use Rattle.std.proofs.Common.{◌≤◌, ◌-◌}
use Rattle.lock_manager.specs.Asked.{asked_before}
use Rattle.lock_manager.proofs.next.count_before.Given as goal

abbrev pub invariant-halve : goal.invariant-halve
invariant-halve l = record {
  order : l.low ≤ l.high;
  below : l.low ≤ asked_before l.name l.line.line.items l.i;
  above : asked_before l.name l.line.line.items l.i ≤ l.high;
}

abbrev pub decreases-halve : goal.decreases-halve
decreases-halve l = l.high - l.low

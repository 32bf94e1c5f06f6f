use Rattle.std.proofs.Common.{◌≤◌, ◌-◌}
use Rattle.lock_manager.proofs.places.place_of.Given as goal

abbrev pub invariant-each : goal.invariant-each
invariant-each l = l.i ≤ l.len

abbrev pub decreases-each : goal.decreases-each
decreases-each l = l.len - l.i

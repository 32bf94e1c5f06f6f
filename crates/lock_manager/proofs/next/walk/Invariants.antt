use Rattle.std.proofs.Common.{◌≤◌, ◌-◌}
use Rattle.lock_manager.specs.Freed.{frees, Skips}
use Rattle.lock_manager.proofs.next.walk.Given as goal

abbrev pub invariant-each : goal.invariant-each
invariant-each l = record {
  within : l.at ≤ l.end;
  skips : Skips (frees l.freed) l.line l.i l.at;
}

abbrev pub decreases-each : goal.decreases-each
decreases-each l = l.end - l.at

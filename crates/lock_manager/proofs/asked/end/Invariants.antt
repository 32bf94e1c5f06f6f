use Rattle.std.proofs.Common.{◌≤◌, ◌-◌, length}
use Rattle.lock_manager.specs.Asked.{asks_for}
use Rattle.lock_manager.proofs.asked.end.Given as goal

abbrev pub invariant-each : goal.invariant-each
invariant-each l = record {
  within : l.i ≤ l.len;
  taken : l.i ≤ length (asks_for l.name l.line);
}

abbrev pub decreases-each : goal.decreases-each
decreases-each l = l.len - l.i

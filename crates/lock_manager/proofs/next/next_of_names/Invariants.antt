use Rattle.std.proofs.Common.{◌≤◌}
use Rattle.lock_manager.specs.Freed.{SkipsNames}
use Rattle.lock_manager.proofs.next.next_of_names.Given as goal

abbrev pub invariant-loop-name : goal.invariant-loop-name
invariant-loop-name l = record {
  start : l.i ≤ l.first;
  within : l.first ≤ l.end;
  passed : SkipsNames l.names.entries l.name-iterator l.line.line.items l.i l.first;
}

use Rattle.std.proofs.Common.{◌≤◌, ◌-◌}
use Rattle.std.specs.HashMap.{spare}
use Rattle.lock_manager.specs.Asked.{Closing}
use Rattle.lock_manager.proofs.asked.close.Given as goal

abbrev pub invariant-each : goal.invariant-each
invariant-each l = record {
  above : l.first ≤ l.i;
  within : l.i ≤ l.last;
  moved : Closing l.initial.asked l.asked l.name l.first l.i;
  room : spare l.initial.asked ≤ spare l.asked;
}

abbrev pub decreases-each : goal.decreases-each
decreases-each l = l.last - l.i

use Rattle.std.proofs.Common.{◌≤◌, ◌-◌}
use Rattle.lock_manager.specs.Asked.{asked_before}
use Rattle.lock_manager.proofs.asked.number_of.Given as goal

abbrev pub invariant-each : goal.invariant-each
invariant-each l = record {
  within : l.i ≤ l.len;
  before : l.i ≤ asked_before l.r.name l.line l.at;
}

abbrev pub decreases-each : goal.decreases-each
decreases-each l = l.len - l.i

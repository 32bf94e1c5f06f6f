use Rattle.std.proofs.Common.{◌≤◌, ◌-◌, take}
use Rattle.lock_manager.specs.Asked.{asked_before}
use Rattle.lock_manager.proofs.AskedLemmas.{Passed}
use Rattle.lock_manager.proofs.asked.asker_before.Given as goal

abbrev pub invariant-each : goal.invariant-each
invariant-each l = record {
  within : l.i ≤ l.len;
  before : l.i ≤ asked_before l.r.name l.line l.at;
  passed : Passed (take l.at l.line) l.r l.i;
}

abbrev pub decreases-each : goal.decreases-each
decreases-each l = l.len - l.i

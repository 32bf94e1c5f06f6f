use Rattle.std.proofs.Common.{◌≡◌, ◌≤◌, ◌-◌, drop}
use Rattle.std.specs.List.{list_any}
use Rattle.lock_manager.specs.Asked.{asks_for}
use Rattle.lock_manager.specs.Serve.{contests}
use Rattle.lock_manager.proofs.asked.is_contested.Given as goal

abbrev pub invariant-each : goal.invariant-each
invariant-each l = record {
  within : l.i ≤ l.len;
  passed : list_any (contests l.name l.mode) l.line ≡ list_any (contests l.name l.mode) (drop l.i (asks_for l.name l.line));
}

abbrev pub decreases-each : goal.decreases-each
decreases-each l = l.len - l.i

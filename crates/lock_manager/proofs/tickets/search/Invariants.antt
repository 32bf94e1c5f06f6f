use Rattle.std.proofs.Common.{◌≡◌, ◌≤◌, ◌-◌, drop}
use Rattle.std.specs.List.{list_any}
use Rattle.lock_modes.specs.Names.{same_txn}
use Rattle.lock_manager.proofs.tickets.search.Given as goal

abbrev pub invariant-each : goal.invariant-each
invariant-each l = record {
  within : l.i ≤ l.len;
  passed : list_any (λ q. same_txn q.txn l.t) l.line ≡ list_any (λ q. same_txn q.txn l.t) (drop l.i l.line);
}

abbrev pub decreases-each : goal.decreases-each
decreases-each l = l.len - l.i

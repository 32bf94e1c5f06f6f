use Rattle.std.proofs.Common.{◌≤◌, ◌-◌}
use Rattle.std.specs.Prelude.{◌&&◌, not}
use Rattle.lock_modes.specs.Modes.{hinders}
use Rattle.lock_modes.specs.Names.{same_txn}
use Rattle.lock_manager.specs.Blocking.{IsLeast}
use Rattle.lock_manager.specs.Owners.{grants_in}
use Rattle.lock_manager.specs.Places.{is_seen}
use Rattle.lock_manager.proofs.hindering.least.Given as goal

abbrev pub invariant-each : goal.invariant-each
invariant-each l = record {
  within : l.i ≤ l.len;
  least : IsLeast (λ h. (not (same_txn h l.r.txn) && hinders (grants_in l.owners.entries h l.r.name) l.r.mode) && is_seen l.places l.r.name l.i h) l.above l.best;
}

abbrev pub decreases-each : goal.decreases-each
decreases-each l = l.len - l.i

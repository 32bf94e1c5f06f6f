use Rattle.std.proofs.Common.{◌≡◌, ◌≤◌, ◌-◌, false}
use Rattle.std.specs.Prelude.{◌&&◌}
use Rattle.dby_types.specs.declared.number.TxnNo.{TxnNo}
use Rattle.lock_modes.specs.Modes.{hinders}
use Rattle.lock_manager.specs.Owners.{grants_in}
use Rattle.lock_manager.specs.Places.{is_seen}
use Rattle.lock_manager.proofs.hindering.any.Given as goal

abbrev pub invariant-each : goal.invariant-each
invariant-each l = record {
  within : l.i ≤ l.len;
  passed : (h : TxnNo) → (hinders (grants_in l.owners.entries h l.name) l.mode && is_seen l.places l.name l.i h) ≡ false;
}

abbrev pub decreases-each : goal.decreases-each
decreases-each l = l.len - l.i

use Rattle.std.proofs.Common.{◌≡◌, ◌≤◌, ◌-◌, drop}
use Rattle.std.specs.Prelude.{◌&&◌, not}
use Rattle.dby_types.specs.declared.number.TxnNo.{TxnNo}
use Rattle.lock_modes.specs.Names.{same_txn}
use Rattle.lock_modes.specs.Waits.{asks_before}
use Rattle.lock_manager.specs.Asked.{asks_for}
use Rattle.lock_manager.proofs.asked.asker_in_way.Given as goal

abbrev pub invariant-each : goal.invariant-each
invariant-each l = record {
  within : l.i ≤ l.len;
  passed : (h : TxnNo) → (not (same_txn h l.r.txn) && asks_before l.line l.r h) ≡ (not (same_txn h l.r.txn) && asks_before (drop l.i (asks_for l.r.name l.line)) l.r h);
}

abbrev pub decreases-each : goal.decreases-each
decreases-each l = l.len - l.i

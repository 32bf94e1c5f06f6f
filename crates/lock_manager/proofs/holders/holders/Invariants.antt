use Rattle.std.proofs.Common.{◌≡◌, ◌++◌}
use Rattle.lock_manager.specs.Holders.{holders_in}
use Rattle.lock_manager.proofs.holders.holders.Given as goal

abbrev pub invariant-loop-txn : goal.invariant-loop-txn
invariant-loop-txn l = holders_in l.name l.owners.entries ≡ l.out ++ holders_in l.name l.txn-iterator

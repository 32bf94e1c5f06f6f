use Rattle.std.proofs.Common.{◌≡◌, ◌++◌, drop}
use Rattle.lock_manager.specs.Holders.{pairs_of}
use Rattle.lock_manager.proofs.holders.list_modes.Given as goal

abbrev pub invariant-loop-mode : goal.invariant-loop-mode
invariant-loop-mode l = l.initial.out ++ pairs_of l.txn l.modes l.some ≡ l.out ++ pairs_of l.txn l.modes (drop l.mode-index l.some)

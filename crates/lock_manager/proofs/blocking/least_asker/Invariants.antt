use Rattle.std.proofs.Common.{◌≡◌, drop}
use Rattle.lock_modes.specs.Waits.{ahead, opposes}
use Rattle.lock_manager.specs.Blocking.{least_by}
use Rattle.lock_manager.proofs.blocking.least_asker.Given as goal

abbrev pub invariant-loop-q : goal.invariant-loop-q
invariant-loop-q l = least_by (λ q. opposes q l.r) (λ q. q.txn) l.above l.initial.best (ahead l.r.txn l.line) ≡ least_by (λ q. opposes q l.r) (λ q. q.txn) l.above l.best (ahead l.r.txn (drop l.q-index l.line))

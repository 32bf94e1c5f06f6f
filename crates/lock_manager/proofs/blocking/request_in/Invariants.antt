use Rattle.std.proofs.Common.{◌≡◌, drop}
use Rattle.std.specs.List.{find}
use Rattle.lock_modes.specs.Names.{same_txn}
use Rattle.lock_manager.proofs.blocking.request_in.Given as goal

abbrev pub invariant-loop-q : goal.invariant-loop-q
invariant-loop-q l = find (λ r. same_txn r.txn l.t) l.line ≡ find (λ r. same_txn r.txn l.t) (drop l.q-index l.line)

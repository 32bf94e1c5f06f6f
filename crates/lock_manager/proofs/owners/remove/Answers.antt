use Rattle.std.proofs.Common.{arith}
use Rattle.std.specs.Map.{remove_entry}
use Rattle.lock_modes.specs.Names.{same_txn}
use Rattle.lock_manager.proofs.OwnersLemmas.{sum_permutation, sum_remove, claims_permutation, claims_remove}
use Rattle.lock_manager.proofs.owners.remove.Goals as goal

pub returns-clause-total : goal.returns-clause-total
returns-clause-total c =
    let p = sum_permutation (remove_entry (same_txn c.args.txn) c.args.owners.now.entries) c.remove.new.self.entries c.remove.ensures.entries in
    let q = sum_remove c.args.txn c.args.owners.now.entries in
    omega (arith, p, q)

pub returns-clause-claims : goal.returns-clause-claims
returns-clause-claims c =
    let p = claims_permutation (remove_entry (same_txn c.args.txn) c.args.owners.now.entries) c.remove.new.self.entries c.remove.ensures.entries in
    let q = claims_remove c.args.txn c.args.owners.now.entries in
    omega (arith, p, q)

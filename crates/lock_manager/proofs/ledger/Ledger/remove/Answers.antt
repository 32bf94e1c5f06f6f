use Rattle.std.proofs.Common.{arith}
use Rattle.lock_manager.specs.Owners.{grants_in}
use Rattle.lock_manager.proofs.ListedLemmas.{all_given_back}
use Rattle.lock_manager.proofs.OwnersLemmas.{claim_within}
use Rattle.lock_manager.proofs.ledger.Ledger.remove.Goals as goal

pub overflow_sub-self : goal.overflow_sub-self
overflow_sub-self c =
    let s = c.args.self.now in
    let within = claim_within s.owners.entries c.args.txn in
    omega (arith, within, c.claim.ensures.exact, s.total)

pub invariant_of-self : goal.invariant_of-self
invariant_of-self c =
    let s = c.args.self.now in
    let os = s.owners.entries in
    let os1 = c.remove-owner.new.owners.entries in
    record {
      packed = c.unlist_all.ensures.packed;
      listed = all_given_back s.places c.unlist_all.new.places (grants_in os) (grants_in os1) c.args.txn c.unlist_all.ensures.kept s.listed c.remove-owner.ensures.grants;
      total = omega (arith, c.remove-owner.ensures.claims, c.claim.ensures.exact, s.total);
      room = omega (arith, s.room, c.unlist_all.ensures.room);
    }

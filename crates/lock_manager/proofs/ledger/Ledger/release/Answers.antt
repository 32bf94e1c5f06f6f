use Rattle.std.proofs.Common.{arith}
use Rattle.lock_modes.specs.Lock.{released}
use Rattle.lock_modes.specs.Names.{same_name}
use Rattle.lock_manager.specs.Owners.{grants_in}
use Rattle.lock_manager.proofs.ListedLemmas.{given_back, claims_same}
use Rattle.lock_manager.proofs.ledger.Ledger.release.Goals as goal

pub invariant_of-self : goal.invariant_of-self
invariant_of-self c =
    let s = c.args.self.now in
    let os = s.owners.entries in
    let os1 = c.release.new.owners.entries in
    let ch = c.release.ensures.changes in
    record {
      packed = c.unlist.ensures.packed;
      listed = given_back s.places c.unlist.new.places (grants_in os) (grants_in os1) (same_name c.args.name) c.args.txn c.unlist.ensures.kept s.listed ch.grants_are;
      total = claims_same os os1 c.args.txn (released (grants_in os) c.args.txn c.args.name) s.claims ch c.release.ensures.room c.release.ensures.same s.total;
      room = omega (arith, s.room, c.unlist.ensures.room);
    }

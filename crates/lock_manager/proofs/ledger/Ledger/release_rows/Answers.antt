use Rattle.std.proofs.Common.{arith}
use Rattle.lock_modes.specs.Escalation.{released_rows}
use Rattle.lock_modes.specs.Names.{is_row_name}
use Rattle.lock_manager.specs.Owners.{grants_in}
use Rattle.lock_manager.proofs.ListedLemmas.{given_back, claims_same}
use Rattle.lock_manager.proofs.ledger.Ledger.release_rows.Goals as goal

pub invariant_of-self : goal.invariant_of-self
invariant_of-self c =
    let s = c.args.self.now in
    let os = s.owners.entries in
    let os1 = c.release_rows.new.owners.entries in
    let ch = c.release_rows.ensures.changes in
    record {
      packed = c.unlist_rows.ensures.packed;
      listed = given_back s.places c.unlist_rows.new.places (grants_in os) (grants_in os1) (is_row_name c.args.table) c.args.txn c.unlist_rows.ensures.kept s.listed ch.grants_are;
      total = claims_same os os1 c.args.txn (released_rows (grants_in os) c.args.txn c.args.table) s.claims ch c.release_rows.ensures.room c.release_rows.ensures.same s.total;
      room = omega (arith, s.room, c.unlist_rows.ensures.room);
    }

use Rattle.std.proofs.Common.{rules, ◌≡◌, ◌+◌, ◌-◌, ◌∙◌, ap, arith, ℕ}
use Rattle.lock_manager.specs.Owners.{grants_in, left_in}
use Rattle.lock_manager.proofs.ListedLemmas.{same_packed, same_places, claims_same, claims_more}
use Rattle.lock_manager.proofs.PlacesLemmas.{reordered}
use Rattle.lock_manager.proofs.ledger.Ledger.reserve.Goals as goal

pub invariant_of-self-in-Ok : goal.invariant_of-self-in-Ok
invariant_of-self-in-Ok c =
    let s = c.args.self.now in
    let os = s.owners.entries in
    let os1 = c.reserve-2.new.owners.entries in
    let ch = c.in-Ok.ensures.changes in
    let added : c.in-Some.claims ≡ s.claims + (c.args.n - c.left.result) = search rules in
    let sum : c.in-Some.claims ≡ s.claims + (c.args.n - left_in os c.args.txn) = added ∙ ap (λ (x : ℕ). s.claims + (c.args.n - x)) c.left.ensures.exact in
    let same = reordered s.places c.reserve.new.self c.reserve.ensures.entries.2 in
    record {
      packed = same_packed s.places c.reserve.new.self same s.packed;
      listed = same_places s.places c.reserve.new.self (grants_in os) (grants_in os1) same s.listed ch.grants_are;
      total = sum ∙ claims_more os os1 c.args.txn (grants_in os) s.claims c.args.n ch c.in-Ok.ensures.room c.requires.more c.in-Ok.ensures.same s.total;
      room = c.in_ok-reserve.ensures.ok;
    }

pub invariant_of-self-in-Err-1 : goal.invariant_of-self-in-Err-1
invariant_of-self-in-Err-1 c =
    let s = c.args.self.now in
    let os = s.owners.entries in
    let os1 = c.reserve-2.new.owners.entries in
    let ch = c.in-Err.ensures.changes in
    let same = reordered s.places c.reserve.new.self c.reserve.ensures.entries.2 in
    record {
      packed = same_packed s.places c.reserve.new.self same s.packed;
      listed = same_places s.places c.reserve.new.self (grants_in os) (grants_in os1) same s.listed ch.grants_are;
      total = claims_same os os1 c.args.txn (grants_in os) s.claims ch c.in-Err.ensures.room c.in-Err.ensures.same s.total;
      room = omega (arith, s.room, c.reserve.ensures.spare);
    }

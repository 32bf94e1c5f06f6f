use Rattle.std.proofs.Common.{◌≡◌, ◌∙◌, ap, sym, arith, true, false}
use Rattle.lock_modes.specs.Modes.{is_held}
use Rattle.lock_modes.specs.declared.modes.Modes.{Modes}
use Rattle.lock_modes.specs.Lock.{granted}
use Rattle.lock_manager.specs.Owners.{grants_in}
use Rattle.lock_manager.proofs.ListedLemmas.{granted_held, granted_listed, claims_granted}
use Rattle.lock_manager.proofs.ledger.Ledger.grant_queued.Goals as goal

pub invariant_of-self : goal.invariant_of-self
invariant_of-self c =
    let s = c.args.self.now in
    let os = s.owners.entries in
    let os1 = c.grant_queued.new.owners.entries in
    let r = c.args.r in
    let g = grants_in os in
    let ch = c.grant_queued.ensures.changes in
    let held : is_held (g r.txn r.name) ≡ true = sym (c.is_held.ensures.exact ∙ ap (λ (m : Modes). is_held m) c.modes_of.ensures.exact) ∙ c.if-is_held.true in
    record {
      packed = s.packed;
      listed = granted_held s.places g (grants_in os1) r held s.listed ch.grants_are;
      total = claims_granted os os1 r.txn (granted g r) s.claims ch c.grant_queued.ensures.room c.requires c.grant_queued.ensures.same s.total;
      room = omega (arith, s.room);
    }

pub invariant_of-self-2 : goal.invariant_of-self-2
invariant_of-self-2 c =
    let s = c.args.self.now in
    let os = s.owners.entries in
    let os1 = c.grant_queued-2.new.owners.entries in
    let r = c.args.r in
    let g = grants_in os in
    let ch = c.grant_queued-2.ensures.changes in
    let held : is_held (g r.txn r.name) ≡ false = sym (c.is_held.ensures.exact ∙ ap (λ (m : Modes). is_held m) c.modes_of.ensures.exact) ∙ c.if-is_held.false in
    record {
      packed = c.list.ensures.packed;
      listed = granted_listed s.places c.list.new.places g (grants_in os1) r c.list.ensures.listed s.listed ch.grants_are;
      total = claims_granted os os1 r.txn (granted g r) s.claims ch c.grant_queued-2.ensures.room c.requires c.grant_queued-2.ensures.same s.total;
      room = omega (arith, s.room, c.list.ensures.room);
    }

use Rattle.std.proofs.Common.{◌≡◌, ◌-◌, ◌∙◌, ap, sym, arith, true, false}
use Rattle.std.specs.Prelude.{if◌then◌else◌}
use Rattle.lock_modes.specs.Modes.{is_held}
use Rattle.lock_modes.specs.declared.modes.Modes.{Modes}
use Rattle.lock_modes.specs.Lock.{granted}
use Rattle.lock_manager.specs.Owners.{grants_in, left_in}
use Rattle.lock_manager.proofs.ListedLemmas.{granted_held, granted_listed, claims_same, claims_spent, some_to_spend}
use Rattle.lock_manager.proofs.ledger.Ledger.grant.Goals as goal

pub invariant_of-self : goal.invariant_of-self
invariant_of-self c =
    let s = c.args.self.now in
    let os = s.owners.entries in
    let os1 = c.grant.new.owners.entries in
    let r = c.args.r in
    let g = grants_in os in
    let ch = c.grant.ensures.changes in
    let held : is_held (g r.txn r.name) ≡ true = sym (c.is_held.ensures.exact ∙ ap (λ (m : Modes). is_held m) c.modes_of.ensures.exact) ∙ c.if-is_held.true in
    let left : left_in os1 r.txn ≡ left_in os r.txn = c.grant.ensures.room ∙ ap (λ b. if b then left_in os r.txn else left_in os r.txn - 1) held in
    record {
      packed = s.packed;
      listed = granted_held s.places g (grants_in os1) r held s.listed ch.grants_are;
      total = claims_same os os1 r.txn (granted g r) s.claims ch left c.grant.ensures.same s.total;
      room = s.room;
    }

pub invariant_of-self-2 : goal.invariant_of-self-2
invariant_of-self-2 c =
    let s = c.args.self.now in
    let os = s.owners.entries in
    let os1 = c.grant-2.new.owners.entries in
    let r = c.args.r in
    let g = grants_in os in
    let ch = c.grant-2.ensures.changes in
    let held : is_held (g r.txn r.name) ≡ false = sym (c.is_held.ensures.exact ∙ ap (λ (m : Modes). is_held m) c.modes_of.ensures.exact) ∙ c.if-is_held.false in
    let left : left_in os1 r.txn ≡ left_in os r.txn - 1 = c.grant-2.ensures.room ∙ ap (λ b. if b then left_in os r.txn else left_in os r.txn - 1) held in
    let some = some_to_spend (is_held (g r.txn r.name)) (left_in os r.txn) c.requires held in
    record {
      packed = c.list.ensures.packed;
      listed = granted_listed s.places c.list.new.places g (grants_in os1) r c.list.ensures.listed s.listed ch.grants_are;
      total = claims_spent os os1 r.txn (granted g r) s.claims ch left some c.grant-2.ensures.same s.total;
      room = omega (arith, s.room, c.list.ensures.room);
    }

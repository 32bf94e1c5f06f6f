use Rattle.std.proofs.Common.{◌≡◌, ◌≤◌, ◌-◌, ◌++◌, ◌∙◌, ap, sym, subst, arith, ℕ}
use Rattle.std.specs.Prelude.{if◌then◌else◌}
use Rattle.lock_modes.specs.Lock.{granted}
use Rattle.lock_modes.specs.Modes.{is_held}
use Rattle.lock_modes.specs.declared.modes.Modes.{Modes}
use Rattle.lock_manager.specs.Owners.{grants_in}
use Rattle.lock_manager.specs.Table.{lock}
use Rattle.lock_manager.proofs.BlockedLemmas.{all_blocked_more, without_none}
use Rattle.lock_manager.proofs.TableLemmas.{keep_waits, keep_victims, waiters_same, settled_as, spent_total, less_le, lock_path, grants_path, not_among, not_among_parts}
use Rattle.lock_manager.proofs.TableLemmas.{apart_as}
use Rattle.lock_modes.proofs.ApartLemmas.{apart_may}
use Rattle.lock_modes.specs.Waits.{earlier}
use Rattle.lock_manager.proofs.RoomLemmas.{room_less}
use Rattle.lock_manager.proofs.table.LockTable.grant.Goals as goal

pub invariant_of-self : goal.invariant_of-self
invariant_of-self c =
    let s = c.args.self.now in
    let q = s.conversions.line.items ++ s.requests.line.items in
    let held = is_held (grants_in s.ledger.owners.entries c.args.r.txn c.args.r.name) in
    let after = granted (grants_in s.ledger.owners.entries) c.args.r in
    let waits = keep_waits s.ledger.owners.entries c.grant.new.self.owners.entries c.args.r.txn after c.grant.ensures.changes c.grant.ensures.same in
    let is : c.is_held-held.result ≡ held = c.is_held-held.ensures.exact ∙ ap (λ (m : Modes). is_held m) c.modes_of.ensures.exact in
    let left : c.less_one-self.result ≡ (if held then s.left else s.left - 1) = c.less_one-self.ensures.exact ∙ ap (λ b. if b then s.left else s.left - 1) is in
    let less : c.less_one-self.result ≤ s.left = subst (λ (n : ℕ). n ≤ s.left) (sym left) (less_le held s.left) in
    record {
      total = left ∙ spent_total s.ledger.owners.entries c.grant.new.self.owners.entries c.args.r.txn after held s.left c.grant.ensures.changes c.grant.ensures.room c.requires.room s.total;
      room = record { conversions_fit = room_less s.left c.less_one-self.result s.conversions less s.room.conversions_fit; requests_fit = room_less s.left c.less_one-self.result s.requests less s.room.requests_fit; woken_fit = omega (arith, s.room.woken_fit, less) };
      waiters = waiters_same s.ledger.owners.entries c.grant.new.self.owners.entries waits q s.waiters;
      only = λ u. waits u ∙ s.only u;
      settled = settled_as c.grant.new.self.owners.entries after _ q c.grant.ensures.changes.grants_are (all_blocked_more (grants_in s.ledger.owners.entries) c.args.r _ q s.settled);
      apart = apart_as c.grant.new.self.owners.entries after c.grant.ensures.changes.grants_are (apart_may (grants_in s.ledger.owners.entries) (earlier (lock s) c.args.r) c.args.r s.apart c.requires.may);
    }

pub returns-clause-ok : goal.returns-clause-ok
returns-clause-ok c =
    let s = c.args.self.now in
    let after = granted (grants_in s.ledger.owners.entries) c.args.r in
    let p = not_among_parts c.args.r.txn s.conversions.line.items s.requests.line.items (not_among (lock s) c.args.r.txn c.requires.idle) in
    lock_path _ _ (grants_path c.grant.new.self.owners.entries after c.grant.ensures.changes.grants_are)
    (sym (without_none c.args.r.txn c.args.r.name s.conversions.line.items p.0))
    (sym (without_none c.args.r.txn c.args.r.name s.requests.line.items p.1))
    (keep_victims s.ledger.owners.entries c.grant.new.self.owners.entries c.args.r.txn after c.grant.ensures.changes c.grant.ensures.victim)

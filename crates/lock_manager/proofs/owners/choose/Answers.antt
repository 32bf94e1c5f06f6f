use Rattle.std.specs.Option.{is_some}
use Rattle.std.proofs.Common.{refl, sym, ap, subst}
use Rattle.lock_manager.specs.Owners.{grants_in, Changes}
use Rattle.lock_manager.proofs.OwnersLemmas.{changes, same_grants, unchanged}
use Rattle.lock_manager.proofs.owners.choose.Goals as goal

pub returns-in-Some-clause-changes : goal.returns-in-Some-clause-changes
returns-in-Some-clause-changes c =
    let through = c.get_mut.follows.holds c.choose.new.self in
    let put = (through.3 (ap is_some (sym c.in-Some.ensures.value))).0 in
    changes c.args.owners.now.entries (c.get_mut.follows.lender c.choose.new.self).entries c.args.txn c.in-Some.owner.now c.choose.new.self
    _ put through.0 c.in-Some.ensures.value
    (same_grants c.args.owners.now.entries (c.get_mut.follows.lender c.choose.new.self).entries c.args.txn c.in-Some.owner.now c.choose.new.self put c.in-Some.ensures.value c.choose.ensures.same)

pub returns-in_default-clause-changes : goal.returns-in_default-clause-changes
returns-in_default-clause-changes c =
    subst (λ (m : _). Changes c.args.owners.now.entries m.entries c.args.txn (grants_in c.args.owners.now.entries)) (sym c.get_mut.follows.holds-at-none)
    (unchanged c.args.owners.now.entries c.args.txn _ (λ u k. refl))

use Rattle.std.specs.Option.{is_some}
use Rattle.std.proofs.Common.{sym, ap, subst}
use Rattle.lock_modes.specs.Lock.{released}
use Rattle.lock_modes.specs.Modes.{no_modes}
use Rattle.lock_manager.specs.Owners.{grants_in, Changes}
use Rattle.lock_manager.proofs.OwnersLemmas.{changes, put_name, none_released, unchanged}
use Rattle.lock_manager.proofs.owners.release.Goals as goal

pub returns-in-Some-clause-changes : goal.returns-in-Some-clause-changes
returns-in-Some-clause-changes c =
    let through = c.get_mut.follows.holds c.release.new.self in
    let put = (through.3 (ap is_some (sym c.in-Some.ensures.value))).0 in
    changes c.args.owners.now.entries (c.get_mut.follows.lender c.release.new.self).entries c.args.txn c.in-Some.owner.now c.release.new.self
    _ put through.0 c.in-Some.ensures.value
    (put_name c.args.owners.now.entries (c.get_mut.follows.lender c.release.new.self).entries c.args.txn c.in-Some.owner.now c.release.new.self c.args.name (λ v. no_modes) put c.in-Some.ensures.value c.release.ensures.exact)

pub returns-in_default-clause-changes : goal.returns-in_default-clause-changes
returns-in_default-clause-changes c =
    subst (λ (m : _). Changes c.args.owners.now.entries m.entries c.args.txn (released (grants_in c.args.owners.now.entries) c.args.txn c.args.name)) (sym c.get_mut.follows.holds-at-none)
    (unchanged c.args.owners.now.entries c.args.txn _ (none_released c.args.owners.now.entries c.args.txn c.args.name c.in_default.ensures.value))

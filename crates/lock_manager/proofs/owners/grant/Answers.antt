use Rattle.std.specs.Option.{is_some}
use Rattle.std.proofs.Common.{sym, ap}
use Rattle.lock_modes.specs.Modes.{with_mode}
use Rattle.lock_manager.proofs.OwnersLemmas.{changes, put_name, no_owner}
use Rattle.lock_manager.proofs.owners.grant.Goals as goal

pub returns-in-Some-clause-changes : goal.returns-in-Some-clause-changes
returns-in-Some-clause-changes c =
    let through = c.get_mut.follows.holds c.grant.new.self in
    let put = (through.3 (ap is_some (sym c.in-Some.ensures.value))).0 in
    changes c.args.owners.now.entries (c.get_mut.follows.lender c.grant.new.self).entries c.args.r.txn c.in-Some.owner.now c.grant.new.self
    _ put through.0 c.in-Some.ensures.value
    (put_name c.args.owners.now.entries (c.get_mut.follows.lender c.grant.new.self).entries c.args.r.txn c.in-Some.owner.now c.grant.new.self c.args.r.name (λ v. with_mode v c.args.r.mode) put c.in-Some.ensures.value c.grant.ensures.gains.modes)

pub returns-in_default-clause-changes : goal.returns-in_default-clause-changes
returns-in_default-clause-changes c = absurd (no_owner c.args.owners.now.entries c.args.r.txn c.args.r.name c.in_default.ensures.value c.requires)

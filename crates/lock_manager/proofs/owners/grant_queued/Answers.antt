use Rattle.std.specs.Option.{is_some}
use Rattle.std.proofs.Common.{sym, ap}
use Rattle.lock_modes.specs.Modes.{with_mode}
use Rattle.lock_manager.proofs.OwnersLemmas.{changes, put_name, no_waiter}
use Rattle.lock_manager.proofs.owners.grant_queued.Goals as goal

pub returns-in-Some-clause-changes : goal.returns-in-Some-clause-changes
returns-in-Some-clause-changes c =
    let through = c.get_mut.follows.holds c.grant_queued.new.self in
    let put = (through.3 (ap is_some (sym c.in-Some.ensures.value))).0 in
    changes c.args.owners.now.entries (c.get_mut.follows.lender c.grant_queued.new.self).entries c.args.r.txn c.in-Some.owner.now c.grant_queued.new.self
    _ put through.0 c.in-Some.ensures.value
    (put_name c.args.owners.now.entries (c.get_mut.follows.lender c.grant_queued.new.self).entries c.args.r.txn c.in-Some.owner.now c.grant_queued.new.self c.args.r.name (λ v. with_mode v c.args.r.mode) put c.in-Some.ensures.value c.grant_queued.ensures.gains.modes)

pub returns-in_default-clause-changes : goal.returns-in_default-clause-changes
returns-in_default-clause-changes c = absurd (no_waiter c.args.owners.now.entries c.args.r.txn c.in_default.ensures.value c.requires)

use Rattle.std.specs.Option.{is_some}
use Rattle.std.proofs.Common.{sym, ap}
use Rattle.std.proofs.lemmas.Bool.{both_ways}
use Rattle.lock_manager.proofs.OwnersLemmas.{changes, same_modes}
use Rattle.lock_manager.proofs.owners.reserve.Goals as goal

pub returns-in-Some-clause-changes : goal.returns-in-Some-clause-changes
returns-in-Some-clause-changes c =
    let through = c.get_mut.follows.holds c.reserve.new.self in
    let put = (through.3 (ap is_some (sym c.in-Some.ensures.value))).0 in
    changes c.args.owners.now.entries (c.get_mut.follows.lender c.reserve.new.self).entries c.args.txn c.in-Some.owner.now c.reserve.new.self
    _ put through.0 c.in-Some.ensures.value
    (same_modes c.args.owners.now.entries (c.get_mut.follows.lender c.reserve.new.self).entries c.args.txn c.in-Some.owner.now c.reserve.new.self put c.in-Some.ensures.value c.reserve.ensures.modes)

pub returns-in-None-clause-changes : goal.returns-in-None-clause-changes
returns-in-None-clause-changes c = absurd (both_ways _ (ap is_some (sym c.in-None.ensures.value)) c.requires)

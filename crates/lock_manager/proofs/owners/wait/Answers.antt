use Rattle.std.proofs.Common.{inr}
use Rattle.lock_modes.specs.declared.name.LockName.TheVariants.{Dictionary}
use Rattle.std.specs.Option.{is_some}
use Rattle.std.proofs.Common.{sym, ap}
use Rattle.lock_manager.proofs.OwnersLemmas.{changes, same_grants, no_owner}
use Rattle.lock_manager.proofs.owners.wait.Goals as goal

pub returns-in-Some-clause-changes : goal.returns-in-Some-clause-changes
returns-in-Some-clause-changes c =
    let through = c.get_mut.follows.holds c.wait.new.self in
    let put = (through.3 (ap is_some (sym c.in-Some.ensures.value))).0 in
    changes c.args.owners.now.entries (c.get_mut.follows.lender c.wait.new.self).entries c.args.txn c.in-Some.owner.now c.wait.new.self
    _ put through.0 c.in-Some.ensures.value
    (same_grants c.args.owners.now.entries (c.get_mut.follows.lender c.wait.new.self).entries c.args.txn c.in-Some.owner.now c.wait.new.self put c.in-Some.ensures.value c.wait.ensures.same)

pub returns-in_default-clause-changes : goal.returns-in_default-clause-changes
returns-in_default-clause-changes c = absurd (no_owner c.args.owners.now.entries c.args.txn Dictionary c.in_default.ensures.value (inr c.requires.room))

use Rattle.std.specs.Option.{is_some}
use Rattle.std.proofs.Common.{sym, ap, subst}
use Rattle.lock_modes.specs.Escalation.{released_rows}
use Rattle.lock_modes.specs.Modes.{no_modes}
use Rattle.lock_modes.specs.Names.{is_row_name}
use Rattle.lock_manager.specs.Owners.{grants_in, Changes}
use Rattle.lock_manager.proofs.OwnersLemmas.{changes, put_names, no_names_released, unchanged}
use Rattle.lock_manager.proofs.owners.release_rows.Goals as goal

pub returns-in-Some-clause-changes : goal.returns-in-Some-clause-changes
returns-in-Some-clause-changes c =
    let through = c.get_mut.follows.holds c.release_rows.new.self in
    let put = (through.3 (ap is_some (sym c.in-Some.ensures.value))).0 in
    changes c.args.owners.now.entries (c.get_mut.follows.lender c.release_rows.new.self).entries c.args.txn c.in-Some.owner.now c.release_rows.new.self
    _ put through.0 c.in-Some.ensures.value
    (put_names c.args.owners.now.entries (c.get_mut.follows.lender c.release_rows.new.self).entries c.args.txn c.in-Some.owner.now c.release_rows.new.self (λ k. is_row_name c.args.table k) (λ v. no_modes) put c.in-Some.ensures.value c.release_rows.ensures.exact)

pub returns-in_default-clause-changes : goal.returns-in_default-clause-changes
returns-in_default-clause-changes c =
    subst (λ (m : _). Changes c.args.owners.now.entries m.entries c.args.txn (released_rows (grants_in c.args.owners.now.entries) c.args.txn c.args.table)) (sym c.get_mut.follows.holds-at-none)
    (unchanged c.args.owners.now.entries c.args.txn _ (no_names_released c.args.owners.now.entries c.args.txn (λ k. is_row_name c.args.table k) c.in_default.ensures.value))

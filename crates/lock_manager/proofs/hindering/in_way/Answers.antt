use Rattle.std.proofs.Common.{◌≡◌, ◌∙◌, ap, sym, arith}
use Rattle.std.specs.Option.{is_some}
use Rattle.std.specs.Prelude.{◌&&◌, not}
use Rattle.dby_types.specs.declared.number.TxnNo.{TxnNo}
use Rattle.lock_modes.specs.Modes.{hinders}
use Rattle.lock_modes.specs.Names.{same_txn}
use Rattle.lock_manager.specs.Owners.{grants_in}
use Rattle.lock_manager.proofs.PlacesLemmas.{free_behind}
use Rattle.lock_manager.proofs.ListedLemmas.{in_way_quiet, none_passes, none_next}
use Rattle.lock_manager.proofs.hindering.in_way.Goals as goal

pub returns-in_default : goal.returns-in_default
returns-in_default c = record { found = none_passes c.args.places.now (grants_in c.args.owners.now.entries) c.requires.packed c.requires.listed c.args.r.name c.each.i (ap is_some (sym c.in_default.ensures.exact)) (λ (h : TxnNo). not (same_txn h c.args.r.txn) && hinders (grants_in c.args.owners.now.entries h c.args.r.name) c.args.r.mode) (λ h none. in_way_quiet (not (same_txn h c.args.r.txn)) (grants_in c.args.owners.now.entries h c.args.r.name) c.args.r.mode none) c.each.invariant.passed }

pub each-preserved : goal.each-preserved
each-preserved c = record {
  within = omega arith;
  passed = none_next c.args.places.now c.args.r.name c.each.i c.in-Some.h (λ (h : TxnNo). not (same_txn h c.args.r.txn) && hinders (grants_in c.args.owners.now.entries h c.args.r.name) c.args.r.mode) c.in-Some.ensures.exact (sym c.is_in_way.ensures.exact ∙ c.if-is_in_way.false) c.each.invariant.passed;
}

pub returns : goal.returns
returns c = record { found = none_passes c.args.places.now (grants_in c.args.owners.now.entries) c.requires.packed c.requires.listed c.args.r.name c.each.i (let all : c.each.i ≡ c.len-len.result = omega (arith, c.each.invariant.within) in free_behind c.args.places.now c.requires.packed c.args.r.name c.each.i (all ∙ c.len-len.ensures.len)) (λ (h : TxnNo). not (same_txn h c.args.r.txn) && hinders (grants_in c.args.owners.now.entries h c.args.r.name) c.args.r.mode) (λ h none. in_way_quiet (not (same_txn h c.args.r.txn)) (grants_in c.args.owners.now.entries h c.args.r.name) c.args.r.mode none) c.each.invariant.passed }

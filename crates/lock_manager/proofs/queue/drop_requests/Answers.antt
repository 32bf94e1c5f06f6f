use Rattle.std.proofs.Common.{◌≡◌, ◌∙◌, ◌++◌, List, arith, drop, refl, subst, sym, take}
use Rattle.lock_modes.specs.declared.entry.Request.{Request}
use Rattle.lock_modes.specs.Lock.{without}
use Rattle.lock_manager.proofs.WithoutLemmas.{drop_starts, drop_stays, drop_goes, drop_ends}
use Rattle.lock_manager.proofs.queue.drop_requests.Goals as goal

pub each-init : goal.each-init
each-init c = record { within = omega arith; rest = drop_starts c.args.t c.args.line.now.line.items; fits = record { shorter = omega arith; room = refl; names = omega arith } }

pub each-preserved-then-is_same_txn : goal.each-preserved-then-is_same_txn
each-preserved-then-is_same_txn c =
    let xs = without c.args.t c.args.line.now.line.items in
    let gone = drop_goes c.args.t xs c.each.line.line.items c.each.i c.index.result.now (omega arith) c.index.ensures (sym c.is_same_txn.ensures.exact ∙ c.if-is_same_txn.true) c.each.invariant.rest in
    record {
      within = omega (arith, c.remove.ensures.len);
      rest = subst (λ (l : List Request). xs ≡ take c.each.i l ++ without c.args.t (drop c.each.i l)) (sym c.remove.ensures.items) gone;
      fits = record { shorter = omega (arith, c.remove.ensures.len, c.each.invariant.fits.shorter); room = c.remove.ensures.capacity ∙ c.each.invariant.fits.room; names = omega (arith, c.remove.ensures.spare, c.each.invariant.fits.names) };
    }

pub each-preserved : goal.each-preserved
each-preserved c =
    let xs = without c.args.t c.args.line.now.line.items in
    record {
      within = omega arith;
      rest = drop_stays c.args.t xs c.each.line.line.items c.each.i c.index.result.now (omega arith) c.index.ensures (sym c.is_same_txn.ensures.exact ∙ c.if-is_same_txn.false) c.each.invariant.rest;
      fits = c.each.invariant.fits;
    }

pub returns-clause-exact : goal.returns-clause-exact
returns-clause-exact c = drop_ends c.args.t (without c.args.t c.args.line.now.line.items) c.each.line.line.items c.each.i (omega arith) c.each.invariant.rest

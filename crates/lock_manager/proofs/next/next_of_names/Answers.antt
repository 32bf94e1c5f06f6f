use Rattle.std.proofs.Common.{List, arith, subst, sym}
use Rattle.lock_modes.specs.declared.modes.Modes.{Modes}
use Rattle.lock_modes.specs.declared.name.LockName.{LockName}
use Rattle.lock_manager.specs.Freed.{SkipsNames}
use Rattle.lock_manager.proofs.SkipLemmas.{names_start, names_next, names_end}
use Rattle.lock_manager.proofs.next.next_of_names.Goals as goal

pub loop-name-init : goal.loop-name-init
loop-name-init c =
    let es = c.args.names.now.entries in
    let rs = c.args.line.now.line.items in
    record {
      start = c.requires.start;
      within = omega arith;
      passed = subst (λ (left : List (LockName × Modes)). SkipsNames es left rs c.args.i c.args.end) (sym c.into_iter-name-iterator.ensures.into_iter_gives.0) (names_start es rs c.args.i c.args.end);
    }

pub loop-name-preserved : goal.loop-name-preserved
loop-name-preserved c =
    let es = c.args.names.now.entries in
    let rs = c.args.line.now.line.items in
    let e : LockName × Modes = (c.in-Some.name.now, c.in-Some.field-0-1.now) in
    let passed = subst (λ (left : List (LockName × Modes)). SkipsNames es left rs c.args.i c.loop-name.first) c.in-Some.ensures.steps c.loop-name.invariant.passed in
    record {
      start = (let here = c.next_asked.ensures.skips.from in omega (arith, c.lesser-first.ensures.least, c.loop-name.invariant.start, here));
      within = omega (arith, c.lesser-first.ensures.first, c.loop-name.invariant.within);
      passed = names_next es c.next.new.self e rs c.args.i c.loop-name.first c.lesser-first.result passed c.next_asked.result c.next_asked.ensures.skips c.lesser-first.ensures.first c.lesser-first.ensures.second;
    }

pub returns-clause-skips : goal.returns-clause-skips
returns-clause-skips c =
    let es = c.args.names.now.entries in
    let rs = c.args.line.now.line.items in
    let passed = subst (λ (left : List (LockName × Modes)). SkipsNames es left rs c.args.i c.loop-name.first) c.in-None.ensures.steps.0 c.loop-name.invariant.passed in
    names_end es rs c.args.i c.loop-name.first c.loop-name.invariant.start (omega (arith, c.loop-name.invariant.within, c.requires.within)) passed

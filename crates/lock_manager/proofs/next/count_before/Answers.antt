use Rattle.std.proofs.Common.{arith}
use Rattle.lock_manager.proofs.SkipLemmas.{before_length}
use Rattle.lock_manager.proofs.next.count_before.Goals as goal

pub halve-init : goal.halve-init
halve-init c = record {
  order = omega arith;
  below = omega arith;
  above = (let long = before_length c.args.name c.args.line.now.line.items c.args.i in omega (arith, long));
}

pub halve-preserved-then-is_before : goal.halve-preserved-then-is_before
halve-preserved-then-is_before c = record {
  order = omega arith;
  below = (let more = c.is_before.ensures.before c.if-is_before.true in omega (arith, more));
  above = c.halve.invariant.above;
}

pub halve-preserved : goal.halve-preserved
halve-preserved c = record {
  order = omega arith;
  below = c.halve.invariant.below;
  above = c.is_before.ensures.behind c.if-is_before.false;
}

pub returns : goal.returns
returns c = record { exact = omega (arith, c.halve.invariant.below, c.halve.invariant.above, c.halve.invariant.order) }

use Rattle.std.proofs.Common.{arith, sym, ◌∙◌}
use Rattle.lock_manager.specs.Freed.{frees}
use Rattle.lock_manager.proofs.SkipLemmas.{skips_none, skips_step}
use Rattle.lock_manager.proofs.next.walk.Goals as goal

pub each-init : goal.each-init
each-init c = record { within = c.requires.start; skips = skips_none (frees c.args.freed.now) c.args.line.now c.args.i (omega (arith, c.requires.start, c.requires.within)) }

pub each-preserved : goal.each-preserved
each-preserved c = record {
  within = omega arith;
  skips = skips_step (frees c.args.freed.now) c.args.line.now c.args.i c.each.at _ (omega (arith, c.requires.within)) (sym c.is_freed.ensures.exact ∙ c.if-is_freed.false) c.each.invariant.skips;
}

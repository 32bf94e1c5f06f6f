use Rattle.std.proofs.Common.{◌∙◌, sym, arith}
use Rattle.lock_manager.proofs.SearchLemmas.{search_on, search_ends}
use Rattle.lock_manager.proofs.tickets.search.Goals as goal

pub each-preserved : goal.each-preserved
each-preserved c = record {
  within = omega arith;
  passed = search_on c.args.t c.args.line.now c.each.i (omega arith) (sym c.stands_at.ensures.exact ∙ c.if-stands_at.false) c.each.invariant.passed;
}

pub returns : goal.returns
returns c = record { there = search_ends c.args.t c.args.line.now c.each.i (omega arith) (sym c.each.invariant.passed ∙ c.requires.among) }

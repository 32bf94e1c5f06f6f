use Rattle.std.proofs.Common.{◌∙◌, ap, sym, arith}
use Rattle.lock_manager.specs.Asked.{is_of}
use Rattle.lock_manager.proofs.AheadLemmas.{own, one_on, at_most}
use Rattle.lock_manager.proofs.asked.number_of.Goals as goal

pub each-preserved : goal.each-preserved
each-preserved c = record {
  within = omega arith;
  before = one_on c.args.line.now c.args.at c.each.i c.args.r c.requires.there (ap (is_of c.args.r.txn) (sym (c.request_at.ensures.exact ∙ c.requires.by_name c.args.r.name c.each.i)) ∙ sym c.is_of.ensures.exact ∙ c.if-is_of.false) c.each.invariant.before;
}

pub returns-then-is_of : goal.returns-then-is_of
returns-then-is_of c = record {
  exact = sym (own c.args.line.now c.args.at c.each.i c.args.r c.requires.apart c.requires.there (ap (is_of c.args.r.txn) (sym (c.request_at.ensures.exact ∙ c.requires.by_name c.args.r.name c.each.i)) ∙ sym c.is_of.ensures.exact ∙ c.if-is_of.true));
}

pub returns : goal.returns
returns c = record { exact = at_most c.args.line.now c.args.at c.each.i c.args.r.name (omega arith) c.each.invariant.before }

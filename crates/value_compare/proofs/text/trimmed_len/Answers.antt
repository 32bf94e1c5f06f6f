use Rattle.std.proofs.Common.{◌∙◌, sym, arith}
use Rattle.value_compare.proofs.TextLemmas.{trimmed_text-shorter, trimmed_text-whole}
use Rattle.value_compare.proofs.text.trimmed_len.Goals as goal

pub back-preserved : goal.back-preserved
back-preserved c = record {
  within = omega arith;
  same = trimmed_text-shorter c.args.text.now c.back.n c.back-test.true c.back.invariant.within c.if-text-n-eq32.true ∙ c.back.invariant.same;
}

pub returns-else-text-n-eq32-clause-exact : goal.returns-else-text-n-eq32-clause-exact
returns-else-text-n-eq32-clause-exact c =
    sym (trimmed_text-whole c.args.text.now c.back.n c.back-test.true c.back.invariant.within c.if-text-n-eq32.false) ∙ c.back.invariant.same

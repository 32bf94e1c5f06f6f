use Rattle.std.proofs.Common.{◌∙◌, sym}
use Rattle.slotted_page.proofs.FieldLemmas.{sum_written, right_sum-written}
use Rattle.slotted_page.proofs.field.seal.Goals as goal

pub returns-clause-exact : goal.returns-clause-exact
returns-clause-exact c = sum_written c.args.b.now c.put_u64.new.b c.right_sum-found.result c.requires c.right_sum-found.type_inv c.put_u64.ensures.exact

pub returns-clause-ok : goal.returns-clause-ok
returns-clause-ok c = c.put_u64.ensures.found ∙ c.right_sum-found.ensures.exact ∙ sym (right_sum-written c.args.b.now c.put_u64.new.b c.right_sum-found.result c.put_u64.ensures.exact)

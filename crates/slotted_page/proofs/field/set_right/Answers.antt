use Rattle.slotted_page.proofs.PageLemmas.{sum_small}
use Rattle.slotted_page.proofs.FieldLemmas.{right_written}
use Rattle.slotted_page.proofs.field.set_right.Goals as goal

pub returns : goal.returns
returns c = record { exact = right_written c.args.b.now c.put_u32.new.b c.args.p c.requires (sum_small c.args.b.now c.fits-b) c.ranges.p.fits c.put_u32.ensures.exact }

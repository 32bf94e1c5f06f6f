use Rattle.slotted_page.proofs.PageLemmas.{sum_small}
use Rattle.slotted_page.proofs.FieldLemmas.{lsn_written}
use Rattle.slotted_page.proofs.field.set_lsn.Goals as goal

pub returns : goal.returns
returns c = record { exact = lsn_written c.args.b.now c.put_u32.new.b c.put_u32-2.new.b (record { segment = c.args.segment; offset = c.args.offset }) c.requires (sum_small c.args.b.now c.fits-b) c.ranges.segment.fits c.ranges.offset.fits c.put_u32.ensures.exact c.put_u32-2.ensures.exact }

use Rattle.slotted_page.proofs.FieldLemmas.{made}
use Rattle.slotted_page.proofs.field.make.Goals as goal

pub returns : goal.returns
returns c = record { exact = made c.args.b.now c.clear.new.b c.put_u32.new.b c.put_u32-2.new.b c.overwrite.new.b (record { container = c.args.container; page = c.args.page }) c.args.kind c.byte.result c.told-b c.ranges.container.fits c.ranges.page.fits c.byte.ensures.exact c.clear.ensures.exact c.put_u32.ensures.exact c.put_u32-2.ensures.exact c.overwrite.ensures.exact }

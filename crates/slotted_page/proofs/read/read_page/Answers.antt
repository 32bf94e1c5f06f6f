use Rattle.slotted_page.proofs.SoundPage.{sound_page}
use Rattle.slotted_page.proofs.read.read_page.Goals as goal

pub invariant_of-result : goal.invariant_of-result
invariant_of-result c = record { formed = sound_page c.args.id c.args.b.now c.fits-b c.told-b c.in-None.ensures.exact }

use Rattle.slotted_page.proofs.PageLemmas.{sum_small}
use Rattle.slotted_page.proofs.ChangeLemmas.{flags_read}
use Rattle.slotted_page.proofs.place.flags_of.Goals as goal

pub returns : goal.returns
returns c = record { exact = flags_read c.args.b.now c.args.i c.start_of.result c.requires.page (sum_small c.args.b.now c.fits-b) c.requires.inside c.start_of.ensures.exact }

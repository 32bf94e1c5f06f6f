use Rattle.std.proofs.Common.{◌∙◌}
use Rattle.slotted_page.proofs.PageLemmas.{start_of_page}
use Rattle.slotted_page.proofs.place.start_of.Goals as goal

pub returns : goal.returns
returns c = record { exact = c.get_u16.ensures.exact ∙ start_of_page c.args.b.now c.args.i c.requires.page c.requires.inside }

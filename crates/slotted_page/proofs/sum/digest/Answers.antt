use Rattle.slotted_page.specs.Sum.{digest_of}
use Rattle.slotted_page.proofs.sum.digest.Goals as goal

pub returns : goal.returns
unfolding digest_of
returns c = c.digest.ensures

use Rattle.std.proofs.Common.{arith}
use Rattle.std.proofs.Math.Nat.{mod-lt}
use Rattle.slotted_page.proofs.PageLemmas.{sum_small}
use Rattle.slotted_page.proofs.ChangeLemmas.{marked}
use Rattle.slotted_page.proofs.edit.mark_record.Goals as goal

pub returns : goal.returns
returns c = record { exact = marked c.args.b.now c.overwrite.new.b c.args.i c.start_of-at.result _ c.requires.page (sum_small c.args.b.now c.fits-b) c.requires.inside c.start_of-at.ensures.exact (mod-lt c.args.flags (omega arith)) c.overwrite.ensures.exact }

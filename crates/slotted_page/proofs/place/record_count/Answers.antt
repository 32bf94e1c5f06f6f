use Rattle.std.proofs.Common.{sym, ◌∙◌}
use Rattle.slotted_page.proofs.PageLemmas.{count_read}
use Rattle.slotted_page.proofs.place.record_count.Goals as goal

pub returns : goal.returns
returns c = record { exact = c.get_u16.ensures.exact ∙ sym (count_read c.args.b.now) }

use Rattle.std.proofs.Common.{◌+◌, [], arith}
use Rattle.slotted_page.specs.Layout.{content_of}
use Rattle.slotted_page.proofs.PageLemmas.{sum_small, stored_len-more, stored_len-take}
use Rattle.slotted_page.proofs.ChangeLemmas.{written}
use Rattle.slotted_page.proofs.edit.set_record.Goals as goal

pub overwrite-requires : goal.overwrite-requires
overwrite-requires c =
    let more = stored_len-more (content_of c.args.b.now).records c.args.i (record { flags = 0; bytes = [] }) c.requires.inside in
    let all = stored_len-take (content_of c.args.b.now).records (c.args.i + 1) in
    omega (arith, more, all, c.requires.page.content.room, c.requires.same, c.start_of-at.ensures.exact)

pub returns : goal.returns
returns c = record { exact = written c.args.b.now c.overwrite.new.b c.args.bytes.now c.args.i c.start_of-at.result c.requires.page (sum_small c.args.b.now c.fits-b) c.requires.inside c.start_of-at.ensures.exact c.requires.same c.overwrite.ensures.exact }

use Rattle.std.proofs.Common.{arith, [], ◌+◌}
use Rattle.slotted_page.specs.Layout.{content_of}
use Rattle.slotted_page.proofs.PageLemmas.{sum_small, stored_len-more, stored_len-take}
use Rattle.slotted_page.proofs.ChangeLemmas.{item_read}
use Rattle.slotted_page.proofs.place.item_of.Goals as goal

pub slice_bounds-result-count : goal.slice_bounds-result-count
slice_bounds-result-count c =
    let more = stored_len-more (content_of c.args.b.now).records c.args.i (record { flags = 0; bytes = [] }) c.requires.inside in
    let all = stored_len-take (content_of c.args.b.now).records (c.args.i + 1) in
    omega (arith, more, all, c.requires.page.content.room, c.start_of-start.ensures.exact, c.end_of-end.ensures.exact)

pub slice_bounds-result-start : goal.slice_bounds-result-start
slice_bounds-result-start c =
    let more = stored_len-more (content_of c.args.b.now).records c.args.i (record { flags = 0; bytes = [] }) c.requires.inside in
    let all = stored_len-take (content_of c.args.b.now).records (c.args.i + 1) in
    omega (arith, more, all, c.requires.page.content.room, c.start_of-start.ensures.exact, c.end_of-end.ensures.exact)

pub returns : goal.returns
returns c = record { exact = item_read c.args.b.now c.args.i c.start_of-start.result c.end_of-end.result c.requires.page (sum_small c.args.b.now c.fits-b) c.requires.inside c.start_of-start.ensures.exact c.end_of-end.ensures.exact }

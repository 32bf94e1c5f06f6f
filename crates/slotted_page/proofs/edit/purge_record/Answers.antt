use Rattle.std.proofs.Common.{arith}
use Rattle.slotted_page.specs.Layout.{content_of}
use Rattle.slotted_page.proofs.PageLemmas.{sum_small}
use Rattle.slotted_page.proofs.ChangeLemmas.{purged, low_is, IsWithin-page}
use Rattle.slotted_page.proofs.edit.purge_record.Goals as goal

pub exchange-requires-clause-first : goal.exchange-requires-clause-first
exchange-requires-clause-first c =
    let low = low_is (content_of c.args.b.now).records c.record_count-count.result c.end_of-low.result c.record_count-count.ensures.exact c.end_of-low.ensures.exact in
    let within = IsWithin-page c.args.b.now c.args.i c.start_of-start.result c.end_of-end.result c.end_of-low.result c.requires.page c.requires.inside c.start_of-start.ensures.exact c.end_of-end.ensures.exact low in
    omega (arith, within.above)

pub exchange-requires-clause-second : goal.exchange-requires-clause-second
exchange-requires-clause-second c =
    let low = low_is (content_of c.args.b.now).records c.record_count-count.result c.end_of-low.result c.record_count-count.ensures.exact c.end_of-low.ensures.exact in
    let within = IsWithin-page c.args.b.now c.args.i c.start_of-start.result c.end_of-end.result c.end_of-low.result c.requires.page c.requires.inside c.start_of-start.ensures.exact c.end_of-end.ensures.exact low in
    omega (arith, within.ordered)

pub overflow_sub-end : goal.overflow_sub-end
overflow_sub-end c =
    let low = low_is (content_of c.args.b.now).records c.record_count-count.result c.end_of-low.result c.record_count-count.ensures.exact c.end_of-low.ensures.exact in
    let within = IsWithin-page c.args.b.now c.args.i c.start_of-start.result c.end_of-end.result c.end_of-low.result c.requires.page c.requires.inside c.start_of-start.ensures.exact c.end_of-end.ensures.exact low in
    omega (arith, within.ordered)

pub clear-requires-clause-inside : goal.clear-requires-clause-inside
clear-requires-clause-inside c =
    let low = low_is (content_of c.args.b.now).records c.record_count-count.result c.end_of-low.result c.record_count-count.ensures.exact c.end_of-low.ensures.exact in
    let within = IsWithin-page c.args.b.now c.args.i c.start_of-start.result c.end_of-end.result c.end_of-low.result c.requires.page c.requires.inside c.start_of-start.ensures.exact c.end_of-end.ensures.exact low in
    omega (arith, within.ordered, within.above, within.inside)

pub returns : goal.returns
returns c =
    let low = low_is (content_of c.args.b.now).records c.record_count-count.result c.end_of-low.result c.record_count-count.ensures.exact c.end_of-low.ensures.exact in
    record {
      exact =
          purged c.args.b.now c.exchange.new.b c.clear.new.b c.exchange-2.new.b c.clear-2.new.b c.move_directory.new.b c.put_u16.new.b c.args.i c.record_count-count.result c.end_of-low.result c.start_of-start.result c.end_of-end.result
          c.requires.page (sum_small c.args.b.now c.fits-b) c.requires.inside c.record_count-count.ensures.exact low c.start_of-start.ensures.exact c.end_of-end.ensures.exact
          c.exchange.ensures.exact c.clear.ensures.exact c.exchange-2.ensures.exact c.clear-2.ensures.exact c.move_directory.ensures.exact c.put_u16.ensures.exact;
    }

use Rattle.std.proofs.Common.{◌+◌, length, refl, arith}
use Rattle.std.proofs.Math.Nat.{mod-lt}
use Rattle.slotted_page.specs.Layout.{content_of}
use Rattle.slotted_page.proofs.PageLemmas.{sum_small, stored_len-take}
use Rattle.slotted_page.proofs.ChangeLemmas.{inserted, low_is}
use Rattle.slotted_page.proofs.edit.insert_record.Goals as goal

pub exchange-requires-clause-second : goal.exchange-requires-clause-second
exchange-requires-clause-second c =
    let low = low_is (content_of c.args.b.now).records c.record_count-count.result c.end_of-low.result c.record_count-count.ensures.exact c.end_of-low.ensures.exact in
    omega (arith, low, c.end_of-end.ensures.exact, stored_len-take (content_of c.args.b.now).records c.args.at)

pub overflow_sub-end : goal.overflow_sub-end
overflow_sub-end c = omega (arith, c.end_of-end.ensures.exact, c.requires.room.room, stored_len-take (content_of c.args.b.now).records c.args.at)

pub overflow_sub-end-2 : goal.overflow_sub-end-2
overflow_sub-end-2 c = omega (arith, c.end_of-end.ensures.exact, c.requires.room.room, stored_len-take (content_of c.args.b.now).records c.args.at)

pub overflow_sub-end-3 : goal.overflow_sub-end-3
overflow_sub-end-3 c = omega (arith, c.end_of-end.ensures.exact, c.requires.room.room, stored_len-take (content_of c.args.b.now).records c.args.at)

pub returns : goal.returns
returns c =
    let low = low_is (content_of c.args.b.now).records c.record_count-count.result c.end_of-low.result c.record_count-count.ensures.exact c.end_of-low.ensures.exact in
    record {
      exact =
          inserted c.args.b.now c.exchange.new.b c.put_record.new.b c.exchange-2.new.b c.put_entry.new.b c.move_directory.new.b c.put_u16.new.b c.args.at c.record_count-count.result c.end_of-low.result c.end_of-end.result (1 + length c.args.bytes.now) _ c.args.bytes.now
          c.requires.page (sum_small c.args.b.now c.fits-b) c.requires.inside c.requires.room c.record_count-count.ensures.exact refl low c.end_of-end.ensures.exact
          c.exchange.ensures.exact c.put_record.ensures.exact c.exchange-2.ensures.exact c.put_entry.ensures.exact c.move_directory.ensures.exact c.put_u16.ensures.exact (mod-lt c.args.flags (omega arith));
    }

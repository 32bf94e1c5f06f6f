use Rattle.std.proofs.lemmas.Bool.{leb-true, le-leb, false≢true}
use Rattle.slotted_page.proofs.ChangeLemmas.{low_is}
use Rattle.slotted_page.specs.Layout.{content_of}
use Rattle.slotted_page.proofs.FieldLemmas.{no_room, room_read, room_needed}
use Rattle.slotted_page.proofs.place.has_room.Goals as goal

pub returns-then-b-eq0 : goal.returns-then-b-eq0
returns-then-b-eq0 c = record { exact = (λ e. absurd (false≢true e), λ h. absurd (no_room c.args.b.now c.args.n c.if-b-eq0.true h)) }

pub returns : goal.returns
returns c =
    let low = low_is (content_of c.args.b.now).records c.record_count-count.result c.end_of.result c.record_count-count.ensures.exact c.end_of.ensures.exact in
    record {
      exact = (
        λ e. room_read c.args.b.now c.args.n c.record_count-count.result c.end_of.result c.requires c.if-b-eq0.false c.record_count-count.ensures.exact low (leb-true _ _ e),
        λ h. le-leb _ _ (room_needed c.args.b.now c.args.n c.record_count-count.result c.end_of.result c.record_count-count.ensures.exact low h),
      );
    }

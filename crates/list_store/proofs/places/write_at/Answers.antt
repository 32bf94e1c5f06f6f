use Rattle.std.proofs.Common.{◌≡◌, ◌<◌, ◌∙◌, sym, ap, subst, length, slice_get, slice_set, Some, true}
use Rattle.std.proofs.lemmas.Option.{slice_get_within}
use Rattle.store_api.specs.declared.slot.Item.{Item}
use Rattle.store_api.specs.declared.slot.Item.TheVariants.{Changed}
use Rattle.list_store.specs.Begun.{Pushes}
use Rattle.list_store.specs.Heaps.{rid_at, number_of, is_place, row_at, rows_in, RowsBecome}
use Rattle.list_store.proofs.HeapLemmas.{on_ok_both}
use Rattle.list_store.proofs.SlotLemmas.{rid_is, row_place}
use Rattle.list_store.proofs.places.write_at.Goals as goal

pub returns-clause-ok : goal.returns-clause-ok
returns-clause-ok c =
    let place : is_place c.args.rid ≡ true = c.in-Some.ensures.0 in
    let number : c.in-Some.n ≡ number_of c.args.rid = c.in-Some.ensures.1 in
    let rows = rows_in c.args.heaps.now.entries c.args.table in
    let rid-is : rid_at c.in-Some.n ≡ c.args.rid = ap rid_at number ∙ sym (rid_is c.args.rid (rid_at (number_of c.args.rid)) place) in
    on_ok_both c.overwrite.result
    (λ e more.
    let stood : Some e.0 ≡ row_at rows c.args.rid = sym (row_place rows c.args.rid place ∙ ap (slice_get rows) (sym number) ∙ e.1) in
    record {
      within = subst (λ k. k < length rows) number (slice_get_within rows c.in-Some.n e.0 e.1);
      rows = subst (λ k. RowsBecome c.args.heaps.now.entries c.overwrite.new.heaps.entries c.args.table (slice_set rows k c.args.slot)) number more;
      noted = subst (λ (x : Item). Pushes c.args.begun.now.entries c.overwrite.new.begun.entries c.args.t.0 x) (λ i. Changed c.args.table (rid-is i) (stood i)) e.2;
    })
    c.overwrite.ensures.ok c.overwrite.ensures.rows

use Rattle.std.proofs.Common.{◌≡◌, ◌≢◌, ◌<◌, ◌^◌, subst, sym, ◌∙◌, refl, arith, Some, None, false, length, List, [], ◌∷◌, ◌++◌}
use Rattle.std.specs.Prelude.{IfOk, IfErr}
use Rattle.std.specs.Bool.{⊤}
use Rattle.dby_types.specs.declared.number.RowId.{RowId}
use Rattle.dby_types.specs.declared.value.Value.{Value}
use Rattle.store_api.specs.declared.slot.Item.TheVariants.{Changed}
use Rattle.store_api.specs.Effects.{FitsTable, Puts, slot_of}
use Rattle.store_api.specs.Frames.{HasCause, never_full}
use Rattle.list_store.specs.Begun.{changes_of, Pushes}
use Rattle.list_store.specs.Heaps.{rows_in, RowsBecome}
use Rattle.list_store.specs.Holders.{holder_in, room_of}
use Rattle.list_store.specs.Lists.{Lists, content_of, seen}
use Rattle.list_store.proofs.ListLemmas.{kept_as, kept_same}
use Rattle.list_store.proofs.StoreLemmas.{put_is, by_result, told_if_ok, told_err, if_ok_both, on_ok_both, put_kept, is_some, on_err_then, nothing_changed, same_content}
use Rattle.list_store.proofs.store.ListStoreRowStore.put_row.Goals as goal

pub put-requires-clause-room : goal.put-requires-clause-room
put-requires-clause-room c =
    let few = c.if-rows-ge-MOST_ROWS.false in
    subst (λ xs. length xs < 2 ^ 40) c.rows.ensures (omega (arith, few))

pub invariant_of-self : goal.invariant_of-self
invariant_of-self c =
    let l : Lists = record { heaps = c.self.inside.heaps.entries; begun = c.self.inside.begun.entries; holders = c.self.inside.holders.items; next_txn = c.self.inside.next_txn; next_container = c.self.inside.next_container; no_pages = c.self.inside.no_pages; no_log = c.self.inside.no_log } in
    let few = c.if-rows-ge-MOST_ROWS.false in
    let short : length (rows_in l.heaps c.args.table) < 2 ^ 40 = subst (λ xs. length xs < 2 ^ 40) c.rows.ensures (omega (arith, few)) in
    let fits : FitsTable (seen l) c.args.table c.args.row.now = subst (λ (x : Lists). FitsTable (seen x) c.args.table c.args.row.now) (sym c.self.view_is) c.requires.fits in
    let begun : changes_of l.begun c.args.t.0 ≢ None = subst (λ (x : Lists). changes_of x.begun c.args.t.0 ≢ None) (sym c.self.view_is) c.requires.begun in
    by_result c.put.result
    (on_ok_both _ c.put.result (λ rid e more. put_kept l c.put.new.heaps.entries c.put.new.begun.entries c.args.t.0 c.args.table _ _ c.self.invariant begun (is_some _ fits.0 fits.1) short more e.1) c.put.ensures.ok c.put.ensures.rows)
    (on_err_then c.put.result (λ e. kept_as (record l { begun = c.put.new.begun.entries }) c.put.new.heaps.entries e.0 (kept_same l c.put.new.begun.entries e.1 c.self.invariant)) c.put.ensures.err)

pub returns-in-Ok-clause-ok : goal.returns-in-Ok-clause-ok
returns-in-Ok-clause-ok c =
    let l : Lists = record { heaps = c.self.inside.heaps.entries; begun = c.self.inside.begun.entries; holders = c.self.inside.holders.items; next_txn = c.self.inside.next_txn; next_container = c.self.inside.next_container; no_pages = c.self.inside.no_pages; no_log = c.self.inside.no_log } in
    let new : Lists = record l { heaps = c.put.new.heaps.entries; begun = c.put.new.begun.entries } in
    let copied : c.in-Ok.row ≡ c.args.row.now = c.in-Ok.ensures ∙ c.as_slice.ensures in
    let room : room_of (holder_in c.args.a l.holders).room (holder_in c.args.a l.holders).page ≡ Some c.args.table =
    subst (λ (x : Lists). room_of (holder_in c.args.a x.holders).room (holder_in c.args.a x.holders).page ≡ Some c.args.table) (sym c.self.view_is) c.requires.room in
    subst (λ (x : Lists). IfOk c.told.result (Puts c.args.a c.args.t.0 c.args.table c.args.row.now (seen x) (seen new))) c.self.view_is
    (told_if_ok (Puts c.args.a c.args.t.0 c.args.table c.args.row.now (seen l) (seen new)) c.put.result c.told.result c.told.ensures
    (if_ok_both _ (Puts c.args.a c.args.t.0 c.args.table c.args.row.now (seen l) (seen new)) c.put.result
    (λ rid e more. subst (λ (r : RowId). Puts c.args.a c.args.t.0 c.args.table c.args.row.now (seen l) (seen new) r) (sym e.0)
    (put_is l new c.args.a c.args.t.0 c.args.table c.args.row.now
    (subst (λ (r : List Value). RowsBecome l.heaps new.heaps c.args.table (rows_in l.heaps c.args.table ++ slot_of r false ∷ [])) copied more)
    (subst (λ (r : RowId). Pushes l.begun new.begun c.args.t.0 (Changed c.args.table r None)) e.0 e.1) refl refl refl refl refl room))
    c.put.ensures.ok c.put.ensures.rows))

pub returns-in-Ok-clause-err : goal.returns-in-Ok-clause-err
returns-in-Ok-clause-err c =
    let l : Lists = record { heaps = c.self.inside.heaps.entries; begun = c.self.inside.begun.entries; holders = c.self.inside.holders.items; next_txn = c.self.inside.next_txn; next_container = c.self.inside.next_container; no_pages = c.self.inside.no_pages; no_log = c.self.inside.no_log } in
    let new : Lists = record l { heaps = c.put.new.heaps.entries; begun = c.put.new.begun.entries } in
    subst (λ (x : Lists). IfErr c.told.result (HasCause ⊤ never_full (λ d. ⊥) (content_of x) (seen x) (seen new))) c.self.view_is
    (told_err (HasCause ⊤ never_full (λ d. ⊥) (content_of l) (seen l) (seen new)) c.put.result c.told.result c.told.ensures
    (on_err_then c.put.result (λ e. (tt, nothing_changed l new (same_content l new e.0 e.1 refl refl) refl refl refl)) c.put.ensures.err))

use Rattle.std.proofs.Common.{◌≡◌, ◌≢◌, subst, sym, ap, ◌∙◌, refl, Some, None, Option, true, List}
use Rattle.std.specs.Prelude.{IfErr, OnOk}
use Rattle.std.specs.Bool.{⊤}
use Rattle.dby_types.specs.declared.value.Value.{Value}
use Rattle.store_api.specs.declared.slot.Slot.{Slot}
use Rattle.store_api.specs.Effects.{Marks, slot_of, with_slot}
use Rattle.store_api.specs.Frames.{HasCause}
use Rattle.list_store.specs.Begun.{changes_of}
use Rattle.list_store.specs.Heaps.{rows_in, heaps_of}
use Rattle.list_store.specs.Places.{IsCopy}
use Rattle.list_store.specs.Lists.{Lists, IsSpent, content_of, seen}
use Rattle.list_store.proofs.HeapLemmas.{same_entries}
use Rattle.list_store.proofs.StoreLemmas.{stores, written_content, written_kept, unchanged_kept, place_of_row, by_result, told_ok, told_err, on_ok_then, on_err_then, nothing_changed, same_content}
use Rattle.list_store.proofs.store.ListStoreRowStore.mark_row.Goals as goal

pub invariant_of-self : goal.invariant_of-self
invariant_of-self c =
    let l : Lists = record { heaps = c.self.inside.heaps.entries; begun = c.self.inside.begun.entries; holders = c.self.inside.holders.items; next_txn = c.self.inside.next_txn; next_container = c.self.inside.next_container; no_pages = c.self.inside.no_pages; no_log = c.self.inside.no_log } in
    let there : heaps_of l.heaps c.args.table c.args.rid ≢ None = subst (λ (x : Lists). heaps_of x.heaps c.args.table c.args.rid ≢ None) (sym c.self.view_is) c.requires.may.there in
    let begun : changes_of l.begun c.args.t.0 ≢ None = subst (λ (x : Lists). changes_of x.begun c.args.t.0 ≢ None) (sym c.self.view_is) c.requires.may.begun in
    by_result c.write_at.result
    (on_ok_then c.write_at.result (λ o. written_kept l c.write_at.new.heaps.entries c.write_at.new.begun.entries c.args.t.0 c.args.table c.args.rid _ c.self.invariant begun there o) c.write_at.ensures.ok)
    (on_err_then c.write_at.result (λ e. unchanged_kept l c.write_at.new.heaps.entries c.write_at.new.begun.entries c.self.invariant e.0 e.1) c.write_at.ensures.err)

pub returns-in-Ok-clause-err : goal.returns-in-Ok-clause-err
returns-in-Ok-clause-err c =
    let l : Lists = record { heaps = c.self.inside.heaps.entries; begun = c.self.inside.begun.entries; holders = c.self.inside.holders.items; next_txn = c.self.inside.next_txn; next_container = c.self.inside.next_container; no_pages = c.self.inside.no_pages; no_log = c.self.inside.no_log } in
    let new : Lists = record l { heaps = c.write_at.new.heaps.entries; begun = c.write_at.new.begun.entries } in
    subst (λ (x : Lists). IfErr c.told.result (HasCause ⊤ (IsSpent x) (λ d. ⊥) (content_of x) (seen x) (seen new))) c.self.view_is
    (told_err (HasCause ⊤ (IsSpent l) (λ d. ⊥) (content_of l) (seen l) (seen new)) c.write_at.result c.told.result c.told.ensures
    (on_err_then c.write_at.result (λ e. (tt, nothing_changed l new (same_content l new (same_entries l.heaps new.heaps e.0) e.1 refl refl) refl refl refl)) c.write_at.ensures.err))

pub returns-in-Ok-clause-ok : goal.returns-in-Ok-clause-ok
returns-in-Ok-clause-ok c =
    let l : Lists = record { heaps = c.self.inside.heaps.entries; begun = c.self.inside.begun.entries; holders = c.self.inside.holders.items; next_txn = c.self.inside.next_txn; next_container = c.self.inside.next_container; no_pages = c.self.inside.no_pages; no_log = c.self.inside.no_log } in
    let new : Lists = record l { heaps = c.write_at.new.heaps.entries; begun = c.write_at.new.begun.entries } in
    let there : heaps_of l.heaps c.args.table c.args.rid ≢ None = subst (λ (x : Lists). heaps_of x.heaps c.args.table c.args.rid ≢ None) (sym c.self.view_is) c.requires.may.there in
    let copy = copy_of (heaps_of l.heaps c.args.table c.args.rid) c.in-Ok.row c.in-Ok.ensures in
    subst (λ (x : Lists). OnOk c.told.result (Marks c.args.a c.args.t.0 c.args.table c.args.rid (seen x) (seen new))) c.self.view_is
    (told_ok _ c.write_at.result c.told.result c.told.ensures
    (on_ok_then c.write_at.result
    (λ o. record {
      slot = copy.0;
      was = copy.1;
      stored = stores l new _ (written_content l new c.args.t.0 c.args.table c.args.rid (slot_of c.in-Ok.row true) (place_of_row (rows_in l.heaps c.args.table) c.args.rid there) o refl refl
          ∙ ap (λ (r : List Value). with_slot (content_of l) c.args.t.0 c.args.table c.args.rid (slot_of r true)) copy.2) refl refl;
      kept = refl;
    })
    c.write_at.ensures.ok))
  where
    copy_of : (x : Option Slot) (row : List Value) → IsCopy x row → (slot : Slot) × (x ≡ Some slot) × (row ≡ slot.row)
    copy_of None row e = absurd e
    copy_of (Some s) row e = (s, refl, e)

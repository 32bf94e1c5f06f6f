use Rattle.std.proofs.Common.{◌≡◌, subst, sym, ap, ◌∙◌, refl, Some, None, false}
use Rattle.store_api.specs.declared.answers.RowRead.TheVariants as read
use Rattle.store_api.specs.declared.slot.Slot.{Slot}
use Rattle.store_api.specs.Effects.{Reads, slot_of}
use Rattle.store_api.specs.Frames.{Frame, Stores}
use Rattle.store_api.specs.View.{MayHold}
use Rattle.list_store.specs.Heaps.{row_at, heaps_of}
use Rattle.list_store.specs.Holders.{other_in}
use Rattle.list_store.specs.Lists.{Lists, content_of, seen}
use Rattle.list_store.proofs.ListLemmas.{frame_of}
use Rattle.list_store.proofs.StoreLemmas.{room_for, stores_same, held_is, fixed_kept, fixed_others, fixed_pages, fixes}
use Rattle.list_store.proofs.store.ListStoreRowStore.row.Goals as goal

pub returns-in-Some-clause-ok : goal.returns-in-Some-clause-ok
returns-in-Some-clause-ok c =
    let l : Lists = record { heaps = c.self.inside.heaps.entries; begun = c.self.inside.begun.entries; holders = c.self.inside.holders.items; next_txn = c.self.inside.next_txn; next_container = c.self.inside.next_container; no_pages = c.self.inside.no_pages; no_log = c.self.inside.no_log } in
    let other : other_in c.args.a c.args.table l.holders ≡ Some c.in-Some.b = ap (λ xs. other_in c.args.a c.args.table xs) (sym c.as_slice.ensures.value) ∙ sym c.other_holder.ensures ∙ c.in-Some.is in
    subst (λ (x : Lists). Stores (seen x) (seen x) (content_of x) × Reads c.args.a c.args.table c.args.rid (seen x) (seen x) (read.Held c.in-Some.b)) c.self.view_is
    (stores_same l l refl refl refl, held_is l c.args.a c.args.table c.in-Some.b c.self.invariant other)

pub fix-requires : goal.fix-requires
fix-requires c =
    let l : Lists = record { heaps = c.self.inside.heaps.entries; begun = c.self.inside.begun.entries; holders = c.self.inside.holders.items; next_txn = c.self.inside.next_txn; next_container = c.self.inside.next_container; no_pages = c.self.inside.no_pages; no_log = c.self.inside.no_log } in
    room_for l c.args.a c.self.invariant (subst (λ (x : Lists). MayHold (seen x) c.args.a) (sym c.self.view_is) c.requires.few)

pub invariant_of-self : goal.invariant_of-self
invariant_of-self c =
    let l : Lists = record { heaps = c.self.inside.heaps.entries; begun = c.self.inside.begun.entries; holders = c.self.inside.holders.items; next_txn = c.self.inside.next_txn; next_container = c.self.inside.next_container; no_pages = c.self.inside.no_pages; no_log = c.self.inside.no_log } in
    let other : other_in c.args.a c.args.table l.holders ≡ None = ap (λ xs. other_in c.args.a c.args.table xs) (sym c.as_slice.ensures.value) ∙ sym c.other_holder.ensures ∙ c.in_default.is in
    fixed_kept l c.args.a c.args.table false c.fix.new.holders.items c.self.invariant other c.fix.ensures

pub returns-in-Ok-clause-frame : goal.returns-in-Ok-clause-frame
returns-in-Ok-clause-frame c =
    let l : Lists = record { heaps = c.self.inside.heaps.entries; begun = c.self.inside.begun.entries; holders = c.self.inside.holders.items; next_txn = c.self.inside.next_txn; next_container = c.self.inside.next_container; no_pages = c.self.inside.no_pages; no_log = c.self.inside.no_log } in
    let new : Lists = record l { holders = c.fix.new.holders.items } in
    subst (λ (x : Lists). Frame c.args.a (seen x) (seen new)) c.self.view_is
    (frame_of l new c.args.a (fixed_others l c.args.a c.args.table false new.holders c.fix.ensures) (fixed_pages l c.args.a c.args.table false new.holders c.fix.ensures) refl)

pub returns-in-Ok-clause-ok : goal.returns-in-Ok-clause-ok
returns-in-Ok-clause-ok c =
    let l : Lists = record { heaps = c.self.inside.heaps.entries; begun = c.self.inside.begun.entries; holders = c.self.inside.holders.items; next_txn = c.self.inside.next_txn; next_container = c.self.inside.next_container; no_pages = c.self.inside.no_pages; no_log = c.self.inside.no_log } in
    let new : Lists = record l { holders = c.fix.new.holders.items } in
    let slot : Slot = c.in-Some-slot_at.slot.now in
    let copied : slot.row ≡ c.in-Ok.row = sym (c.in-Ok.ensures ∙ c.as_slice-in-Some-slot_at.ensures) in
    let same : slot ≡ slot_of c.in-Ok.row slot.marked = λ i. record { row = copied i; marked = slot.marked } in
    let stood : heaps_of l.heaps c.args.table c.args.rid ≡ Some slot = ap (λ xs. row_at xs c.args.rid) (sym c.rows.ensures) ∙ c.in-Some-slot_at.ensures in
    subst (λ (x : Lists). Stores (seen x) (seen new) (content_of x) × Reads c.args.a c.args.table c.args.rid (seen x) (seen new) (read.Row c.in-Ok.row slot.marked)) c.self.view_is
    (stores_same l new refl refl refl, (stood ∙ ap Some same, fixes l new c.args.a c.args.table c.args.rid false c.fix.ensures))

use Rattle.std.proofs.Common.{◌≡◌, ◌≤◌, ◌⊎◌, ◌^◌, ℕ, subst, sym, ap, ◌∙◌, refl, arith, Some, None, true, inr, length}
use Rattle.store_api.specs.declared.answers.Moved.TheVariants.{Reached, Held}
use Rattle.store_api.specs.declared.places.Room.{Room}
use Rattle.store_api.specs.Effects.{MakesRoomFor}
use Rattle.dby_types.specs.declared.state.SqlState.TheVariants.{PagesSpent}
use Rattle.store_api.specs.Frames.{GrowingFrame, Stores, OnlyCounts}
use Rattle.store_api.specs.View.{MayHold}
use Rattle.list_store.specs.declared.holders.Holder.{Holder}
use Rattle.list_store.specs.Heaps.{rows_in}
use Rattle.list_store.specs.Holders.{other_in, room_of}
use Rattle.list_store.specs.Lists.{Lists, most_rows, content_of, seen}
use Rattle.list_store.proofs.ListLemmas.{growing_frame_of}
use Rattle.list_store.proofs.StoreLemmas.{room_for, stores_same, held_is, fixed_kept, fixed_others, fixed_pages, fixed_is}
use Rattle.list_store.proofs.store.ListStoreRowStore.make_room.Goals as goal

pub returns-in-Some-clause-ok : goal.returns-in-Some-clause-ok
returns-in-Some-clause-ok c =
    let l : Lists = record { heaps = c.self.inside.heaps.entries; begun = c.self.inside.begun.entries; holders = c.self.inside.holders.items; next_txn = c.self.inside.next_txn; next_container = c.self.inside.next_container; no_pages = c.self.inside.no_pages; no_log = c.self.inside.no_log } in
    let other : other_in c.args.a c.in-Heap.table l.holders ≡ Some c.in-Some.b = ap (λ xs. other_in c.args.a c.in-Heap.table xs) (sym c.as_slice.ensures.value) ∙ sym c.other_holder.ensures ∙ c.in-Some.is in
    subst (λ (x : Lists). Stores (seen x) (seen x) (content_of x) × MakesRoomFor c.args.a c.args.need.now (seen x) (seen x) (Held c.in-Some.b)) c.self.view_is (
      stores_same l l refl refl refl,
      subst (λ (need : Room). MakesRoomFor c.args.a need (seen l) (seen l) (Held c.in-Some.b)) (sym c.in-Heap.is)
          (held_is l c.args.a c.in-Heap.table c.in-Some.b c.self.invariant other),
    )

pub returns-then-rows-ge-MOST_ROWS-clause-err : goal.returns-then-rows-ge-MOST_ROWS-clause-err
returns-then-rows-ge-MOST_ROWS-clause-err c =
    let l : Lists = record { heaps = c.self.inside.heaps.entries; begun = c.self.inside.begun.entries; holders = c.self.inside.holders.items; next_txn = c.self.inside.next_txn; next_container = c.self.inside.next_container; no_pages = c.self.inside.no_pages; no_log = c.self.inside.no_log } in
    let new : Lists = record l { no_pages = c.raised-self-inside.result } in
    subst (λ (x : Lists). ((x.next_container ≡ 2 ^ 31) ⊎ ((n : ℕ) × (most_rows ≤ length (rows_in x.heaps n)))) × OnlyCounts PagesSpent (seen x) (seen new)) c.self.view_is (
      inr (c.in-Heap.table, subst (λ xs. most_rows ≤ length xs) c.rows.ensures c.if-rows-ge-MOST_ROWS.true),
      record { keeps_none = refl; content_same = refl; everyone = λ b. refl; counted = (c.raised-self-inside.ensures, refl) },
    )

pub fix-requires : goal.fix-requires
fix-requires c =
    let l : Lists = record { heaps = c.self.inside.heaps.entries; begun = c.self.inside.begun.entries; holders = c.self.inside.holders.items; next_txn = c.self.inside.next_txn; next_container = c.self.inside.next_container; no_pages = c.self.inside.no_pages; no_log = c.self.inside.no_log } in
    room_for l c.args.a c.self.invariant (subst (λ (x : Lists). MayHold (seen x) c.args.a) (sym c.self.view_is) c.requires.few)

pub invariant_of-self-in-Heap : goal.invariant_of-self-in-Heap
invariant_of-self-in-Heap c =
    let l : Lists = record { heaps = c.self.inside.heaps.entries; begun = c.self.inside.begun.entries; holders = c.self.inside.holders.items; next_txn = c.self.inside.next_txn; next_container = c.self.inside.next_container; no_pages = c.self.inside.no_pages; no_log = c.self.inside.no_log } in
    let other : other_in c.args.a c.in-Heap.table l.holders ≡ None = ap (λ xs. other_in c.args.a c.in-Heap.table xs) (sym c.as_slice.ensures.value) ∙ sym c.other_holder.ensures ∙ c.in_default.is in
    fixed_kept l c.args.a c.in-Heap.table true c.fix.new.holders.items c.self.invariant other c.fix.ensures

pub returns-clause-frame : goal.returns-clause-frame
returns-clause-frame c =
    let l : Lists = record { heaps = c.self.inside.heaps.entries; begun = c.self.inside.begun.entries; holders = c.self.inside.holders.items; next_txn = c.self.inside.next_txn; next_container = c.self.inside.next_container; no_pages = c.self.inside.no_pages; no_log = c.self.inside.no_log } in
    let new : Lists = record l { holders = c.fix.new.holders.items } in
    subst (λ (x : Lists). GrowingFrame c.args.a (seen x) (seen new)) c.self.view_is
    (growing_frame_of l new c.args.a (fixed_others l c.args.a c.in-Heap.table true new.holders c.fix.ensures) (fixed_pages l c.args.a c.in-Heap.table true new.holders c.fix.ensures) (omega arith) (omega arith))

pub returns-clause-ok : goal.returns-clause-ok
returns-clause-ok c =
    let l : Lists = record { heaps = c.self.inside.heaps.entries; begun = c.self.inside.begun.entries; holders = c.self.inside.holders.items; next_txn = c.self.inside.next_txn; next_container = c.self.inside.next_container; no_pages = c.self.inside.no_pages; no_log = c.self.inside.no_log } in
    let new : Lists = record l { holders = c.fix.new.holders.items } in
    subst (λ (x : Lists). Stores (seen x) (seen new) (content_of x) × MakesRoomFor c.args.a c.args.need.now (seen x) (seen new) Reached) c.self.view_is (
      stores_same l new refl refl refl,
      subst (λ (need : Room). MakesRoomFor c.args.a need (seen l) (seen new) Reached) (sym c.in-Heap.is)
          (ap (λ (h : Holder). room_of h.room h.page) (fixed_is l c.args.a c.in-Heap.table true new.holders c.fix.ensures), refl),
    )

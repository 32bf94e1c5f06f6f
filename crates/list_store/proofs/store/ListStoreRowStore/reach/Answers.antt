use Rattle.std.proofs.Common.{subst, sym, refl}
use Rattle.store_api.specs.declared.places.Target.{Target}
use Rattle.store_api.specs.Effects.{ReachesTarget}
use Rattle.store_api.specs.Frames.{Frame, Stores}
use Rattle.store_api.specs.View.{MayHold}
use Rattle.list_store.specs.Lists.{Lists, content_of, seen}
use Rattle.list_store.proofs.StoreLemmas.{room_for, searched_kept, searched_frame, searched_is, stores_same}
use Rattle.list_store.proofs.store.ListStoreRowStore.reach.Goals as goal

pub search-requires-clause-room : goal.search-requires-clause-room
search-requires-clause-room c =
    let l : Lists = record { heaps = c.self.inside.heaps.entries; begun = c.self.inside.begun.entries; holders = c.self.inside.holders.items; next_txn = c.self.inside.next_txn; next_container = c.self.inside.next_container; no_pages = c.self.inside.no_pages; no_log = c.self.inside.no_log } in
    room_for l c.args.a c.self.invariant (subst (λ (x : Lists). MayHold (seen x) c.args.a) (sym c.self.view_is) c.requires.few)

pub invariant_of-self : goal.invariant_of-self
invariant_of-self c =
    let l : Lists = record { heaps = c.self.inside.heaps.entries; begun = c.self.inside.begun.entries; holders = c.self.inside.holders.items; next_txn = c.self.inside.next_txn; next_container = c.self.inside.next_container; no_pages = c.self.inside.no_pages; no_log = c.self.inside.no_log } in
    searched_kept l c.args.a c.in-Heap.table c.in-Heap.after c.search.new.holders.items c.search.result c.self.invariant c.search.ensures

pub returns-clause-frame : goal.returns-clause-frame
returns-clause-frame c =
    let l : Lists = record { heaps = c.self.inside.heaps.entries; begun = c.self.inside.begun.entries; holders = c.self.inside.holders.items; next_txn = c.self.inside.next_txn; next_container = c.self.inside.next_container; no_pages = c.self.inside.no_pages; no_log = c.self.inside.no_log } in
    let new : Lists = record l { holders = c.search.new.holders.items } in
    subst (λ (x : Lists). Frame c.args.a (seen x) (seen new)) c.self.view_is
    (searched_frame l c.args.a c.in-Heap.table c.in-Heap.after c.search.new.holders.items c.search.result c.search.ensures)

pub returns-clause-ok : goal.returns-clause-ok
returns-clause-ok c =
    let l : Lists = record { heaps = c.self.inside.heaps.entries; begun = c.self.inside.begun.entries; holders = c.self.inside.holders.items; next_txn = c.self.inside.next_txn; next_container = c.self.inside.next_container; no_pages = c.self.inside.no_pages; no_log = c.self.inside.no_log } in
    let new : Lists = record l { holders = c.search.new.holders.items } in
    subst (λ (x : Lists). Stores (seen x) (seen new) (content_of x) × ReachesTarget c.args.a c.args.to.now (seen x) (seen new) c.search.result) c.self.view_is (
      stores_same l new refl refl refl,
      subst (λ (to : Target). ReachesTarget c.args.a to (seen l) (seen new) c.search.result) (sym c.in-Heap.is)
          (searched_is l c.args.a c.in-Heap.table c.in-Heap.after c.search.new.holders.items c.search.result c.self.invariant c.search.ensures),
    )

use Rattle.std.proofs.Common.{◌≡◌, subst, sym, ap, ◌∙◌, refl, Some}
use Rattle.store_api.specs.declared.places.Place.{Place}
use Rattle.store_api.specs.Effects.{MovesOn}
use Rattle.store_api.specs.Frames.{Frame, Stores}
use Rattle.store_api.specs.View.{MayHold}
use Rattle.list_store.specs.declared.holders.Holder.{Holder}
use Rattle.list_store.specs.Heaps.{rows_in}
use Rattle.list_store.specs.Holders.{holder_in}
use Rattle.list_store.specs.Lists.{Lists, content_of, seen}
use Rattle.list_store.specs.Places.{Searches}
use Rattle.list_store.proofs.StoreLemmas.{room_for, searched_kept, searched_frame, moved_is, stores_same}
use Rattle.list_store.proofs.store.ListStoreRowStore.onward.Goals as goal

pub search-requires-clause-room : goal.search-requires-clause-room
search-requires-clause-room c =
    let l : Lists = record { heaps = c.self.inside.heaps.entries; begun = c.self.inside.begun.entries; holders = c.self.inside.holders.items; next_txn = c.self.inside.next_txn; next_container = c.self.inside.next_container; no_pages = c.self.inside.no_pages; no_log = c.self.inside.no_log } in
    room_for l c.args.a c.self.invariant (subst (λ (x : Lists). MayHold (seen x) c.args.a) (sym c.self.view_is) c.requires.few)

pub invariant_of-self : goal.invariant_of-self
invariant_of-self c =
    let l : Lists = record { heaps = c.self.inside.heaps.entries; begun = c.self.inside.begun.entries; holders = c.self.inside.holders.items; next_txn = c.self.inside.next_txn; next_container = c.self.inside.next_container; no_pages = c.self.inside.no_pages; no_log = c.self.inside.no_log } in
    searched_kept l c.args.a c.in-Some.place.table c.in-Some.place.at c.search.new.holders.items c.search.result c.self.invariant c.search.ensures

pub returns-in-Some-clause-frame : goal.returns-in-Some-clause-frame
returns-in-Some-clause-frame c =
    let l : Lists = record { heaps = c.self.inside.heaps.entries; begun = c.self.inside.begun.entries; holders = c.self.inside.holders.items; next_txn = c.self.inside.next_txn; next_container = c.self.inside.next_container; no_pages = c.self.inside.no_pages; no_log = c.self.inside.no_log } in
    let new : Lists = record l { holders = c.search.new.holders.items } in
    subst (λ (x : Lists). Frame c.args.a (seen x) (seen new)) c.self.view_is
    (searched_frame l c.args.a c.in-Some.place.table c.in-Some.place.at c.search.new.holders.items c.search.result c.search.ensures)

pub returns-in-Some-clause-ok : goal.returns-in-Some-clause-ok
returns-in-Some-clause-ok c =
    let l : Lists = record { heaps = c.self.inside.heaps.entries; begun = c.self.inside.begun.entries; holders = c.self.inside.holders.items; next_txn = c.self.inside.next_txn; next_container = c.self.inside.next_container; no_pages = c.self.inside.no_pages; no_log = c.self.inside.no_log } in
    let new : Lists = record l { holders = c.search.new.holders.items } in
    subst (λ (x : Lists). Stores (seen x) (seen new) (content_of x) × MovesOn c.args.a (seen x) (seen new) c.search.result) c.self.view_is (
      stores_same l new refl refl refl,
      (λ table rid e.
          let here : (holder_in c.args.a l.holders).place ≡ Some c.in-Some.place = ap (λ xs. (holder_in c.args.a xs).place) (sym c.as_slice.ensures.value) ∙ ap (λ (h : Holder). h.place) (sym c.holder_of.ensures) ∙ c.in-Some.is in
          let same = same_place c.in-Some.place (record { table = table; at = Some rid }) (sym here ∙ e) in
          moved_is l c.args.a table rid c.search.new.holders.items c.search.result c.self.invariant
          (subst (λ (p : Place). Searches c.args.a p.table p.at (rows_in l.heaps p.table) l.holders c.search.new.holders.items c.search.result) same c.search.ensures)),
    )
  where
    same_place : (p q : Place) → Some p ≡ Some q → p ≡ q
    same_place p q e = cc

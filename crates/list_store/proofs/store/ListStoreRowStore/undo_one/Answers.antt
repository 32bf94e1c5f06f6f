use Rattle.std.proofs.Common.{ℕ, subst, refl}
use Rattle.store_api.specs.Effects.{Undoes, IsHeld}
use Rattle.store_api.specs.Frames.{Stores}
use Rattle.list_store.specs.Lists.{Lists, content_of, seen}
use Rattle.list_store.proofs.StoreLemmas.{stores_same, held_is, taken_kept, undone_is}
use Rattle.list_store.proofs.store.ListStoreRowStore.undo_one.Goals as goal

pub returns-in-Some-clause-ok : goal.returns-in-Some-clause-ok
returns-in-Some-clause-ok c =
    let l : Lists = record { heaps = c.self.inside.heaps.entries; begun = c.self.inside.begun.entries; holders = c.self.inside.holders.items; next_txn = c.self.inside.next_txn; next_container = c.self.inside.next_container; no_pages = c.self.inside.no_pages; no_log = c.self.inside.no_log } in
    let way = c.in-Some.ensures in
    subst (λ (x : Lists). Stores (seen x) (seen x) (content_of x) × ((table : ℕ) × IsHeld c.args.a c.in-Some.b table (seen x) (seen x))) c.self.view_is
    (stores_same l l refl refl refl, (way.0, held_is l c.args.a way.0 c.in-Some.b c.self.invariant way.1))

pub invariant_of-self : goal.invariant_of-self
invariant_of-self c =
    let l : Lists = record { heaps = c.self.inside.heaps.entries; begun = c.self.inside.begun.entries; holders = c.self.inside.holders.items; next_txn = c.self.inside.next_txn; next_container = c.self.inside.next_container; no_pages = c.self.inside.no_pages; no_log = c.self.inside.no_log } in
    let p = c.in-Some-pop.ensures.some in
    taken_kept l c.take_back.new.heaps.entries c.pop.new.begun.entries c.args.t.0 c.in-Some-pop.item p.rest c.take_back.result c.self.invariant p.was c.take_back.ensures p.is

pub returns-in-Some-pop-clause-ok : goal.returns-in-Some-pop-clause-ok
returns-in-Some-pop-clause-ok c =
    let l : Lists = record { heaps = c.self.inside.heaps.entries; begun = c.self.inside.begun.entries; holders = c.self.inside.holders.items; next_txn = c.self.inside.next_txn; next_container = c.self.inside.next_container; no_pages = c.self.inside.no_pages; no_log = c.self.inside.no_log } in
    let new : Lists = record l { heaps = c.take_back.new.heaps.entries; begun = c.pop.new.begun.entries } in
    let p = c.in-Some-pop.ensures.some in
    subst (λ (x : Lists). Undoes c.args.a c.args.t.0 c.args.down_to (seen x) (seen new) c.take_back.result) c.self.view_is
    (undone_is l new c.args.a c.args.t.0 c.args.down_to c.in-Some-pop.item c.take_back.result p.rest p.was c.take_back.ensures p.is refl refl refl refl)

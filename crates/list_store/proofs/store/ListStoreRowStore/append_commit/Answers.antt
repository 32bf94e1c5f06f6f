use Rattle.std.proofs.Common.{◌≢◌, subst, sym, refl, None}
use Rattle.store_api.specs.Effects.{committed}
use Rattle.store_api.specs.Frames.{Stores}
use Rattle.list_store.specs.Begun.{changes_of}
use Rattle.list_store.specs.Lists.{Lists, content_of, seen}
use Rattle.list_store.proofs.ListLemmas.{kept_begun, kept_drops, open_below}
use Rattle.list_store.proofs.StoreLemmas.{stores, committed_content}
use Rattle.list_store.proofs.store.ListStoreRowStore.append_commit.Goals as goal

pub invariant_of-self : goal.invariant_of-self
invariant_of-self c =
    let l : Lists = record { heaps = c.self.inside.heaps.entries; begun = c.self.inside.begun.entries; holders = c.self.inside.holders.items; next_txn = c.self.inside.next_txn; next_container = c.self.inside.next_container; no_pages = c.self.inside.no_pages; no_log = c.self.inside.no_log } in
    let begun : changes_of l.begun c.args.t.0 ≢ None = subst (λ (x : Lists). changes_of x.begun c.args.t.0 ≢ None) (sym c.self.view_is) c.requires.begun in
    kept_drops (record l { begun = c.end.new.begun.entries }) c.drop_discarded.new.heaps.entries _ c.drop_discarded.ensures
    (kept_begun l c.end.new.begun.entries c.args.t.0 None c.end.ensures.ended (open_below l c.args.t.0 c.self.invariant begun) c.self.invariant)

pub returns-in-Some-clause-ok : goal.returns-in-Some-clause-ok
returns-in-Some-clause-ok c =
    let l : Lists = record { heaps = c.self.inside.heaps.entries; begun = c.self.inside.begun.entries; holders = c.self.inside.holders.items; next_txn = c.self.inside.next_txn; next_container = c.self.inside.next_container; no_pages = c.self.inside.no_pages; no_log = c.self.inside.no_log } in
    let new : Lists = record l { heaps = c.drop_discarded.new.heaps.entries; begun = c.end.new.begun.entries } in
    subst (λ (x : Lists). Stores (seen x) (seen new) (committed (content_of x) c.args.t.0)) c.self.view_is
    (stores l new _ (committed_content l new c.args.t.0 _ c.in-Some.ensures.items c.drop_discarded.ensures c.end.ensures.ended refl refl) refl refl)

use Rattle.std.proofs.Common.{◌≢◌, subst, sym, refl, None}
use Rattle.std.specs.Prelude.{IfErr}
use Rattle.std.specs.Bool.{⊤}
use Rattle.store_api.specs.Frames.{HasCause}
use Rattle.list_store.specs.Begun.{changes_of}
use Rattle.list_store.specs.Lists.{Lists, IsSpent, content_of, seen}
use Rattle.list_store.proofs.HeapLemmas.{same_entries}
use Rattle.list_store.proofs.ListLemmas.{kept_begun, kept_same, open_below}
use Rattle.list_store.proofs.StoreLemmas.{by_result, told_err, on_ok_then, on_err_then, nothing_changed, same_content}
use Rattle.list_store.proofs.store.ListStoreRowStore.discard.Goals as goal

pub invariant_of-self : goal.invariant_of-self
invariant_of-self c =
    let l : Lists = record { heaps = c.self.inside.heaps.entries; begun = c.self.inside.begun.entries; holders = c.self.inside.holders.items; next_txn = c.self.inside.next_txn; next_container = c.self.inside.next_container; no_pages = c.self.inside.no_pages; no_log = c.self.inside.no_log } in
    let begun : changes_of l.begun c.args.t.0 ≢ None = subst (λ (x : Lists). changes_of x.begun c.args.t.0 ≢ None) (sym c.self.view_is) c.requires.begun in
    by_result c.push.result
    (on_ok_then c.push.result (λ e. kept_begun l c.push.new.begun.entries c.args.t.0 _ e (open_below l c.args.t.0 c.self.invariant begun) c.self.invariant) c.push.ensures.ok)
    (on_err_then c.push.result (λ e. kept_same l c.push.new.begun.entries e c.self.invariant) c.push.ensures.err)

pub returns-clause-err : goal.returns-clause-err
returns-clause-err c =
    let l : Lists = record { heaps = c.self.inside.heaps.entries; begun = c.self.inside.begun.entries; holders = c.self.inside.holders.items; next_txn = c.self.inside.next_txn; next_container = c.self.inside.next_container; no_pages = c.self.inside.no_pages; no_log = c.self.inside.no_log } in
    let new : Lists = record l { begun = c.push.new.begun.entries } in
    subst (λ (x : Lists). IfErr c.told.result (HasCause ⊤ (IsSpent x) (λ d. ⊥) (content_of x) (seen x) (seen new))) c.self.view_is
    (told_err (HasCause ⊤ (IsSpent l) (λ d. ⊥) (content_of l) (seen l) (seen new)) c.push.result c.told.result c.told.ensures
    (on_err_then c.push.result (λ e. (tt, nothing_changed l new (same_content l new (same_entries l.heaps l.heaps refl) e refl refl) refl refl refl)) c.push.ensures.err))

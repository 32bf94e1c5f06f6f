use Rattle.std.proofs.Common.{◌<◌, subst, sym, refl}
use Rattle.std.specs.Prelude.{IfErr}
use Rattle.std.specs.Bool.{⊤}
use Rattle.store_api.specs.Frames.{HasCause, never_full}
use Rattle.list_store.specs.Lists.{Lists, content_of, seen}
use Rattle.list_store.proofs.ListLemmas.{kept_as, kept_given}
use Rattle.list_store.proofs.StoreLemmas.{by_result, told_err, on_ok_then, on_err_then, nothing_changed, same_content}
use Rattle.list_store.proofs.store.ListStoreRowStore.describe_table.Goals as goal

pub invariant_of-self : goal.invariant_of-self
invariant_of-self c =
    let l : Lists = record { heaps = c.self.inside.heaps.entries; begun = c.self.inside.begun.entries; holders = c.self.inside.holders.items; next_txn = c.self.inside.next_txn; next_container = c.self.inside.next_container; no_pages = c.self.inside.no_pages; no_log = c.self.inside.no_log } in
    let made : c.args.d.now.number < l.next_container = subst (λ (x : Lists). c.args.d.now.number < x.next_container) (sym c.self.view_is) c.requires.made in
    by_result c.describe.result
    (on_ok_then c.describe.result (λ e. kept_given l c.describe.new.heaps.entries c.args.d.now.number _ e made c.self.invariant) c.describe.ensures.ok)
    (on_err_then c.describe.result (λ e. kept_as l c.describe.new.heaps.entries e c.self.invariant) c.describe.ensures.err)

pub returns-clause-err : goal.returns-clause-err
returns-clause-err c =
    let l : Lists = record { heaps = c.self.inside.heaps.entries; begun = c.self.inside.begun.entries; holders = c.self.inside.holders.items; next_txn = c.self.inside.next_txn; next_container = c.self.inside.next_container; no_pages = c.self.inside.no_pages; no_log = c.self.inside.no_log } in
    let new : Lists = record l { heaps = c.describe.new.heaps.entries } in
    subst (λ (x : Lists). IfErr c.told.result (HasCause ⊤ never_full (λ d. ⊥) (content_of x) (seen x) (seen new))) c.self.view_is
    (told_err (HasCause ⊤ never_full (λ d. ⊥) (content_of l) (seen l) (seen new)) c.describe.result c.told.result c.told.ensures
    (on_err_then c.describe.result (λ e. (tt, nothing_changed l new (same_content l new e (λ u. refl) refl refl) refl refl refl)) c.describe.ensures.err))

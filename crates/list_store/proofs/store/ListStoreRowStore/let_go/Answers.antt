use Rattle.std.proofs.Common.{◌≡◌, ◌≤◌, ◌+◌, subst, sym, ap, ◌∙◌, arith, refl}
use Rattle.store_api.specs.Frames.{Frame}
use Rattle.list_store.specs.declared.holders.Holder.{Holder}
use Rattle.list_store.specs.Holders.{holder_in, pages_of, no_holder, AreHolders}
use Rattle.list_store.specs.Lists.{Lists, seen}
use Rattle.list_store.proofs.HolderLemmas.{holder_without, holder_without_other, holders_without}
use Rattle.list_store.proofs.ListLemmas.{kept_holders, frame_of}
use Rattle.list_store.proofs.store.ListStoreRowStore.let_go.Goals as goal

pub invariant_of-self : goal.invariant_of-self
invariant_of-self c =
    let l : Lists = record { heaps = c.self.inside.heaps.entries; begun = c.self.inside.begun.entries; holders = c.self.inside.holders.items; next_txn = c.self.inside.next_txn; next_container = c.self.inside.next_container; no_pages = c.self.inside.no_pages; no_log = c.self.inside.no_log } in
    kept_holders l c.remove_holder.new.holders.items c.self.invariant (subst AreHolders (sym c.remove_holder.ensures) (holders_without c.args.a c.self.inside.holders.items c.self.invariant.holders))

pub returns-clause-frame : goal.returns-clause-frame
returns-clause-frame c =
    let l : Lists = record { heaps = c.self.inside.heaps.entries; begun = c.self.inside.begun.entries; holders = c.self.inside.holders.items; next_txn = c.self.inside.next_txn; next_container = c.self.inside.next_container; no_pages = c.self.inside.no_pages; no_log = c.self.inside.no_log } in
    let gone : holder_in c.args.a c.remove_holder.new.holders.items ≡ no_holder c.args.a = ap (holder_in c.args.a) c.remove_holder.ensures ∙ holder_without c.args.a l.holders c.self.invariant.holders in
    subst (λ (x : Lists). Frame c.args.a (seen x) (seen (record l { holders = c.remove_holder.new.holders.items }))) c.self.view_is
    (frame_of l (record l { holders = c.remove_holder.new.holders.items }) c.args.a
    (λ b ne. ap (holder_in b) c.remove_holder.ensures ∙ holder_without_other c.args.a b ne l.holders)
    (subst (λ (h : Holder). pages_of h ≤ pages_of (holder_in c.args.a l.holders) + 1) (sym gone) (omega arith)) refl)

pub returns-clause-none : goal.returns-clause-none
returns-clause-none c =
    ap pages_of (ap (holder_in c.args.a) c.remove_holder.ensures ∙ holder_without c.args.a c.self.inside.holders.items c.self.invariant.holders)

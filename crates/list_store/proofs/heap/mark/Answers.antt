use Rattle.std.specs.Option.{is_some}
use Rattle.std.proofs.Common.{sym, ap, ◌∙◌, refl, slice_set, slice_get, true}
use Rattle.store_api.specs.declared.slot.Slot.{Slot}
use Rattle.list_store.specs.declared.heap.Heap.{Heap}
use Rattle.list_store.specs.Heaps.{rows_of}
use Rattle.list_store.proofs.HeapLemmas.{rows_put}
use Rattle.list_store.proofs.heap.mark.Goals as goal

pub returns : goal.returns
returns c =
    let is : Heap = record { columns = c.in-Some.heap.now.columns; rows = c.mark_in.new.rows } in
    let through = c.get_mut.follows.holds is in
    let there = ap rows_of c.in-Some.ensures.value in
    let m = c.mark_in.ensures in
    let s : Slot = m.0 in
    let after : Slot = record s { marked = true } in (
      s,
      sym (ap (λ xs. slice_get xs c.args.n) there) ∙ m.1,
      rows_put c.args.heaps.now.entries (c.get_mut.follows.lender is).entries c.args.table c.in-Some.heap.now is _
          (through.3 (ap is_some (sym c.in-Some.ensures.value))).0 (sym c.in-Some.ensures.value) refl
          (m.2 ∙ ap (λ xs. slice_set xs c.args.n after) there),
    )

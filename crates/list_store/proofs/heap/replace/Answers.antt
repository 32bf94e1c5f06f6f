use Rattle.std.specs.Option.{is_some}
use Rattle.std.proofs.Common.{sym, ap, ◌∙◌, refl, slice_set}
use Rattle.list_store.specs.declared.heap.Heap.{Heap}
use Rattle.list_store.specs.Heaps.{rows_of}
use Rattle.list_store.proofs.HeapLemmas.{rows_put}
use Rattle.list_store.proofs.heap.replace.Goals as goal

pub returns-clause-rows : goal.returns-clause-rows
returns-clause-rows c =
    let is : Heap = record { columns = c.in-Some.heap.now.columns; rows = c.swap_in.new.rows } in
    let through = c.get_mut.follows.holds is in
    rows_put c.args.heaps.now.entries (c.get_mut.follows.lender is).entries c.args.table c.in-Some.heap.now is _
    (through.3 (ap is_some (sym c.in-Some.ensures.value))).0 (sym c.in-Some.ensures.value) refl
    (c.swap_in.ensures.rows ∙ ap (λ h. slice_set (rows_of h) c.args.n c.args.slot) c.in-Some.ensures.value)

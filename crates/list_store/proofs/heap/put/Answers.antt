use Rattle.std.specs.Option.{is_some}
use Rattle.std.proofs.Common.{sym, ap, ◌∙◌, refl, ◌++◌, ◌∷◌, []}
use Rattle.list_store.specs.declared.heap.Heap.{Heap}
use Rattle.list_store.specs.Heaps.{rows_of}
use Rattle.list_store.proofs.HeapLemmas.{rows_put, same_put, rows_after_same, same_after_same, on_ok_map, on_err_map}
use Rattle.list_store.proofs.heap.put.Goals as goal

pub returns-clause-rows : goal.returns-clause-rows
returns-clause-rows c =
    let is : Heap = record { columns = c.in-Some.heap.now.columns; rows = c.put_into.new.rows } in
    let through = c.get_mut.follows.holds is in
    let there = sym c.in-Some.ensures.value in
    on_ok_map c.put_into.result
    (λ e. rows_after_same c.args.heaps.now.entries c.make.new.heaps.entries (c.get_mut.follows.lender is).entries c.args.table _ c.make.ensures.same
    (rows_put c.make.new.heaps.entries (c.get_mut.follows.lender is).entries c.args.table c.in-Some.heap.now is _
    (through.3 (ap is_some (sym c.in-Some.ensures.value))).0 there refl
    (e ∙ ap (λ xs. xs ++ c.args.slot ∷ []) (ap rows_of c.in-Some.ensures.value ∙ c.make.ensures.same.rows_same c.args.table))))
    c.put_into.ensures.rows

pub returns-clause-err : goal.returns-clause-err
returns-clause-err c =
    let is : Heap = record { columns = c.in-Some.heap.now.columns; rows = c.put_into.new.rows } in
    let through = c.get_mut.follows.holds is in
    on_err_map c.put_into.result
    (λ e. (
      same_after_same c.args.heaps.now.entries c.make.new.heaps.entries (c.get_mut.follows.lender is).entries c.make.ensures.same
          (same_put c.make.new.heaps.entries (c.get_mut.follows.lender is).entries c.args.table c.in-Some.heap.now is
          (through.3 (ap is_some (sym c.in-Some.ensures.value))).0 (sym c.in-Some.ensures.value) refl e.0),
      e.1,
    ))
    c.put_into.ensures.err

use Rattle.std.specs.Option.{is_some}
use Rattle.std.proofs.Common.{sym, ap, refl, Some}
use Rattle.list_store.specs.declared.heap.Heap.{Heap}
use Rattle.list_store.proofs.HeapLemmas.{given_put, given_after_same}
use Rattle.list_store.proofs.heap.describe.Goals as goal

pub returns-in-Some-clause-ok : goal.returns-in-Some-clause-ok
returns-in-Some-clause-ok c =
    let is : Heap = record { columns = Some c.in_ok-copy.copy; rows = c.in-Some.heap.now.rows } in
    let through = c.get_mut.follows.holds is in
    given_after_same c.args.heaps.now.entries c.make.new.heaps.entries (c.get_mut.follows.lender is).entries c.args.table c.args.columns.now c.make.ensures.same
    (given_put c.make.new.heaps.entries (c.get_mut.follows.lender is).entries c.args.table c.in-Some.heap.now is c.args.columns.now
    (through.3 (ap is_some (sym c.in-Some.ensures.value))).0 (sym c.in-Some.ensures.value) (ap Some c.in_ok-copy.ensures) refl)

use Rattle.std.specs.Option.{is_some}
use Rattle.std.proofs.Common.{sym, ap, Some}
use Rattle.store_api.specs.declared.slot.Item.TheVariants.{Changed}
use Rattle.list_store.specs.declared.begun.Open.{Open}
use Rattle.list_store.specs.Heaps.{rid_at}
use Rattle.list_store.proofs.BegunLemmas.{pushed, same_items}
use Rattle.list_store.proofs.HeapLemmas.{on_ok_map, on_err_map}
use Rattle.list_store.proofs.heap.overwrite.Goals as goal

pub returns-clause-ok : goal.returns-clause-ok
returns-clause-ok c =
    let is : Open = record { items = c.overwrite_noting.new.items } in
    let through = c.get_mut.follows.holds is in
    on_ok_map c.overwrite_noting.result
    (λ e. (
      e.0,
      e.1,
      pushed c.args.begun.now.entries (c.get_mut.follows.lender is).entries c.args.t c.in-Some.open.now is (Changed c.args.table (rid_at c.args.n) (Some e.0))
          (through.3 (ap is_some (sym c.in-Some.ensures.value))).0 (sym c.in-Some.ensures.value) e.2,
    ))
    c.overwrite_noting.ensures.ok

pub returns-clause-err : goal.returns-clause-err
returns-clause-err c =
    let is : Open = record { items = c.overwrite_noting.new.items } in
    let through = c.get_mut.follows.holds is in
    on_err_map c.overwrite_noting.result
    (λ e. (
      e.1,
      same_items c.args.begun.now.entries (c.get_mut.follows.lender is).entries c.args.t c.in-Some.open.now is
          (through.3 (ap is_some (sym c.in-Some.ensures.value))).0 (sym c.in-Some.ensures.value) e.0,
    ))
    c.overwrite_noting.ensures.err

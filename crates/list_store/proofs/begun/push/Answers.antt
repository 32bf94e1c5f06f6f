use Rattle.std.specs.Option.{is_some}
use Rattle.std.proofs.Common.{sym, ap}
use Rattle.list_store.proofs.BegunLemmas.{pushed, same_items, on_err}
use Rattle.list_store.proofs.begun.push.Goals as goal

pub returns-in_err-push-in-Some-clause-err : goal.returns-in_err-push-in-Some-clause-err
returns-in_err-push-in-Some-clause-err c =
    let through = c.get_mut.follows.holds (record { items = c.push.new.self }) in
    on_err _ (same_items c.args.begun.now.entries (c.get_mut.follows.lender (record { items = c.push.new.self })).entries c.args.t c.in-Some.open.now (record { items = c.push.new.self })
    (through.3 (ap is_some (sym c.in-Some.ensures.value))).0 (sym c.in-Some.ensures.value) c.in_err-push-in-Some.ensures.items)

pub returns-clause-ok : goal.returns-clause-ok
returns-clause-ok c =
    let through = c.get_mut.follows.holds (record { items = c.push.new.self }) in
    pushed c.args.begun.now.entries (c.get_mut.follows.lender (record { items = c.push.new.self })).entries c.args.t c.in-Some.open.now (record { items = c.push.new.self }) c.args.item
    (through.3 (ap is_some (sym c.in-Some.ensures.value))).0 (sym c.in-Some.ensures.value) c.in_ok-push-in-Some.ensures.items

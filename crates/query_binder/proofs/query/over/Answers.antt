use Rattle.query_binder.proofs.Asked.{over_is, groups_at, orders_at}
use Rattle.query_binder.proofs.query.over.Goals as goal

pub returns : goal.returns
returns c = over_is c.args.sources.now c.args.numbers c.args.q.now _ _ _ _ _ _ _ _ _ _ _ (groups_at c.as_slice.ensures c.in_ok-places.ensures) c.in_ok-chosen.ensures c.in_ok-conjuncts.ensures c.keep_later.ensures
    (orders_at c.as_slice-2.ensures c.as_slice-3.ensures c.in_ok-order.ensures) c.in_ok-judge_tables.ensures

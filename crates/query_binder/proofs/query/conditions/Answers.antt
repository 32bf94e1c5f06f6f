use Rattle.query_binder.proofs.Tested.{joins_all}
use Rattle.query_binder.proofs.query.conditions.Goals as goal

pub returns : goal.returns
returns c = joins_all _ c.args.q.now _ _ _ _ _ _ c.new-conjuncts.ensures c.as_slice.ensures c.in_ok-on.ensures c.in_ok-filter.ensures

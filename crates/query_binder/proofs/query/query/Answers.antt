use Rattle.query_binder.proofs.Asked.{asked}
use Rattle.query_binder.proofs.query.query.Goals as goal

pub returns : goal.returns
returns g c = asked _ c.args.q.now _ _ c.in_ok-found.found _ c.as_slice.ensures c.in_ok-found.ensures c.as_slice-3.ensures c.over.ensures

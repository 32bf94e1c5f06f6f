use Rattle.query_binder.proofs.Asked.{exposed_more}
use Rattle.query_binder.proofs.query.exposed.Goals as goal

pub loop-source-preserved : goal.loop-source-preserved
loop-source-preserved c = record { so_far = exposed_more _ _ _ _ _ _ c.loop-source-test.true c.source-item.is c.in_ok-push.ensures.items c.loop-source.invariant.so_far }

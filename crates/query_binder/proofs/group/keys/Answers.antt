use Rattle.query_binder.proofs.Keys.{key_more}
use Rattle.query_binder.proofs.group.keys.Goals as goal

pub loop-text-preserved : goal.loop-text-preserved
loop-text-preserved c = key_more _ _ _ _ _ _ _ _ _ _ c.loop-text-test.true c.text-item.is c.loop-text.invariant c.key.ensures c.in_ok-push.ensures.ok

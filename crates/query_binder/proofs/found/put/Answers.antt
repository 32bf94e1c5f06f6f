use Rattle.query_binder.proofs.TableSteps.{puts}
use Rattle.query_binder.proofs.found.put.Goals as goal

pub returns : goal.returns
returns c = puts _ _ _ _ _ c.in_ok-push.ensures.ok c.in_ok-push-2.ensures.ok

use Rattle.store_trials.proofs.SoleLemmas.{may_hold_idle}
use Rattle.store_trials.proofs.tests.is_sent_on.Goals as goal

pub reach-requires-clause-few : goal.reach-requires-clause-few
reach-requires-clause-few g c = may_hold_idle (g.S.RowStore.view c.args.store.now) c.law.ensures c.requires.idle

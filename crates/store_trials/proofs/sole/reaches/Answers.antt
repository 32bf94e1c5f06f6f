use Rattle.store_trials.proofs.SoleLemmas.{may_hold}
use Rattle.store_trials.proofs.sole.reaches.Goals as goal

pub reach-requires-clause-few : goal.reach-requires-clause-few
reach-requires-clause-few g c = may_hold (g.S.RowStore.view c.search.store) c.args.t.0 c.law.ensures c.search.invariant

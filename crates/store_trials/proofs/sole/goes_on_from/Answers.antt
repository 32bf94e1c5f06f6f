use Rattle.store_trials.proofs.SoleLemmas.{may_hold}
use Rattle.store_trials.proofs.sole.goes_on_from.Goals as goal

pub onward-requires-clause-few : goal.onward-requires-clause-few
onward-requires-clause-few g c = may_hold (g.S.RowStore.view c.step.store) c.args.t.0 c.law.ensures c.step.invariant.0

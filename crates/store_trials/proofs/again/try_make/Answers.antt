use Rattle.store_trials.proofs.SoleLemmas.{may_hold}
use Rattle.store_trials.proofs.again.try_make.Goals as goal

pub create-requires-clause-few : goal.create-requires-clause-few
create-requires-clause-few g c = may_hold (g.S.RowStore.view c.make.store) c.args.t.0 c.law.ensures c.make.invariant

use Rattle.store_trials.proofs.SoleLemmas.{may_hold}
use Rattle.store_trials.proofs.again.try_mark.Goals as goal

pub row-requires-clause-few : goal.row-requires-clause-few
row-requires-clause-few g c = may_hold (g.S.RowStore.view c.args.store.now) c.args.t.0 c.law.ensures c.requires.sole

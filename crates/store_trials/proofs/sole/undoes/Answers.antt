use Rattle.store_trials.proofs.SoleLemmas.{may_hold}
use Rattle.store_trials.proofs.sole.undoes.Goals as goal

pub undo_one-requires-clause-few : goal.undo_one-requires-clause-few
undo_one-requires-clause-few g c = may_hold (g.S.RowStore.view c.undo.store) c.args.t.0 c.law.ensures c.undo.invariant.0

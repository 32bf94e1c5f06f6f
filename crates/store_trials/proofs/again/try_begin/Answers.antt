use Rattle.store_trials.proofs.SoleLemmas.{may_begin}
use Rattle.store_trials.proofs.again.try_begin.Goals as goal

pub begin-requires-clause-few : goal.begin-requires-clause-few
begin-requires-clause-few g c = may_begin (g.S.RowStore.view c.args.store.now) c.law.ensures c.requires.idle

use Rattle.store_trials.proofs.SoleLemmas.{may_begin, opened}
use Rattle.store_trials.proofs.sole.opens.Goals as goal

pub begin-requires-clause-few : goal.begin-requires-clause-few
begin-requires-clause-few g c = may_begin (g.S.RowStore.view c.args.store.now) c.law.ensures c.requires.idle

pub returns-in-Ok : goal.returns-in-Ok
returns-in-Ok g c = opened (g.S.RowStore.view c.args.store.now) (g.S.RowStore.view c.begin.new.self) c.args.t.0 c.requires.idle c.in-Ok.ensures.ok.1.stored c.begin.ensures.frame.everyone

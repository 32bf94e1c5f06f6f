use Rattle.store_trials.proofs.SoleLemmas.{may_hold, is_described, same_content_sole, on_true}
use Rattle.store_trials.proofs.sole.reads.Goals as goal

pub row-requires-clause-described : goal.row-requires-clause-described
row-requires-clause-described g c = is_described (g.S.RowStore.view c.args.store.now) c.args.t.0 c.requires.sole

pub row-requires-clause-few : goal.row-requires-clause-few
row-requires-clause-few g c = may_hold (g.S.RowStore.view c.args.store.now) c.args.t.0 c.law.ensures c.requires.sole

pub returns-in-Ok : goal.returns-in-Ok
returns-in-Ok g c = on_true _ (same_content_sole (g.S.RowStore.view c.args.store.now) (g.S.RowStore.view c.row.new.self) c.args.t.0 c.requires.sole c.in-Ok.ensures.ok.0.stored c.row.ensures.frame.others)

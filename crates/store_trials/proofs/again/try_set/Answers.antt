use Rattle.store_trials.proofs.SoleLemmas.{may_hold, same_content_sole, fits_sole}
use Rattle.store_trials.proofs.again.try_set.Goals as goal

pub row-requires-clause-few : goal.row-requires-clause-few
row-requires-clause-few g c = may_hold (g.S.RowStore.view c.args.store.now) c.args.t.0 c.law.ensures c.requires.sole

pub set_row-requires-clause-fits : goal.set_row-requires-clause-fits
set_row-requires-clause-fits g c = fits_sole (g.S.RowStore.view c.row.new.self) c.args.t.0 c.args.row.now (same_content_sole (g.S.RowStore.view c.args.store.now) (g.S.RowStore.view c.row.new.self) c.args.t.0 c.requires.sole c.in-Ok-Row.ensures.ok.0.stored c.row.ensures.frame.others) c.requires.fits

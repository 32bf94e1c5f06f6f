use Rattle.store_trials.proofs.SoleLemmas.{same_content_sole}
use Rattle.store_trials.proofs.sole.lets_go.Goals as goal

pub returns-clause-sole : goal.returns-clause-sole
returns-clause-sole g c = same_content_sole (g.S.RowStore.view c.args.store.now) (g.S.RowStore.view c.let_go.new.self) c.args.t.0 c.requires.sole c.let_go.ensures.same c.let_go.ensures.frame.others

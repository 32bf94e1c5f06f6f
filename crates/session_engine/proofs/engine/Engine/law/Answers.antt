use Rattle.session_engine.proofs.RunLemmas.{both_lengths}
use Rattle.session_engine.proofs.engine.Engine.law.Goals as goal

pub returns-clause-all : goal.returns-clause-all
returns-clause-all g c = both_lengths _ _ _ _ _ _ c.self.view_is

use Rattle.lock_manager.proofs.TalliesLemmas.{number_of_names}
use Rattle.lock_manager.proofs.holdings.Holdings.count.Goals as goal

pub returns : goal.returns
returns c = record { exact = number_of_names c.args.self.now.modes c.args.self.now.tallies.names c.len.ensures.unique c.args.self.now.counts.names }

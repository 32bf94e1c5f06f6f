use Rattle.lock_manager.proofs.TalliesLemmas.{number_of_ranged}
use Rattle.lock_manager.proofs.holdings.Holdings.ranged_count.Goals as goal

pub returns : goal.returns
returns c = record { exact = number_of_ranged c.args.self.now.modes c.args.self.now.tallies.ranged c.len.ensures.unique c.args.self.now.counts.ranged }

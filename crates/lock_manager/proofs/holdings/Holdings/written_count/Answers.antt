use Rattle.std.proofs.Common.{ap, ◌∙◌}
use Rattle.lock_manager.specs.declared.tallies.Rows.{Rows}
use Rattle.lock_manager.proofs.TalliesLemmas.{number_of_written}
use Rattle.lock_manager.proofs.holdings.Holdings.written_count.Goals as goal

pub returns : goal.returns
returns c = record { exact = number_of_written c.args.table c.args.self.now.modes c.rows_of.result.written c.len.ensures.unique (ap (λ (r : Rows). r.written) c.rows_of.ensures.exact ∙ c.args.self.now.counts.written c.args.table) }

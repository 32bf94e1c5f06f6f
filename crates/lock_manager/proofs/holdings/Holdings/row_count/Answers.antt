use Rattle.std.proofs.Common.{ap, ◌∙◌}
use Rattle.lock_manager.specs.declared.tallies.Rows.{Rows}
use Rattle.lock_manager.proofs.TalliesLemmas.{number_of_rows}
use Rattle.lock_manager.proofs.holdings.Holdings.row_count.Goals as goal

pub returns : goal.returns
returns c = record { exact = number_of_rows c.args.table c.args.self.now.modes c.rows_of.result.names c.len.ensures.unique (ap (λ (r : Rows). r.names) c.rows_of.ensures.exact ∙ c.args.self.now.counts.rows c.args.table) }

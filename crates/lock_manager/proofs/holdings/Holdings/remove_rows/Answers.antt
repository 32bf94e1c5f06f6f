use Rattle.lock_manager.proofs.TalliesLemmas.{can_drop, counts_dropped, modes_dropped}
use Rattle.lock_manager.proofs.holdings.Holdings.remove_rows.Goals as goal

pub drop_table-requires-clause-names : goal.drop_table-requires-clause-names
drop_table-requires-clause-names c = (can_drop c.args.self.now.tallies c.args.self.now.modes.entries c.args.table c.args.self.now.counts).0

pub drop_table-requires-clause-ranged : goal.drop_table-requires-clause-ranged
drop_table-requires-clause-ranged c = (can_drop c.args.self.now.tallies c.args.self.now.modes.entries c.args.table c.args.self.now.counts).1

pub invariant_of-self : goal.invariant_of-self
invariant_of-self c = record { counts = counts_dropped c.args.self.now.tallies c.drop_table.new.self c.args.self.now.modes.entries c.drop_rows.new.names.entries c.args.table c.args.self.now.counts c.drop_table.ensures.exact c.drop_rows.ensures.entries }

pub returns-clause-exact : goal.returns-clause-exact
returns-clause-exact c = modes_dropped c.args.self.now.modes c.drop_rows.new.names c.args.table c.drop_rows.ensures.entries

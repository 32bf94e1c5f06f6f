use Rattle.std.proofs.Common.{arith}
use Rattle.lock_manager.proofs.TalliesLemmas.{can_tally, counts_after}
use Rattle.lock_manager.proofs.holdings.Holdings.remove_held.Goals as goal

pub change-requires-clause-can : goal.change-requires-clause-can
change-requires-clause-can c = can_tally c.args.self.now.tallies c.args.self.now.modes.entries c.args.name c.args.was c.args.self.now.counts (let l = c.len.ensures.len in let k = c.len.ensures.small in omega (arith, l, k)) c.requires.was

pub invariant_of-self : goal.invariant_of-self
invariant_of-self c = record {
  counts = counts_after c.args.self.now.tallies c.change.new.self c.args.self.now.modes.entries c.drop_modes.new.names.entries c.args.name c.args.was c.none.result _ _
      c.args.self.now.counts c.change.ensures.exact c.requires.was c.none.ensures.exact c.drop_modes.ensures.moves;
}

use Rattle.std.proofs.Common.{arith, ap, ◌∙◌, cond, refl}
use Rattle.lock_modes.specs.declared.modes.Modes.{Modes}
use Rattle.lock_modes.specs.Modes.{with_mode}
use Rattle.lock_modes.specs.Names.{same_name}
use Rattle.lock_manager.specs.Holdings.{modes_in}
use Rattle.lock_manager.proofs.HoldingsLemmas.{read_modes}
use Rattle.lock_manager.proofs.TalliesLemmas.{can_tally, counts_after}
use Rattle.lock_manager.proofs.holdings.Holdings.add.Goals as goal

pub change-requires-clause-can : goal.change-requires-clause-can
change-requires-clause-can c = can_tally c.args.self.now.tallies c.args.self.now.modes.entries c.args.name c.modes-was.result c.args.self.now.counts (let l = c.len.ensures.len in let k = c.len.ensures.small in omega (arith, l, k)) c.modes-was.ensures.exact

pub invariant_of-self : goal.invariant_of-self
invariant_of-self c = record {
  counts = counts_after c.args.self.now.tallies c.change.new.self c.args.self.now.modes.entries c.put_modes.new.names.entries c.args.name c.modes-was.result c.with-now.result _ c.with-now.result
      c.args.self.now.counts c.change.ensures.exact c.modes-was.ensures.exact refl c.put_modes.ensures.moves;
}

pub returns-clause-exact : goal.returns-clause-exact
returns-clause-exact c = λ k.
    c.put_modes.ensures.exact k
    ∙ ap (λ (v : Modes). cond (same_name c.args.name k) v (modes_in c.args.self.now k)) (c.with-now.ensures.exact ∙ ap (λ (w : Modes). with_mode w c.args.mode) c.modes-was.ensures.exact)
    ∙ read_modes c.args.self.now.modes c.args.name k c.args.mode (modes_in c.args.self.now k)

use Rattle.std.proofs.Common.{ap, ◌∙◌, sym}
use Rattle.std.specs.Option.{unwrap_or}
use Rattle.lock_modes.specs.Modes.{no_modes}
use Rattle.lock_manager.proofs.NameLemmas.{get_same}
use Rattle.lock_manager.proofs.TalliesLemmas.{counts_reordered}
use Rattle.lock_manager.proofs.holdings.Holdings.reserve.Goals as goal

pub invariant_of-self-2 : goal.invariant_of-self-2
invariant_of-self-2 c =
    let s = c.reserve-2.ensures.same in
    record { counts = counts_reordered c.args.self.now.tallies c.reserve-2.new.self c.args.self.now.modes.entries c.reserve.new.self.entries c.args.self.now.counts c.reserve.ensures.entries.0 s.0 s.1 s.2 }

pub returns-clause-same : goal.returns-clause-same
returns-clause-same c = λ k. ap (λ o. unwrap_or o no_modes) (sym (get_same c.reserve.new.self k) ∙ c.reserve.ensures.entries.2 k ∙ get_same c.args.self.now.modes k)

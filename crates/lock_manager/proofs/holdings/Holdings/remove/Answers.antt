use Rattle.std.proofs.Common.{ap, sym, ◌∙◌}
use Rattle.lock_modes.specs.declared.modes.Modes.{Modes}
use Rattle.lock_modes.specs.Modes.{is_held}
use Rattle.lock_manager.proofs.HoldingsLemmas.{nothing_taken}
use Rattle.lock_manager.proofs.holdings.Holdings.remove.Goals as goal

pub returns-else-is_held-clause-exact : goal.returns-else-is_held-clause-exact
returns-else-is_held-clause-exact c = λ k. nothing_taken c.args.self.now.modes c.args.name k (ap (λ (m : Modes). is_held m) (sym c.modes-was.ensures.exact) ∙ sym c.is_held.ensures.exact ∙ c.if-is_held.false)

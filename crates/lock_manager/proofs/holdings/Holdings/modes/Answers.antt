use Rattle.std.proofs.Common.{ap, ◌∙◌}
use Rattle.std.specs.Option.{unwrap_or}
use Rattle.lock_modes.specs.Modes.{no_modes}
use Rattle.lock_manager.proofs.NameLemmas.{get_same}
use Rattle.lock_manager.proofs.holdings.Holdings.modes.Goals as goal

pub returns-in-Some : goal.returns-in-Some
returns-in-Some c = record { exact = ap (λ o. unwrap_or o no_modes) (c.in-Some.ensures.value ∙ get_same c.args.self.now.modes c.args.name) }

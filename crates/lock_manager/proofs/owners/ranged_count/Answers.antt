use Rattle.std.proofs.Common.{Option, subst}
use Rattle.lock_modes.specs.Modes.{is_ranged}
use Rattle.lock_modes.specs.Waits.{IsNumber}
use Rattle.lock_manager.specs.declared.owner.Owner.{Owner}
use Rattle.lock_manager.specs.Owners.{modes_of}
use Rattle.lock_manager.proofs.NumberLemmas.{none_ranged}
use Rattle.lock_manager.proofs.owners.ranged_count.Goals as goal

pub returns-in-None : goal.returns-in-None
returns-in-None c = record { exact = subst (λ (o : Option Owner). IsNumber (λ n. is_ranged (modes_of o n)) 0) c.in-None.ensures.value (none_ranged) }

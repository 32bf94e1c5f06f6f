use Rattle.std.proofs.Common.{Option, subst}
use Rattle.std.specs.Prelude.{◌&&◌}
use Rattle.lock_modes.specs.Modes.{is_held}
use Rattle.lock_modes.specs.Names.{is_row_name}
use Rattle.lock_modes.specs.Waits.{IsNumber}
use Rattle.lock_manager.specs.declared.owner.Owner.{Owner}
use Rattle.lock_manager.specs.Owners.{modes_of}
use Rattle.lock_manager.proofs.NumberLemmas.{none_rows}
use Rattle.lock_manager.proofs.owners.row_count.Goals as goal

pub returns-in-None : goal.returns-in-None
returns-in-None c = record { exact = subst (λ (o : Option Owner). IsNumber (λ n. is_row_name c.args.table n && is_held (modes_of o n)) 0) c.in-None.ensures.value (none_rows c.args.table) }

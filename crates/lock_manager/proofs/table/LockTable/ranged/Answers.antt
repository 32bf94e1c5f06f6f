use Rattle.lock_modes.specs.Modes.{is_ranged}
use Rattle.lock_manager.specs.Owners.{grants_in}
use Rattle.lock_manager.proofs.NumberLemmas.{number_tells}
use Rattle.lock_manager.proofs.table.LockTable.ranged.Goals as goal

pub returns : goal.returns
returns c = record { exact = number_tells (λ n. is_ranged (grants_in c.args.self.now.ledger.owners.entries c.args.t n)) c.ranged_count.result c.ranged_count.ensures.exact }

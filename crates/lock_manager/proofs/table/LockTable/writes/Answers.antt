use Rattle.std.specs.Prelude.{◌&&◌}
use Rattle.std.proofs.lemmas.Bool.{and_parts, and_from}
use Rattle.lock_modes.specs.Modes.{writes}
use Rattle.lock_modes.specs.Names.{is_row_name}
use Rattle.lock_manager.specs.Owners.{grants_in}
use Rattle.lock_manager.proofs.NumberLemmas.{number_tells}
use Rattle.lock_manager.proofs.table.LockTable.writes.Goals as goal

pub returns : goal.returns
returns c =
    let tells = number_tells (λ n. is_row_name c.args.table n && writes (grants_in c.args.self.now.ledger.owners.entries c.args.t n)) c.written_count.result c.written_count.ensures.exact in
    record { exact = (λ h. (let x = tells.0 h in let p = and_parts _ _ x.1 in (x.0, p.0, p.1)), λ x. tells.1 (x.0, and_from _ _ x.1 x.2)) }

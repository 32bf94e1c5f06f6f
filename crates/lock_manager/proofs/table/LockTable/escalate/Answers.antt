use Rattle.lock_manager.proofs.EscalateLemmas.{escalated}
use Rattle.lock_manager.proofs.table.LockTable.escalate.Goals as goal

pub returns-in-None-clause-ok : goal.returns-in-None-clause-ok
returns-in-None-clause-ok c = λ _. escalated c.args.self.now c.grant.new.self c.give_rows.new.self c.args.t c.args.table c.args.mode c.grant.ensures.ok c.grant.ensures.woken c.give_rows.ensures.ok

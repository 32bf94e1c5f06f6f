use Rattle.std.proofs.Common.{take}
use Rattle.lock_manager.specs.Owners.{grants_in}
use Rattle.lock_manager.proofs.ServeLemmas.{last_of}
use Rattle.lock_manager.proofs.queue.in_way.Goals as goal

pub returns : goal.returns
returns c = record { found = last_of (grants_in c.args.ledger.now.owners.entries) c.args.before.now.line.items (take c.args.at c.args.line.now.line.items) c.args.r c.asker_before.result c.in_default.ensures.found c.in_default-asker_in_way.ensures.found c.asker_before.ensures.found }

use Rattle.std.proofs.Common.{◌++◌}
use Rattle.lock_manager.proofs.TableLemmas.{asks_nothing}
use Rattle.lock_manager.proofs.queue.asked_by.Goals as goal

pub returns-then-not-waits : goal.returns-then-not-waits
returns-then-not-waits c = record { exact = asks_nothing c.args.t (c.args.conversions.now.line.items ++ c.args.requests.now.line.items) c.args.waits c.if-not-waits.true c.requires }

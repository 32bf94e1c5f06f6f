use Rattle.std.proofs.Common.{◌∙◌}
use Rattle.lock_manager.specs.Table.{lock}
use Rattle.lock_manager.proofs.TableLemmas.{idle}
use Rattle.lock_manager.proofs.table.LockTable.granted.Goals as goal

pub returns : goal.returns
returns c = record { exact = idle (lock c.args.self.now) c.args.t c.waits.result (c.waits.ensures.exact ∙ c.args.self.now.only c.args.t) }

use Rattle.std.proofs.Common.{arith}
use Rattle.lock_manager.proofs.AskedLemmas.{asks_short}
use Rattle.lock_manager.proofs.asked.end.Goals as goal

pub returns : goal.returns
returns c = record { exact = (let short = asks_short c.args.name c.args.line.now in omega (arith, short, c.each.invariant.taken, c.each.invariant.within)) }

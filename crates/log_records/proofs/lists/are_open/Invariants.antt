use Rattle.std.proofs.Common.{ℕ, ◌<◌}
use Rattle.log_records.specs.Rules.{IsOpen}
use Rattle.log_records.proofs.lists.are_open.Given as goal

abbrev pub invariant-loop-i : goal.invariant-loop-i
invariant-loop-i l = (k : ℕ) → k < l.i → IsOpen l.at l.txns k

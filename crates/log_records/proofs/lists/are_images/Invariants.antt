use Rattle.std.proofs.Common.{ℕ, ◌<◌}
use Rattle.log_records.specs.Rules.{IsPageImage}
use Rattle.log_records.proofs.lists.are_images.Given as goal

abbrev pub invariant-loop-i : goal.invariant-loop-i
invariant-loop-i l = (k : ℕ) → k < l.i → IsPageImage l.pages k

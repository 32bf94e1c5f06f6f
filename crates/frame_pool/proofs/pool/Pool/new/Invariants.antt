use Rattle.std.proofs.Common.{◌≡◌, ◌<◌, ℕ, length, slice_index}
use Rattle.frame_pool.proofs.pool.Pool.new.Given as goal

abbrev pub invariant-loop-number : goal.invariant-loop-number
invariant-loop-number l = record {
  frames : length l.frames.items ≡ l.number;
  numbers : length l.numbers.items ≡ l.number;
  each : (k : ℕ) → k < l.number → slice_index l.numbers.items k ≡ k;
}

-- How far a total goes.
use Rattle.std.specs.Prelude.{ℕ, ◌*◌, ℤ, pos, ◌≤ℤ◌, neg_ℤ}

-- a total that is no further from 0 than that many numbers of 64 bits
abbrev pub IsWithin : ℕ → ℤ → Type 0
IsWithin k sum = (neg_ℤ (pos (9223372036854775808 * k)) ≤ℤ sum) × (sum ≤ℤ pos (9223372036854775808 * k))

-- Numbers in bytes, the highest byte first.
use Rattle.std.specs.Prelude.{ℕ, ◌+◌, ◌<◌, List, ◌++◌, take, drop, slice_index}
use Rattle.byteorder.specs.Endian.{big_number, big_bytes}

-- each item is a byte
abbrev pub IsBytes : List ℕ → Type 0
IsBytes b = (k : ℕ) → slice_index b k < 256

-- the number in the first n bytes
unfoldable pub number_of : ℕ → List ℕ → ℕ
number_of n b = big_number n b

-- the n bytes of a number
unfoldable pub bytes_of : ℕ → ℕ → List ℕ
bytes_of n v = big_bytes n v

-- the number in the n bytes at a place
unfoldable pub number_at : ℕ → List ℕ → ℕ → ℕ
number_at n b at = number_of n (drop at b)

-- the bytes b with a number in the n bytes at a place, and every other byte as it was
unfoldable pub with_number : ℕ → List ℕ → ℕ → ℕ → List ℕ
with_number n b at v = take at b ++ (bytes_of n v ++ drop (at + n) b)

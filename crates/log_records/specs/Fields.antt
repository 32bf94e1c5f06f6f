-- Bytes as a list of fields: numbers of a width, the highest byte first, and bytes as they are.
use Rattle.std.specs.Prelude.{◌≡◌, ◌<◌, ℕ, ◌+◌, ◌^◌, List, [], ◌∷◌, ◌++◌, length, take, drop}
use Rattle.dby_bytes.specs.Numbers.{bytes_of, number_at, with_number}

-- a number in so many bytes, or bytes
pub data Field : Type 0 where
  number : ℕ → ℕ → Field
  raw : List ℕ → Field

-- the bytes of fields, one behind the other
abbrev pub field_bytes : List Field → List ℕ
field_bytes [] = []
field_bytes (number n v ∷ fs) = bytes_of n v ++ field_bytes fs
field_bytes (raw xs ∷ fs) = xs ++ field_bytes fs

-- how many these are
abbrev pub fields_len : List Field → ℕ
fields_len [] = 0
fields_len (number n v ∷ fs) = n + fields_len fs
fields_len (raw xs ∷ fs) = length xs + fields_len fs

-- each number fits its width
abbrev pub Fit : List Field → Type 0
Fit [] = Unit {0}
Fit (number n v ∷ fs) = (v < 256 ^ n) × Fit fs
Fit (raw xs ∷ fs) = Fit fs

-- the fields stand in the bytes from a place on
abbrev pub Stand : List Field → ℕ → List ℕ → Type 0
Stand [] at b = Unit {0}
Stand (number n v ∷ fs) at b = (number_at n b at ≡ v) × Stand fs (at + n) b
Stand (raw xs ∷ fs) at b = (take (length xs) (drop at b) ≡ xs) × Stand fs (at + length xs) b

-- the bytes with others over a part of them
unfoldable pub with_bytes : List ℕ → ℕ → List ℕ → List ℕ
with_bytes b at xs = take at b ++ (xs ++ drop (at + length xs) b)

-- the bytes after the fields were written from a place on, one after the other
abbrev pub written : List Field → ℕ → List ℕ → List ℕ
written [] at b = b
written (number n v ∷ fs) at b = written fs (at + n) (with_number n b at v)
written (raw xs ∷ fs) at b = written fs (at + length xs) (with_bytes b at xs)

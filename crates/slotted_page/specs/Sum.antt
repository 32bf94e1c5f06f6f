-- The sum of a page.
use Rattle.std.specs.Prelude.{ℕ, List, drop}
use Rattle.sha2.specs.Sha256.{sha256}
use Rattle.dby_bytes.specs.Numbers.{number_at}

-- the digest of FIPS 180-4, as a word that never computes by itself
unfoldable pub digest_of : List ℕ → List ℕ
digest_of bytes = sha256 bytes

-- the sum that a page has: its first eight bytes
abbrev pub stored_sum : List ℕ → ℕ
stored_sum b = number_at 8 b 0

-- the sum that it should have: the first eight bytes of the digest of all others
abbrev pub right_sum : List ℕ → ℕ
right_sum b = number_at 8 (digest_of (drop 8 b)) 0

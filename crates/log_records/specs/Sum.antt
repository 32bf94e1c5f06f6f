-- The sum of a record.
use Rattle.std.specs.Prelude.{ℕ, List}
use Rattle.sha2.specs.Sha256.{sha256}
use Rattle.dby_bytes.specs.Numbers.{number_at}

-- the digest of FIPS 180-4, as a word that never computes by itself
unfoldable pub digest_of : List ℕ → List ℕ
digest_of bytes = sha256 bytes

-- the first eight bytes of the digest
unfoldable pub sum_of : List ℕ → ℕ
sum_of bytes = number_at 8 (digest_of bytes) 0

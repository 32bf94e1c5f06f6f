-- What a byte is to a token.
use Rattle.std.specs.Prelude.{◌-◌, ℕ, List, [], ◌∷◌, Bool, false, ◌&&◌, ◌||◌, ◌==◌, nat_lt, nat_le, if◌then◌else◌}

-- a byte from `low` to `high`
abbrev pub is_within : ℕ → ℕ → ℕ → Bool
is_within low high b = nat_le low b && nat_le b high

-- space, tab, LF or CR
abbrev pub is_blank : ℕ → Bool
is_blank b = (b == 32) || (b == 9) || (b == 10) || (b == 13)

abbrev pub is_letter : ℕ → Bool
is_letter b = is_within 65 90 b || is_within 97 122 b

abbrev pub is_digit : ℕ → Bool
is_digit b = is_within 48 57 b

-- a letter, a digit or `_`
abbrev pub is_in_name : ℕ → Bool
is_in_name b = is_letter b || is_digit b || (b == 95)

-- a byte of a character that isn't ASCII
abbrev pub is_foreign : ℕ → Bool
is_foreign b = nat_lt 127 b

-- two bytes that are one sign: `<>`, `<=`, `>=`, `!=`
abbrev pub is_pair : ℕ → ℕ → Bool
is_pair b c = ((b == 60) && ((c == 62) || (c == 61))) || (((b == 62) || (b == 33)) && (c == 61))

-- a letter in upper case
abbrev pub folded : ℕ → ℕ
folded b = if is_within 97 122 b then b - 32 else b

-- a text whose first byte meets the test
abbrev pub begins : (ℕ → Bool) → List ℕ → Bool
begins test [] = false
begins test (b ∷ bs) = test b

-- `--`, of which the second byte begins the rest
abbrev pub begins_comment : ℕ → List ℕ → Bool
begins_comment b rest = (b == 45) && begins (λ c. c == 45) rest

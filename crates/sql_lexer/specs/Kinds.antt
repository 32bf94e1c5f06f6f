-- What a token says, by its spelling.
use Rattle.std.specs.Prelude.{◌+◌, ◌-◌, ◌*◌, ℕ, List, [], ◌∷◌, ◌++◌, Option, Some, None, length, map, Bool, true, false, not, ◌&&◌, ◌==◌, nat_le, if◌then◌else◌}
use Rattle.sql_lexer.specs.Bytes.{is_letter, is_digit, folded}
use Rattle.sql_lexer.specs.declared.token.Sign.TheVariants.{Open, Close, Comma, Dot, Star, Plus, Minus, Slash, Equal, NotEqual, Less, LessEqual, Greater, GreaterEqual}
use Rattle.sql_lexer.specs.declared.token.TokenKind.{TokenKind}
use Rattle.sql_lexer.specs.declared.token.TokenKind.TheVariants.{Name, Quoted, Number, Text, Bad}
use Rattle.sql_lexer.specs.declared.token.TokenKind.TheVariants.{Sign as a_sign}

-- a name of at most 128 bytes
abbrev pub name_of : List ℕ → TokenKind
name_of spelling = if nat_le (length spelling) 128 then Name (map folded spelling) else Bad

-- a number and one digit more
abbrev pub with_digit : ℕ → ℕ → ℕ
with_digit n b = n * 10 + (b - 48)

-- the number that digits spell behind those that spell n
abbrev pub number_from : ℕ → List ℕ → ℕ
number_from n [] = n
number_from n (b ∷ bs) = number_from (with_digit n b) bs

-- a number of at most 2 ^ 63
abbrev pub number_of : List ℕ → TokenKind
number_of digits = if nat_le (number_from 0 digits) 9223372036854775808 then Number (number_from 0 digits) else Bad

-- these bytes and then what is there, if it is
abbrev pub behind_bytes : List ℕ → Option (List ℕ) → Option (List ℕ)
behind_bytes front None = None
behind_bytes front (Some bs) = Some (front ++ bs)

-- what stands behind a first quote: the bytes up to the last quote, where two quotes are one; none where the last
-- one is missing. `single` says that a quote stands before which is the last one, or the first of two
abbrev pub unquoted : ℕ → Bool → List ℕ → Option (List ℕ)
unquoted quote single [] = if single then Some [] else None
unquoted quote single (b ∷ bs) =
    if (b == quote) && not single then unquoted quote true bs else behind_bytes (b ∷ []) (unquoted quote false bs)

-- a name within quotes, of 1 to 128 bytes
abbrev pub quoted_of : Option (List ℕ) → TokenKind
quoted_of None = Bad
quoted_of (Some name) = if nat_le 1 (length name) && nat_le (length name) 128 then Quoted name else Bad

abbrev pub text_of : Option (List ℕ) → TokenKind
text_of None = Bad
text_of (Some text) = Text text

-- a sign of one byte
abbrev pub sign_of : ℕ → TokenKind
sign_of b =
    if b == 40 then a_sign Open else if b == 41 then a_sign Close
    else if b == 44 then a_sign Comma else if b == 46 then a_sign Dot
    else if b == 42 then a_sign Star else if b == 43 then a_sign Plus
    else if b == 45 then a_sign Minus else if b == 47 then a_sign Slash
    else if b == 61 then a_sign Equal else if b == 60 then a_sign Less
    else if b == 62 then a_sign Greater else Bad

-- a sign of two bytes: `<>` and `!=`, `<=`, `>=`
abbrev pub sign_of_two : ℕ → ℕ → TokenKind
sign_of_two b c =
    if (b == 60) && (c == 62) then a_sign NotEqual else if (b == 33) && (c == 61) then a_sign NotEqual
    else if (b == 60) && (c == 61) then a_sign LessEqual else if (b == 62) && (c == 61) then a_sign GreaterEqual
    else Bad

abbrev pub sign_spelled : ℕ → List ℕ → TokenKind
sign_spelled b [] = sign_of b
sign_spelled b (c ∷ cs) = sign_of_two b c

-- the kind of the token of this spelling
abbrev pub kind_of : List ℕ → TokenKind
kind_of [] = Bad
kind_of (b ∷ rest) =
    if is_letter b then name_of (b ∷ rest)
    else if is_digit b then number_of (b ∷ rest)
    else if b == 39 then text_of (unquoted 39 false rest)
    else if b == 34 then quoted_of (unquoted 34 false rest)
    else sign_spelled b rest

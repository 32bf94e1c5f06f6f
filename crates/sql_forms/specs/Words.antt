-- What a token is to the grammar: a keyword, a name, a sign.
use Rattle.std.specs.Prelude.{ℕ, List, Option, Some, None, Bool, true, false, is_some, if◌then◌else◌}
use Rattle.std.specs.Str.{bytes_eq}
use Rattle.sql_lexer.specs.Reserved.{is_reserved_word}
use Rattle.sql_lexer.specs.declared.token.Sign.TheVariants as sign
use Rattle.sql_lexer.specs.declared.token.TokenKind.{TokenKind}
use Rattle.sql_lexer.specs.declared.token.TokenKind.TheVariants.{Name, Quoted, Sign}

-- the keyword w, in any case
abbrev pub is_word : List ℕ → TokenKind → Bool
is_word w (Name name) = bytes_eq name w
is_word w _ = false

-- the name that a token is: an unquoted one is no reserved word
abbrev pub name_in : TokenKind → Option (List ℕ)
name_in (Name name) = if is_reserved_word name then None else Some name
name_in (Quoted name) = Some name
name_in _ = None

abbrev pub is_name : TokenKind → Bool
is_name kind = is_some (name_in kind)

abbrev pub is_open : TokenKind → Bool
is_open (Sign sign.Open) = true
is_open _ = false

abbrev pub is_close : TokenKind → Bool
is_close (Sign sign.Close) = true
is_close _ = false

abbrev pub is_comma : TokenKind → Bool
is_comma (Sign sign.Comma) = true
is_comma _ = false

abbrev pub is_star : TokenKind → Bool
is_star (Sign sign.Star) = true
is_star _ = false

abbrev pub is_plus : TokenKind → Bool
is_plus (Sign sign.Plus) = true
is_plus _ = false

abbrev pub is_minus : TokenKind → Bool
is_minus (Sign sign.Minus) = true
is_minus _ = false

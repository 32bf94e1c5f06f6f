-- The tokens of a statement's text.
use Rattle.std.specs.Prelude.{◌+◌, ℕ, List, [], ◌∷◌, ◌++◌, map, Bool, ◌&&◌, if◌then◌else◌, slice_range}
use Rattle.sql_lexer.specs.Kinds.{kind_of}
use Rattle.sql_lexer.specs.Reading.{reading_after, is_in_token, is_between, is_open}
use Rattle.sql_lexer.specs.declared.reading.Reading.{Reading}
use Rattle.sql_lexer.specs.declared.reading.Reading.TheVariants.{Between}
use Rattle.sql_lexer.specs.declared.token.Span.{Span}
use Rattle.sql_lexer.specs.declared.token.Token.{Token}
use Rattle.sql_lexer.specs.declared.token.TokenKind.{TokenKind}

abbrev pub span_of : ℕ → ℕ → Span
span_of from to = record { from = from; to = to }

-- the token that a text has from `from` up to, but not with, `to`
abbrev pub token_of : List ℕ → ℕ → ℕ → Token
token_of text from to = record { span = span_of from to; kind = kind_of (slice_range text from to) }

-- where the token of a byte at `at` begins
abbrev pub token_begin : Reading → ℕ → ℕ → ℕ
token_begin reading from at = if is_open reading then from else at

-- a byte is the last one of a token
abbrev pub ends_token : Reading → ℕ → List ℕ → Bool
ends_token reading b rest = is_in_token reading b rest && is_between (reading_after reading b rest)

abbrev pub token_where : Bool → List ℕ → ℕ → ℕ → List Token
token_where found text from to = if found then token_of text from to ∷ [] else []

-- the tokens of what is left of a text from `at` on; a token that is open began at `from`
abbrev pub tokens_from : List ℕ → Reading → ℕ → ℕ → List ℕ → List Token
tokens_from text reading from at [] = token_where (is_open reading) text from at
tokens_from text reading from at (b ∷ rest) =
    token_where (ends_token reading b rest) text (token_begin reading from at) (at + 1)
    ++ tokens_from text (reading_after reading b rest) (token_begin reading from at) (at + 1) rest

-- the tokens of a text, in order
abbrev pub tokens_of : List ℕ → List Token
tokens_of text = tokens_from text Between 0 0 text

abbrev pub kinds_of : List ℕ → List TokenKind
kinds_of text = map (λ t. t.kind) (tokens_of text)

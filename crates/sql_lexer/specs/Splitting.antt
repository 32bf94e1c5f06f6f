-- The statements of a script.
use Rattle.std.specs.Prelude.{◌≡◌, ◌+◌, ℕ, List, [], ◌∷◌, ◌++◌, Option, Some, None, length, map, Bool, false, ◌==◌, if◌then◌else◌, slice_range}
use Rattle.sql_lexer.specs.Reading.{reading_after, is_in_token}
use Rattle.sql_lexer.specs.Tokens.{span_of}
use Rattle.sql_lexer.specs.declared.reading.Reading.{Reading}
use Rattle.sql_lexer.specs.declared.reading.Reading.TheVariants.{Between}
use Rattle.sql_lexer.specs.declared.token.Span.{Span}

-- a `;` outside of quotes and comments
abbrev pub ends_statement : Reading → ℕ → Bool
ends_statement Between b = b == 59
ends_statement _ b = false

-- where the statement begins: at its first token
abbrev pub statement_begin : Option ℕ → Bool → ℕ → Option ℕ
statement_begin (Some from) in_token at = Some from
statement_begin None in_token at = if in_token then Some at else None

-- the statement that began, if one did
abbrev pub span_begun : Option ℕ → ℕ → List Span
span_begun None to = []
span_begun (Some from) to = span_of from to ∷ []

-- the statements' spans of what is left of a script from `at` on
abbrev pub spans_from : Reading → Option ℕ → ℕ → List ℕ → List Span
spans_from reading begun at [] = span_begun begun at
spans_from reading begun at (b ∷ rest) =
    if ends_statement reading b then span_begun begun at ++ spans_from Between None (at + 1) rest
    else spans_from (reading_after reading b rest) (statement_begin begun (is_in_token reading b rest) at) (at + 1) rest

-- the spans of a script's statements, each from its first token up to its `;` or the script's end
abbrev pub spans_of : List ℕ → List Span
spans_of script = spans_from Between None 0 script

-- the bytes of a span
abbrev pub bytes_of : List ℕ → Span → List ℕ
bytes_of text span = slice_range text span.from span.to

-- the texts of a script's statements
abbrev pub statements_of : List ℕ → List (List ℕ)
statements_of script = map (bytes_of script) (spans_of script)

-- a text that is one statement from its first byte to its last
abbrev pub IsOneStatement : List ℕ → Type 0
IsOneStatement text = spans_of text ≡ span_of 0 (length text) ∷ []

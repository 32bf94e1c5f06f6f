-- How a text is read, byte by byte: what the bytes so far leave open.
use Rattle.std.specs.Prelude.{ℕ, List, Bool, true, false, not, ◌||◌, ◌==◌, if◌then◌else◌}
use Rattle.sql_lexer.specs.Bytes.{is_blank, is_letter, is_digit, is_in_name, is_foreign, is_pair, begins, begins_comment}
use Rattle.sql_lexer.specs.declared.reading.Reading.{Reading}
use Rattle.sql_lexer.specs.declared.reading.Reading.TheVariants.{Between, InComment, InName, InNumber, InForeign, InText, AtTextPair, InQuoted, AtQuotedPair, AtSignPair}

-- what is read goes on, or has ended
abbrev pub if_next : Bool → Reading → Reading
if_next goes_on reading = if goes_on then reading else Between

-- a token of bytes of one class goes on while the next byte is of the class, too
abbrev pub while_next : (ℕ → Bool) → Reading → List ℕ → Reading
while_next test reading rest = if_next (begins test rest) reading

-- behind a byte within quotes: a quote is the last one, or the first of two that are one
abbrev pub after_quoted : ℕ → Reading → Reading → ℕ → List ℕ → Reading
after_quoted quote reading pair b rest = if b == quote then while_next (λ c. c == quote) pair rest else reading

-- behind the first byte of a token
abbrev pub reading_begun : ℕ → List ℕ → Reading
reading_begun b rest =
    if is_letter b then while_next is_in_name InName rest
    else if is_digit b then while_next is_digit InNumber rest
    else if is_foreign b then while_next is_foreign InForeign rest
    else if b == 39 then InText
    else if b == 34 then InQuoted
    else while_next (is_pair b) AtSignPair rest

-- behind a byte that the rest follows
abbrev pub reading_after : Reading → ℕ → List ℕ → Reading
reading_after Between b rest =
    if is_blank b then Between else if begins_comment b rest then InComment else reading_begun b rest
reading_after InComment b rest = if b == 10 then Between else InComment
reading_after InName b rest = while_next is_in_name InName rest
reading_after InNumber b rest = while_next is_digit InNumber rest
reading_after InForeign b rest = while_next is_foreign InForeign rest
reading_after InText b rest = after_quoted 39 InText AtTextPair b rest
reading_after AtTextPair b rest = InText
reading_after InQuoted b rest = after_quoted 34 InQuoted AtQuotedPair b rest
reading_after AtQuotedPair b rest = InQuoted
reading_after AtSignPair b rest = Between

-- a byte that belongs to a token, and to no blank and no comment
abbrev pub is_in_token : Reading → ℕ → List ℕ → Bool
is_in_token Between b rest = not (is_blank b || begins_comment b rest)
is_in_token InComment b rest = false
is_in_token _ b rest = true

-- no token and no comment is open
abbrev pub is_between : Reading → Bool
is_between Between = true
is_between _ = false

-- a token is open
abbrev pub is_open : Reading → Bool
is_open Between = false
is_open InComment = false
is_open _ = true

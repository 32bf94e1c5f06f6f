-- What a byte does to the reading.
use Rattle.std.proofs.Common.{◌≡◌, ℕ, List, Bool, true, false, not, ◌||◌, ◌==◌, refl}
use Rattle.std.specs.Prelude.{if◌then◌else◌}
use Rattle.sql_lexer.specs.Bytes.{is_blank, is_letter, is_digit, is_in_name, is_foreign, is_pair, begins, begins_comment}
use Rattle.sql_lexer.specs.Reading.{if_next, while_next, after_quoted, reading_begun, reading_after, is_in_token, is_between, is_open}
use Rattle.sql_lexer.specs.declared.reading.Reading.{Reading}
use Rattle.sql_lexer.specs.declared.reading.Reading.TheVariants.{Between, InComment, InName, InNumber, InForeign, InText, AtTextPair, InQuoted, AtQuotedPair, AtSignPair}

-- what holds of both holds of the chosen one
pub chosen : (P : Reading → Type 0) (c : Bool) (x y : Reading) → P x → P y → P (if c then x else y)
chosen P true x y p q = p
chosen P false x y p q = q

-- behind a byte outside of tokens no token is open
pub outside-closed : (r : Reading) (b : ℕ) (rest : List ℕ) → is_in_token r b rest ≡ false → is_open (reading_after r b rest) ≡ false
outside-closed Between b rest h = go (is_blank b) (begins_comment b rest) (reading_begun b rest) h
  where
    go : (blank comment : Bool) (begun : Reading) → not (blank || comment) ≡ false → is_open (if blank then Between else if comment then InComment else begun) ≡ false
    go true comment begun h = refl
    go false true begun h = refl
    go false false begun h = cc
outside-closed InComment b rest h = chosen (λ r. is_open r ≡ false) (b == 10) Between InComment refl refl
outside-closed _ b rest h = cc

-- a reading that isn't in a comment
abbrev IsClear : Reading → Type 0
IsClear r = is_open r ≡ not (is_between r)

if_next-clear : (c : Bool) (r : Reading) → IsClear r → IsClear (if_next c r)
if_next-clear c r h = chosen IsClear c r Between h refl

begun-clear : (b : ℕ) (rest : List ℕ) → IsClear (reading_begun b rest)
begun-clear b rest =
    chosen IsClear (is_letter b) (while_next is_in_name InName rest) _ (if_next-clear (begins is_in_name rest) InName refl)
    (chosen IsClear (is_digit b) (while_next is_digit InNumber rest) _ (if_next-clear (begins is_digit rest) InNumber refl)
    (chosen IsClear (is_foreign b) (while_next is_foreign InForeign rest) _ (if_next-clear (begins is_foreign rest) InForeign refl)
    (chosen IsClear (b == 39) InText _ refl
    (chosen IsClear (b == 34) InQuoted _ refl
    (if_next-clear (begins (is_pair b) rest) AtSignPair refl)))))

quoted-clear : (quote : ℕ) (r pair : Reading) (b : ℕ) (rest : List ℕ) → IsClear r → IsClear pair → IsClear (after_quoted quote r pair b rest)
quoted-clear quote r pair b rest h k =
    chosen IsClear (b == quote) (while_next (λ c. c == quote) pair rest) r (if_next-clear (begins (λ c. c == quote) rest) pair k) h

-- behind a byte of a token the token is open, or has ended
pub inside-clear : (r : Reading) (b : ℕ) (rest : List ℕ) → is_in_token r b rest ≡ true → is_open (reading_after r b rest) ≡ not (is_between (reading_after r b rest))
inside-clear Between b rest h = go (is_blank b) (begins_comment b rest) h
  where
    go : (blank comment : Bool) → not (blank || comment) ≡ true → IsClear (if blank then Between else if comment then InComment else reading_begun b rest)
    go true comment h = cc
    go false true h = cc
    go false false h = begun-clear b rest
inside-clear InComment b rest h = cc
inside-clear InName b rest h = if_next-clear (begins is_in_name rest) InName refl
inside-clear InNumber b rest h = if_next-clear (begins is_digit rest) InNumber refl
inside-clear InForeign b rest h = if_next-clear (begins is_foreign rest) InForeign refl
inside-clear InText b rest h = quoted-clear 39 InText AtTextPair b rest refl refl
inside-clear AtTextPair b rest h = refl
inside-clear InQuoted b rest h = quoted-clear 34 InQuoted AtQuotedPair b rest refl refl
inside-clear AtQuotedPair b rest h = refl
inside-clear AtSignPair b rest h = refl

pub between-is : (r : Reading) → is_between r ≡ true → r ≡ Between
between-is Between h = refl
between-is _ h = cc

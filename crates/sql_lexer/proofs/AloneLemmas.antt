-- The text of a statement has no `;` outside of quotes and comments: split again, it is one statement.
use Rattle.std.proofs.Common.{◌≡◌, ◌+◌, ℕ, List, [], ◌∷◌, ◌++◌, length, map, Bool, true, false, not, ◌&&◌, ◌||◌, ◌==◌, Option, Some, None, refl, sym, ap, ◌∙◌, subst, arith, append_assoc, append-nil, length-append}
use Rattle.std.specs.Prelude.{All, if◌then◌else◌}
use Rattle.std.proofs.lemmas.List.Elements.{All-nil, All-cons}
use Rattle.std.proofs.lemmas.Bool.Decides.{Decides-eqb}
use Rattle.sql_lexer.specs.Bytes.{is_blank, is_letter, is_digit, is_in_name, is_foreign, is_pair, begins, begins_comment}
use Rattle.sql_lexer.specs.Reading.{if_next, while_next, after_quoted, reading_begun, reading_after, is_in_token, is_open}
use Rattle.sql_lexer.specs.Splitting.{IsOneStatement, ends_statement, statement_begin, span_begun, spans_from, spans_of, bytes_of, statements_of}
use Rattle.sql_lexer.specs.Tokens.{span_of}
use Rattle.sql_lexer.specs.declared.reading.Reading.{Reading}
use Rattle.sql_lexer.specs.declared.reading.Reading.TheVariants.{Between, InComment, InName, InNumber, InForeign, InText, AtTextPair, InQuoted, AtQuotedPair, AtSignPair}
use Rattle.sql_lexer.specs.declared.token.Span.{Span}
use Rattle.sql_lexer.proofs.CoverLemmas.{part_at}
use Rattle.sql_lexer.proofs.ReadingLemmas.{outside-closed}

-- two texts that a token can't tell apart by their first bytes: the one's is the other's, or `;`, or there is none
abbrev Alike : List ℕ → List ℕ → Type 0
Alike xs ys = (test : ℕ → Bool) → test 59 ≡ false → begins test xs ≡ begins test ys

is_pair-end : (b : ℕ) → is_pair b 59 ≡ false
is_pair-end b = go (b == 60) ((b == 62) || (b == 33))
  where
    go : (x y : Bool) → ((x && false) || (y && false)) ≡ false
    go true true = refl
    go true false = refl
    go false true = refl
    go false false = refl

while_next-alike : (test : ℕ → Bool) (r : Reading) (xs ys : List ℕ) → test 59 ≡ false → Alike xs ys → while_next test r xs ≡ while_next test r ys
while_next-alike test r xs ys e a = ap (λ c. if_next c r) (a test e)

comment-alike : (b : ℕ) (xs ys : List ℕ) → Alike xs ys → begins_comment b xs ≡ begins_comment b ys
comment-alike b xs ys a = ap (λ c. (b == 45) && c) (a (λ c. c == 45) refl)

quoted-alike : (quote : ℕ) (r pair : Reading) (b : ℕ) (xs ys : List ℕ) → (59 == quote) ≡ false → Alike xs ys → after_quoted quote r pair b xs ≡ after_quoted quote r pair b ys
quoted-alike quote r pair b xs ys e a = ap (λ next. if b == quote then next else r) (while_next-alike (λ c. c == quote) pair xs ys e a)

begun-alike : (b : ℕ) (xs ys : List ℕ) → Alike xs ys → reading_begun b xs ≡ reading_begun b ys
begun-alike b xs ys a =
    ap (λ n. if is_letter b then n else if is_digit b then while_next is_digit InNumber xs else if is_foreign b then while_next is_foreign InForeign xs else if b == 39 then InText else if b == 34 then InQuoted else while_next (is_pair b) AtSignPair xs)
    (while_next-alike is_in_name InName xs ys refl a)
    ∙ ap (λ n. if is_letter b then while_next is_in_name InName ys else if is_digit b then n else if is_foreign b then while_next is_foreign InForeign xs else if b == 39 then InText else if b == 34 then InQuoted else while_next (is_pair b) AtSignPair xs)
    (while_next-alike is_digit InNumber xs ys refl a)
    ∙ ap (λ n. if is_letter b then while_next is_in_name InName ys else if is_digit b then while_next is_digit InNumber ys else if is_foreign b then n else if b == 39 then InText else if b == 34 then InQuoted else while_next (is_pair b) AtSignPair xs)
    (while_next-alike is_foreign InForeign xs ys refl a)
    ∙ ap (λ n. if is_letter b then while_next is_in_name InName ys else if is_digit b then while_next is_digit InNumber ys else if is_foreign b then while_next is_foreign InForeign ys else if b == 39 then InText else if b == 34 then InQuoted else n)
    (while_next-alike (is_pair b) AtSignPair xs ys (is_pair-end b) a)

reading-alike : (r : Reading) (b : ℕ) (xs ys : List ℕ) → Alike xs ys → reading_after r b xs ≡ reading_after r b ys
reading-alike Between b xs ys a =
    ap (λ c. if is_blank b then Between else if c then InComment else reading_begun b xs) (comment-alike b xs ys a)
    ∙ ap (λ n. if is_blank b then Between else if begins_comment b ys then InComment else n) (begun-alike b xs ys a)
reading-alike InComment b xs ys a = refl
reading-alike InName b xs ys a = while_next-alike is_in_name InName xs ys refl a
reading-alike InNumber b xs ys a = while_next-alike is_digit InNumber xs ys refl a
reading-alike InForeign b xs ys a = while_next-alike is_foreign InForeign xs ys refl a
reading-alike InText b xs ys a = quoted-alike 39 InText AtTextPair b xs ys refl a
reading-alike AtTextPair b xs ys a = refl
reading-alike InQuoted b xs ys a = quoted-alike 34 InQuoted AtQuotedPair b xs ys refl a
reading-alike AtQuotedPair b xs ys a = refl
reading-alike AtSignPair b xs ys a = refl

in_token-alike : (r : Reading) (b : ℕ) (xs ys : List ℕ) → Alike xs ys → is_in_token r b xs ≡ is_in_token r b ys
in_token-alike Between b xs ys a = ap (λ c. not (is_blank b || c)) (comment-alike b xs ys a)
in_token-alike InComment b xs ys a = refl
in_token-alike _ b xs ys a = refl

abbrev EachAlone : List ℕ → List Span → Type 0
EachAlone script [] = Unit {0}
EachAlone script (s ∷ ss) = IsOneStatement (bytes_of script s) × EachAlone script ss

-- read alone, what has been read of a statement leaves the same reading
abbrev ReadsAlone : List ℕ → Reading → List ℕ → Type 0
ReadsAlone read r rest = (other : List ℕ) → Alike rest other → spans_from Between None 0 (read ++ other) ≡ spans_from r (Some 0) (length read) other

record Waits (script done : List ℕ) (r : Reading) (at : ℕ) (rest : List ℕ) : Type 0 where
  cut : script ≡ done ++ rest
  place : at ≡ length done
  shut : is_open r ≡ false

record Runs (script done read : List ℕ) (r : Reading) (from at : ℕ) (rest : List ℕ) : Type 0 where
  cut : script ≡ done ++ (read ++ rest)
  begin : from ≡ length done
  place : at ≡ length done + length read
  alone : ReadsAlone read r rest

alone-end : (script done read : List ℕ) (r : Reading) (from at : ℕ) (rest : List ℕ) → Runs script done read r from at rest → Alike rest [] → IsOneStatement (bytes_of script (span_of from at))
alone-end script done read r from at rest p a =
    let part : bytes_of script (span_of from at) ≡ read = part_at script done read rest from at p.cut p.begin p.place in
    let alone : spans_from Between None 0 (read ++ []) ≡ span_of 0 (length read) ∷ [] = p.alone [] a in
    subst IsOneStatement (sym part) (subst (λ (text : List ℕ). spans_from Between None 0 text ≡ span_of 0 (length read) ∷ []) (append-nil read) alone)

end-alike : (b : ℕ) (rest : List ℕ) → b ≡ 59 → Alike (b ∷ rest) []
end-alike b rest e test h = ap test e ∙ h

ends-byte : (r : Reading) (b : ℕ) → ends_statement r b ≡ true → b ≡ 59
ends-byte Between b h = (Decides-eqb b 59).0 h
ends-byte _ b h = absurd (cc)

runs-begin : (script done : List ℕ) (r : Reading) (at : ℕ) (b : ℕ) (rest : List ℕ) → Waits script done r at (b ∷ rest) → ends_statement r b ≡ false → is_in_token r b rest ≡ true → Runs script done (b ∷ []) (reading_after r b rest) at (at + 1) rest
runs-begin script done Between at b rest p e h = record {
  cut = p.cut;
  begin = p.place;
  place = omega (arith, p.place);
  alone = λ other a. ap (λ (c : Bool). if c then span_begun None 0 ++ spans_from Between None (0 + 1) other else spans_from (reading_after Between b other) (statement_begin None (is_in_token Between b other) 0) (0 + 1) other) e
      ∙ ap (λ (c : Bool). spans_from (reading_after Between b other) (statement_begin None c 0) 1 other) (sym (in_token-alike Between b rest other a) ∙ h)
      ∙ ap (λ (n : Reading). spans_from n (Some 0) 1 other) (sym (reading-alike Between b rest other a));
}
runs-begin script done InComment at b rest p e h = absurd (cc)
runs-begin script done _ at b rest p e h = let shut = p.shut in absurd (cc)

runs-on : (script done read : List ℕ) (r : Reading) (from at : ℕ) (b : ℕ) (rest : List ℕ) → Runs script done read r from at (b ∷ rest) → ends_statement r b ≡ false → Runs script done (read ++ b ∷ []) (reading_after r b rest) from (at + 1) rest
runs-on script done read r from at b rest p e = record {
  cut = p.cut ∙ ap (λ l. done ++ l) (sym (append_assoc read (b ∷ []) rest));
  begin = p.begin;
  place = omega (arith, p.place, length-append read (b ∷ []));
  alone = λ other a.
      let longer : length read + 1 ≡ length (read ++ b ∷ []) = omega (arith, length-append read (b ∷ [])) in
      ap (spans_from Between None 0) (append_assoc read (b ∷ []) other)
      ∙ p.alone (b ∷ other) (λ test h. refl)
      ∙ ap (λ (c : Bool). if c then span_begun (Some 0) (length read) ++ spans_from Between None (length read + 1) other else spans_from (reading_after r b other) (Some 0) (length read + 1) other) e
      ∙ ap (λ (n : Reading). spans_from n (Some 0) (length read + 1) other) (sym (reading-alike r b rest other a))
      ∙ ap (λ n. spans_from (reading_after r b rest) (Some 0) n other) longer;
}

waits-on : (script done : List ℕ) (r : Reading) (at : ℕ) (b : ℕ) (rest : List ℕ) → Waits script done r at (b ∷ rest) → is_in_token r b rest ≡ false → Waits script (done ++ b ∷ []) (reading_after r b rest) (at + 1) rest
waits-on script done r at b rest p h = record {
  cut = p.cut ∙ sym (append_assoc done (b ∷ []) rest);
  place = omega (arith, p.place, length-append done (b ∷ []));
  shut = outside-closed r b rest h;
}

-- behind a `;`
waits-anew : (script done : List ℕ) (at : ℕ) (b : ℕ) (rest : List ℕ) → script ≡ done ++ (b ∷ rest) → at ≡ length done → Waits script (done ++ b ∷ []) Between (at + 1) rest
waits-anew script done at b rest cut place = record {
  cut = cut ∙ sym (append_assoc done (b ∷ []) rest);
  place = omega (arith, place, length-append done (b ∷ []));
  shut = refl;
}

-- where the splitting of a script stands
abbrev Goes : List ℕ → List ℕ → List ℕ → Reading → Option ℕ → ℕ → List ℕ → Type 0
Goes script done read r None at rest = Waits script done r at rest
Goes script done read r (Some from) at rest = Runs script done read r from at rest

last-alone : (script done read : List ℕ) (r : Reading) (begun : Option ℕ) (at : ℕ) (rest : List ℕ) → Goes script done read r begun at rest → Alike rest [] → EachAlone script (span_begun begun at)
last-alone script done read r None at rest g a = tt
last-alone script done read r (Some from) at rest g a = (alone-end script done read r from at rest g a, tt)

waiting : (script : List ℕ) (r : Reading) (at : ℕ) (b : ℕ) (rest : List ℕ)
    → EachAlone script (spans_from Between None (at + 1) rest)
    → (is_in_token r b rest ≡ false → EachAlone script (spans_from (reading_after r b rest) None (at + 1) rest))
    → (ends_statement r b ≡ false → is_in_token r b rest ≡ true → EachAlone script (spans_from (reading_after r b rest) (Some at) (at + 1) rest))
    → EachAlone script (spans_from r None at (b ∷ rest))
waiting script r at b rest anew outside begin = go (ends_statement r b) (is_in_token r b rest) refl refl
  where
    go : (e t : Bool) → ends_statement r b ≡ e → is_in_token r b rest ≡ t → EachAlone script (if e then spans_from Between None (at + 1) rest else spans_from (reading_after r b rest) (statement_begin None t at) (at + 1) rest)
    go true t k h = anew
    go false false k h = outside h
    go false true k h = begin k h

running : (script : List ℕ) (r : Reading) (from at : ℕ) (b : ℕ) (rest : List ℕ)
    → (ends_statement r b ≡ true → EachAlone script (span_of from at ∷ spans_from Between None (at + 1) rest))
    → (ends_statement r b ≡ false → EachAlone script (spans_from (reading_after r b rest) (Some from) (at + 1) rest))
    → EachAlone script (spans_from r (Some from) at (b ∷ rest))
running script r from at b rest ended on = go (ends_statement r b) refl
  where
    go : (e : Bool) → ends_statement r b ≡ e → EachAlone script (if e then span_of from at ∷ spans_from Between None (at + 1) rest else spans_from (reading_after r b rest) (Some from) (at + 1) rest)
    go true k = ended k
    go false k = on k

each-alone : (script done read : List ℕ) (r : Reading) (begun : Option ℕ) (at : ℕ) (rest : List ℕ) → Goes script done read r begun at rest → EachAlone script (spans_from r begun at rest)
each-alone script done read r begun at [] g = last-alone script done read r begun at [] g (λ test h. refl)
each-alone script done read r None at (b ∷ rest) g =
    waiting script r at b rest
    (each-alone script (done ++ b ∷ []) [] Between None (at + 1) rest (waits-anew script done at b rest g.cut g.place))
    (λ h. each-alone script (done ++ b ∷ []) [] (reading_after r b rest) None (at + 1) rest (waits-on script done r at b rest g h))
    (λ e h. each-alone script done (b ∷ []) (reading_after r b rest) (Some at) (at + 1) rest (runs-begin script done r at b rest g e h))
each-alone script done read r (Some from) at (b ∷ rest) g =
    running script r from at b rest
    (λ e. (
      alone-end script done read r from at (b ∷ rest) g (end-alike b rest (ends-byte r b e)),
      each-alone script (done ++ read ++ b ∷ []) [] Between None (at + 1) rest
          (waits-anew script (done ++ read) at b rest (g.cut ∙ sym (append_assoc done read (b ∷ rest))) (omega (arith, g.place, length-append done read))),
    ))
    (λ e. each-alone script done (read ++ b ∷ []) (reading_after r b rest) (Some from) (at + 1) rest (runs-on script done read r from at b rest g e))

all-alone : (script : List ℕ) (ss : List Span) → EachAlone script ss → All IsOneStatement (map (bytes_of script) ss)
all-alone script [] h = All-nil IsOneStatement
all-alone script (s ∷ ss) h = All-cons IsOneStatement (bytes_of script s) (map (bytes_of script) ss) h.0 (all-alone script ss h.1)

pub statements_of-alone : (script : List ℕ) → All IsOneStatement (statements_of script)
statements_of-alone script =
    all-alone script (spans_of script)
    (each-alone script [] [] Between None 0 script (record { cut = refl; place = refl; shut = refl }))

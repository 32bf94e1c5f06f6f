-- The tokens of a text stand in it in order, and between them stand blanks and comments alone.
use Rattle.std.proofs.Common.{◌≡◌, ◌+◌, ◌-◌, ◌<◌, ℕ, List, [], ◌∷◌, ◌++◌, length, take, drop, Bool, true, false, not, ◌&&◌, ◌||◌, ◌==◌, refl, sym, ap, ◌∙◌, subst, arith, append_assoc, append-nil, add-zero, length-append}
use Rattle.std.specs.Prelude.{if◌then◌else◌, slice_range}
use Rattle.std.proofs.Math.Seq.{drop-append_seam, take-append_seam}
use Rattle.sql_lexer.specs.Bytes.{is_blank, begins, begins_comment}
use Rattle.sql_lexer.specs.Kinds.{kind_of}
use Rattle.sql_lexer.specs.Order.{is_blank_text, HasTokens}
use Rattle.sql_lexer.specs.Reading.{reading_begun, reading_after, is_in_token, is_between, is_open}
use Rattle.sql_lexer.specs.Tokens.{span_of, token_of, token_begin, token_where, tokens_from, tokens_of}
use Rattle.sql_lexer.specs.declared.reading.Reading.{Reading}
use Rattle.sql_lexer.specs.declared.reading.Reading.TheVariants.{Between, InComment}
use Rattle.sql_lexer.specs.declared.token.Token.{Token}
use Rattle.sql_lexer.proofs.ReadingLemmas.{outside-closed, inside-clear, between-is}

-- the bytes of a part of a text
part_of : (front part back : List ℕ) → slice_range (front ++ (part ++ back)) (length front) (length front + length part) ≡ part
part_of front part back =
    let size : length front + length part - length front ≡ length part = omega arith in
    ap (λ n. take n (drop (length front) (front ++ (part ++ back)))) size
    ∙ ap (take (length part)) (drop-append_seam front (part ++ back)) ∙ take-append_seam part back

pub part_at : (whole front part back : List ℕ) (from to : ℕ) → whole ≡ front ++ (part ++ back) → from ≡ length front → to ≡ length front + length part → slice_range whole from to ≡ part
part_at whole front part back from to e f t =
    ap (λ w. slice_range w from to) e ∙ ap (λ n. slice_range (front ++ (part ++ back)) n to) f
    ∙ ap (slice_range (front ++ (part ++ back)) (length front)) t ∙ part_of front part back

-- what is left of a gap, and the token behind it; a gap in a comment begins with the text's first byte
record First (comment : Bool) (at : ℕ) (text : List ℕ) (t : Token) (rest : List ℕ) : Type 0 where
  gap : List ℕ
  spelling : List ℕ
  cut : text ≡ gap ++ (spelling ++ rest)
  blank : is_blank_text comment gap ≡ true
  some : 0 < length spelling
  span : t.span ≡ span_of (at + length gap) (at + length gap + length spelling)
  kind : t.kind ≡ kind_of spelling
  head : comment ≡ true → (test : ℕ → Bool) → begins test gap ≡ begins test text

abbrev Outside : Bool → ℕ → List ℕ → List Token → Type 0
Outside comment at text [] = is_blank_text comment text ≡ true
Outside comment at text (t ∷ ts) = (rest : List ℕ) × (First comment at text t rest × HasTokens t.span.to rest ts)

-- what is left of a token that began at `from` and is spelled so far
record More (from : ℕ) (spelled : List ℕ) (at : ℕ) (text : List ℕ) (t : Token) (rest : List ℕ) : Type 0 where
  more : List ℕ
  cut : text ≡ more ++ rest
  some : 0 < length (spelled ++ more)
  span : t.span ≡ span_of from (at + length more)
  kind : t.kind ≡ kind_of (spelled ++ more)

abbrev Inside : ℕ → List ℕ → ℕ → List ℕ → List Token → Type 0
Inside from spelled at text [] = ⊥
Inside from spelled at text (t ∷ ts) = (rest : List ℕ) × (More from spelled at text t rest × HasTokens t.span.to rest ts)

abbrev is_comment : Reading → Bool
is_comment InComment = true
is_comment _ = false

abbrev Reads : Reading → ℕ → List ℕ → ℕ → List ℕ → List Token → Type 0
Reads Between from spelled at text ts = Outside false at text ts
Reads InComment from spelled at text ts = Outside true at text ts
Reads _ from spelled at text ts = Inside from spelled at text ts

reads-inside : (r : Reading) (from : ℕ) (spelled : List ℕ) (at : ℕ) (text : List ℕ) (ts : List Token) → is_open r ≡ true → Reads r from spelled at text ts → Inside from spelled at text ts
reads-inside Between from spelled at text ts o h = absurd (cc)
reads-inside InComment from spelled at text ts o h = absurd (cc)
reads-inside _ from spelled at text ts o h = h

reads-outside : (r : Reading) (from : ℕ) (spelled : List ℕ) (at : ℕ) (text : List ℕ) (ts : List Token) → is_open r ≡ false → Reads r from spelled at text ts → Outside (is_comment r) at text ts
reads-outside Between from spelled at text ts o h = h
reads-outside InComment from spelled at text ts o h = h
reads-outside _ from spelled at text ts o h = absurd (cc)

outside-has : (at : ℕ) (text : List ℕ) (ts : List Token) → Outside false at text ts → HasTokens at text ts
outside-has at text [] h = h
outside-has at text (t ∷ ts) h =
    let f = h.1.0 in
    (h.0, (record { gap = f.gap; spelling = f.spelling; cut = f.cut; blank = f.blank; some = f.some; span = f.span; kind = f.kind }, h.1.1))

-- a gap goes on with one byte in front
gap-longer : (comment after : Bool) (b at : ℕ) (text : List ℕ) (ts : List Token) → ((gap : List ℕ) → (after ≡ true → (test : ℕ → Bool) → begins test gap ≡ begins test text) → is_blank_text after gap ≡ true → is_blank_text comment (b ∷ gap) ≡ true) → Outside after (at + 1) text ts → Outside comment at (b ∷ text) ts
gap-longer comment after b at text [] blank h = blank text (λ _ _. refl) h
gap-longer comment after b at text (t ∷ ts) blank h =
    let f = h.1.0 in
    let moved : at + 1 + length f.gap ≡ at + length (b ∷ f.gap) = omega arith in
    (h.0, (record { gap = b ∷ f.gap; spelling = f.spelling; cut = ap (λ l. b ∷ l) f.cut; blank = blank f.gap f.head f.blank; some = f.some; span = f.span ∙ ap (λ n. span_of n (n + length f.spelling)) moved; kind = f.kind; head = λ _ _. refl }, h.1.1))

or_right : (x y : Bool) → y ≡ true → (x || y) ≡ true
or_right true y h = refl
or_right false y h = h

gap-blank : (b at : ℕ) (text : List ℕ) (ts : List Token) → is_blank b ≡ true → Outside false (at + 1) text ts → Outside false at (b ∷ text) ts
gap-blank b at text ts e h =
    gap-longer false false b at text ts
    (λ gap head k. ap (λ x. (x && is_blank_text false gap) || (begins_comment b gap && is_blank_text true gap)) e ∙ ap (λ x. x || (begins_comment b gap && is_blank_text true gap)) k)
    h

gap-comment : (b at : ℕ) (text : List ℕ) (ts : List Token) → begins_comment b text ≡ true → Outside true (at + 1) text ts → Outside false at (b ∷ text) ts
gap-comment b at text ts e h =
    gap-longer false true b at text ts
    (λ gap head k.
    let starts : begins_comment b gap ≡ true = ap (λ x. (b == 45) && x) (head refl (λ c. c == 45)) ∙ e in
    or_right (is_blank b && is_blank_text false gap) (begins_comment b gap && is_blank_text true gap)
    (ap (λ x. x && is_blank_text true gap) starts ∙ k))
    h

-- a token begins, with no gap before it
gap-none : (at : ℕ) (text : List ℕ) (ts : List Token) → Inside at [] at text ts → Outside false at text ts
gap-none at text [] h = absurd h
gap-none at text (t ∷ ts) h =
    let m = h.1.0 in
    let here : at + length m.more ≡ at + length {A = ℕ} [] + length m.more = omega arith in
    let start : at ≡ at + length {A = ℕ} [] = omega arith in
    (h.0, (record { gap = []; spelling = m.more; cut = m.cut; blank = refl; some = m.some; span = m.span ∙ ap (span_of at) here ∙ ap (λ n. span_of n (at + length {A = ℕ} [] + length m.more)) start; kind = m.kind; head = λ e. absurd (cc) }, h.1.1))

-- a token goes on with one byte more
token-longer : (from : ℕ) (spelled : List ℕ) (b at : ℕ) (text : List ℕ) (ts : List Token) → Inside from (spelled ++ b ∷ []) (at + 1) text ts → Inside from spelled at (b ∷ text) ts
token-longer from spelled b at text [] h = h
token-longer from spelled b at text (t ∷ ts) h =
    let m = h.1.0 in
    let same : (spelled ++ b ∷ []) ++ m.more ≡ spelled ++ (b ∷ m.more) = append_assoc spelled (b ∷ []) m.more in
    let moved : at + 1 + length m.more ≡ at + length (b ∷ m.more) = omega arith in
    (h.0, (record { more = b ∷ m.more; cut = ap (λ l. b ∷ l) m.cut; some = subst (λ (l : List ℕ). 0 < length l) same m.some; span = m.span ∙ ap (span_of from) moved; kind = m.kind ∙ ap kind_of same }, h.1.1))

-- where a reading stands in the whole text
record Stands (whole done spelled : List ℕ) (reading : Reading) (from at : ℕ) (text : List ℕ) : Type 0 where
  cut : whole ≡ done ++ (spelled ++ text)
  place : at ≡ length done + length spelled
  begin : is_open reading ≡ true → from ≡ length done
  some : is_open reading ≡ true → 0 < length spelled
  none : is_open reading ≡ false → spelled ≡ []

token_begin-stands : (whole done spelled : List ℕ) (reading : Reading) (from at : ℕ) (text : List ℕ) → Stands whole done spelled reading from at text → token_begin reading from at ≡ length done
token_begin-stands whole done spelled reading from at text p = go (is_open reading) refl
  where
    go : (o : Bool) → is_open reading ≡ o → (if o then from else at) ≡ length done
    go true e = p.begin e
    go false e = let empty : length spelled ≡ length {A = ℕ} [] = ap length (p.none e) in omega (arith, p.place)

-- behind one byte of a token that goes on
stands-on : (whole done spelled : List ℕ) (reading next : Reading) (from at : ℕ) (b : ℕ) (rest : List ℕ) → Stands whole done spelled reading from at (b ∷ rest) → is_open next ≡ true → Stands whole done (spelled ++ b ∷ []) next (token_begin reading from at) (at + 1) rest
stands-on whole done spelled reading next from at b rest p o = record {
  cut = p.cut ∙ ap (λ l. done ++ l) (sym (append_assoc spelled (b ∷ []) rest));
  place = omega (arith, p.place, length-append spelled (b ∷ []));
  begin = λ _. token_begin-stands whole done spelled reading from at (b ∷ rest) p;
  some = λ _. omega (arith, length-append spelled (b ∷ []));
  none = λ e. absurd (cc);
}

-- behind one byte at which no token is open
stands-off : (whole done spelled : List ℕ) (reading next : Reading) (from begin at : ℕ) (b : ℕ) (rest : List ℕ) → Stands whole done spelled reading from at (b ∷ rest) → is_open next ≡ false → Stands whole (done ++ (spelled ++ b ∷ [])) [] next begin (at + 1) rest
stands-off whole done spelled reading next from begin at b rest p o = record {
  cut = p.cut ∙ ap (λ l. done ++ l) (sym (append_assoc spelled (b ∷ []) rest)) ∙ sym (append_assoc done (spelled ++ b ∷ []) rest);
  place = omega (arith, p.place, length-append spelled (b ∷ []), length-append done (spelled ++ b ∷ []));
  begin = λ e. absurd (cc);
  some = λ e. absurd (cc);
  none = λ _. refl;
}

-- one byte of a token
token-byte : (whole done spelled : List ℕ) (reading : Reading) (from at : ℕ) (b : ℕ) (rest : List ℕ) → Stands whole done spelled reading from at (b ∷ rest) → is_in_token reading b rest ≡ true
    → (is_open (reading_after reading b rest) ≡ true → Inside (token_begin reading from at) (spelled ++ b ∷ []) (at + 1) rest (tokens_from whole (reading_after reading b rest) (token_begin reading from at) (at + 1) rest))
    → (is_open (reading_after reading b rest) ≡ false → Outside (is_comment (reading_after reading b rest)) (at + 1) rest (tokens_from whole (reading_after reading b rest) (token_begin reading from at) (at + 1) rest))
    → Inside (token_begin reading from at) spelled at (b ∷ rest) (tokens_from whole reading from at (b ∷ rest))
token-byte whole done spelled reading from at b rest p h on off =
    subst (λ (e : Bool). Inside begin spelled at (b ∷ rest) (token_where (e && is_between next) whole begin (at + 1) ++ tail)) (sym h) (go (is_between next) refl)
  where
    next : Reading
    next = reading_after reading b rest

    begin : ℕ
    begin = token_begin reading from at

    tail : List Token
    tail = tokens_from whole next begin (at + 1) rest

    go : (e : Bool) → is_between next ≡ e → Inside begin spelled at (b ∷ rest) (token_where e whole begin (at + 1) ++ tail)
    go true q =
        let is : next ≡ Between = between-is next q in
        let shut : is_open next ≡ false = ap is_open is in
        let clear : is_comment next ≡ false = ap is_comment is in
        let has : HasTokens (at + 1) rest tail = outside-has (at + 1) rest tail (subst (λ (c : Bool). Outside c (at + 1) rest tail) clear (off shut)) in
        let cut : whole ≡ done ++ ((spelled ++ b ∷ []) ++ rest) = p.cut ∙ ap (λ l. done ++ l) (sym (append_assoc spelled (b ∷ []) rest)) in
        let part : slice_range whole begin (at + 1) ≡ spelled ++ b ∷ [] =
        part_at whole done (spelled ++ b ∷ []) rest begin (at + 1) cut
        (token_begin-stands whole done spelled reading from at (b ∷ rest) p)
        (omega (arith, p.place, length-append spelled (b ∷ []))) in
        (rest, (record { more = b ∷ []; cut = refl; some = omega (arith, length-append spelled (b ∷ [])); span = refl; kind = ap kind_of part }, has))
    go false q =
        let open_next : is_open next ≡ true = inside-clear reading b rest h ∙ ap not q in
        token-longer begin spelled b at rest tail (on open_next)

-- one byte of no token adds none
outside-byte : (whole : List ℕ) (reading : Reading) (from at : ℕ) (b : ℕ) (rest : List ℕ) → is_in_token reading b rest ≡ false → tokens_from whole (reading_after reading b rest) (token_begin reading from at) (at + 1) rest ≡ tokens_from whole reading from at (b ∷ rest)
outside-byte whole reading from at b rest h =
    ap (λ (e : Bool). token_where (e && is_between (reading_after reading b rest)) whole (token_begin reading from at) (at + 1) ++ tokens_from whole (reading_after reading b rest) (token_begin reading from at) (at + 1) rest) (sym h)

-- one byte between tokens
between-byte : (whole done spelled : List ℕ) (from at : ℕ) (b : ℕ) (rest : List ℕ) → Stands whole done spelled Between from at (b ∷ rest)
    → (is_open (reading_after Between b rest) ≡ true → Inside at (spelled ++ b ∷ []) (at + 1) rest (tokens_from whole (reading_after Between b rest) at (at + 1) rest))
    → (is_open (reading_after Between b rest) ≡ false → Outside (is_comment (reading_after Between b rest)) (at + 1) rest (tokens_from whole (reading_after Between b rest) at (at + 1) rest))
    → Outside false at (b ∷ rest) (tokens_from whole Between from at (b ∷ rest))
between-byte whole done spelled from at b rest p on off = go (is_blank b) (begins_comment b rest) refl refl
  where
    next : Reading
    next = reading_after Between b rest

    tail : List Token
    tail = tokens_from whole next at (at + 1) rest

    go : (blank comment : Bool) → is_blank b ≡ blank → begins_comment b rest ≡ comment → Outside false at (b ∷ rest) (tokens_from whole Between from at (b ∷ rest))
    go true comment k c =
        let out : is_in_token Between b rest ≡ false = ap (λ x. not (x || begins_comment b rest)) k in
        let clear : is_comment next ≡ false = ap (λ x. is_comment (if x then Between else if begins_comment b rest then InComment else reading_begun b rest)) k in
        subst (λ (ts : List Token). Outside false at (b ∷ rest) ts) (outside-byte whole Between from at b rest out)
        (gap-blank b at rest tail k (subst (λ (x : Bool). Outside x (at + 1) rest tail) clear (off (outside-closed Between b rest out))))
    go false true k c =
        let out : is_in_token Between b rest ≡ false = ap (λ x. not (x || begins_comment b rest)) k ∙ ap not c in
        let begun : is_comment next ≡ true =
        ap (λ x. is_comment (if x then Between else if begins_comment b rest then InComment else reading_begun b rest)) k
        ∙ ap (λ x. is_comment (if x then InComment else reading_begun b rest)) c in
        subst (λ (ts : List Token). Outside false at (b ∷ rest) ts) (outside-byte whole Between from at b rest out)
        (gap-comment b at rest tail c (subst (λ (x : Bool). Outside x (at + 1) rest tail) begun (off (outside-closed Between b rest out))))
    go false false k c =
        let within : is_in_token Between b rest ≡ true = ap (λ x. not (x || begins_comment b rest)) k ∙ ap not c in
        let empty : spelled ≡ [] = p.none refl in
        gap-none at (b ∷ rest) (tokens_from whole Between from at (b ∷ rest))
        (subst (λ (l : List ℕ). Inside at l at (b ∷ rest) (tokens_from whole Between from at (b ∷ rest))) empty
        (token-byte whole done spelled Between from at b rest p within on off))

-- one byte of a comment
comment-byte : (whole : List ℕ) (from at : ℕ) (b : ℕ) (rest : List ℕ)
    → (is_open (reading_after InComment b rest) ≡ false → Outside (is_comment (reading_after InComment b rest)) (at + 1) rest (tokens_from whole (reading_after InComment b rest) at (at + 1) rest))
    → Outside true at (b ∷ rest) (tokens_from whole InComment from at (b ∷ rest))
comment-byte whole from at b rest off =
    gap-longer true (not (b == 10)) b at rest tail (λ gap head k. k)
    (subst (λ (x : Bool). Outside x (at + 1) rest tail) (ends (b == 10)) (off (outside-closed InComment b rest refl)))
  where
    tail : List Token
    tail = tokens_from whole (reading_after InComment b rest) at (at + 1) rest

    ends : (e : Bool) → is_comment (if e then Between else InComment) ≡ not e
    ends true = refl
    ends false = refl

end-inside : (whole done spelled : List ℕ) (from at : ℕ) → whole ≡ done ++ (spelled ++ []) → from ≡ length done → at ≡ length done + length spelled → 0 < length spelled → Inside from spelled at [] (token_of whole from at ∷ [])
end-inside whole done spelled from at cut begin place some =
    let whole_token : spelled ++ [] ≡ spelled = append-nil spelled in
    ([], (record { more = []; cut = refl; some = subst (λ (l : List ℕ). 0 < length l) (sym whole_token) some; span = ap (span_of from) (sym (add-zero at)); kind = ap kind_of (part_at whole done spelled [] from at cut begin place ∙ sym whole_token) }, refl))

reads : (whole done spelled : List ℕ) (reading : Reading) (from at : ℕ) (text : List ℕ) → Stands whole done spelled reading from at text → Reads reading from spelled at text (tokens_from whole reading from at text)
reads whole done spelled Between from at [] p = refl
reads whole done spelled InComment from at [] p = refl
reads whole done spelled _ from at [] p = end-inside whole done spelled from at p.cut (p.begin refl) p.place (p.some refl)
reads whole done spelled Between from at (b ∷ rest) p =
    between-byte whole done spelled from at b rest p
    (λ o. reads-inside (reading_after Between b rest) at (spelled ++ b ∷ []) (at + 1) rest _ o
    (reads whole done (spelled ++ b ∷ []) (reading_after Between b rest) at (at + 1) rest (stands-on whole done spelled Between (reading_after Between b rest) from at b rest p o)))
    (λ o. reads-outside (reading_after Between b rest) at [] (at + 1) rest _ o
    (reads whole (done ++ (spelled ++ b ∷ [])) [] (reading_after Between b rest) at (at + 1) rest (stands-off whole done spelled Between (reading_after Between b rest) from at at b rest p o)))
reads whole done spelled InComment from at (b ∷ rest) p =
    comment-byte whole from at b rest
    (λ o. reads-outside (reading_after InComment b rest) at [] (at + 1) rest _ o
    (reads whole (done ++ (spelled ++ b ∷ [])) [] (reading_after InComment b rest) at (at + 1) rest (stands-off whole done spelled InComment (reading_after InComment b rest) from at at b rest p o)))
reads whole done spelled reading from at (b ∷ rest) p =
    token-byte whole done spelled reading from at b rest p refl
    (λ o. reads-inside (reading_after reading b rest) from (spelled ++ b ∷ []) (at + 1) rest _ o
    (reads whole done (spelled ++ b ∷ []) (reading_after reading b rest) from (at + 1) rest (stands-on whole done spelled reading (reading_after reading b rest) from at b rest p o)))
    (λ o. reads-outside (reading_after reading b rest) from [] (at + 1) rest _ o
    (reads whole (done ++ (spelled ++ b ∷ [])) [] (reading_after reading b rest) from (at + 1) rest (stands-off whole done spelled reading (reading_after reading b rest) from from at b rest p o)))

pub tokens_of-cover : (text : List ℕ) → HasTokens 0 text (tokens_of text)
tokens_of-cover text =
    outside-has 0 text (tokens_of text)
    (reads text [] [] Between 0 0 text (record { cut = refl; place = refl; begin = λ e. absurd (cc); some = λ e. absurd (cc); none = λ _. refl }))

-- What a token's spelling says.
use Rattle.std.proofs.Common.{◌≡◌, ◌+◌, ◌<◌, ℕ, List, [], ◌∷◌, length, drop, get_or, Bool, true, false, refl, sym, ap, ◌∙◌, Option, Some, None, map}
use Rattle.std.specs.Prelude.{if◌then◌else◌, ◌==◌, ◌&&◌, nat_le}
use Rattle.std.specs.Str.{bytes_eq}
use Rattle.std.proofs.lemmas.List.{drop_more}
use Rattle.sql_lexer.specs.Bytes.{is_letter, is_digit, folded}
use Rattle.sql_lexer.specs.Kinds.{kind_of, name_of, number_of, number_from, text_of, quoted_of, unquoted, sign_of, sign_of_two, sign_spelled}
use Rattle.sql_lexer.specs.declared.token.TokenKind.{TokenKind}
use Rattle.sql_lexer.specs.declared.token.TokenKind.TheVariants.{Number, Quoted, Bad}
use Rattle.sql_forms.specs.Words.{is_word}
use Rattle.command_reader.specs.States.{spells_name}

-- one byte more of both
fold_next : (xs ys : List ℕ) (i : ℕ) → i < length xs → i < length ys
    → bytes_eq (map folded (drop i xs)) (drop i ys) ≡ ((folded (get_or xs i 0) == get_or ys i 0) && bytes_eq (map folded (drop (i + 1) xs)) (drop (i + 1) ys))
fold_next xs ys i h k =
    ap (λ zs. bytes_eq (map folded zs) (drop i ys)) (drop_more xs i 0 h) ∙ ap (λ zs. bytes_eq (map folded (get_or xs i 0 ∷ drop (i + 1) xs)) zs) (drop_more ys i 0 k)

pub fold_stops : (xs ys : List ℕ) (i : ℕ) → i < length xs → i < length ys → false ≡ (folded (get_or xs i 0) == get_or ys i 0)
    → bytes_eq (map folded (drop i xs)) (drop i ys) ≡ bytes_eq (map folded xs) ys → false ≡ bytes_eq (map folded xs) ys
fold_stops xs ys i h k differs same =
    sym (sym same ∙ fold_next xs ys i h k ∙ ap (λ b. b && bytes_eq (map folded (drop (i + 1) xs)) (drop (i + 1) ys)) (sym differs))

-- kinds that are no word
none_if : (w : List ℕ) (t : Bool) (x y : TokenKind) → is_word w x ≡ false → is_word w y ≡ false → is_word w (if t then x else y) ≡ false
none_if w true x y h k = h
none_if w false x y h k = k

no_text : (w : List ℕ) (t : Option (List ℕ)) → is_word w (text_of t) ≡ false
no_text w None = refl
no_text w (Some t) = refl

no_quoted : (w : List ℕ) (t : Option (List ℕ)) → is_word w (quoted_of t) ≡ false
no_quoted w None = refl
no_quoted w (Some t) = none_if w (nat_le 1 (length t) && nat_le (length t) 128) (Quoted t) Bad refl refl

no_sign : (w : List ℕ) (b : ℕ) → is_word w (sign_of b) ≡ false
no_sign w b =
    none_if w (b == 40) _ _ refl (none_if w (b == 41) _ _ refl (none_if w (b == 44) _ _ refl (none_if w (b == 46) _ _ refl
    (none_if w (b == 42) _ _ refl (none_if w (b == 43) _ _ refl (none_if w (b == 45) _ _ refl (none_if w (b == 47) _ _ refl
    (none_if w (b == 61) _ _ refl (none_if w (b == 60) _ _ refl (none_if w (b == 62) _ _ refl refl))))))))))

no_pair : (w : List ℕ) (b c : ℕ) → is_word w (sign_of_two b c) ≡ false
no_pair w b c =
    none_if w ((b == 60) && (c == 62)) _ _ refl (none_if w ((b == 33) && (c == 61)) _ _ refl
    (none_if w ((b == 60) && (c == 61)) _ _ refl (none_if w ((b == 62) && (c == 61)) _ _ refl refl)))

no_spelled : (w : List ℕ) (b : ℕ) (rest : List ℕ) → is_word w (sign_spelled b rest) ≡ false
no_spelled w b [] = no_sign w b
no_spelled w b (c ∷ cs) = no_pair w b c

-- a name is a word where its bytes are
named : (w name : List ℕ) (letter short : Bool) (x y other : TokenKind) (same : Bool) → is_word w x ≡ same → is_word w y ≡ false → is_word w other ≡ false
    → is_word w (if letter then (if short then x else y) else other) ≡ ((letter && short) && same)
named w name true true x y other same h k l = h
named w name true false x y other same h k l = k
named w name false short x y other same h k l = l

word_of : (w token : List ℕ) → is_word w (kind_of token) ≡ (spells_name token && bytes_eq (map folded token) w)
word_of w [] = refl
word_of w (b ∷ rest) =
    named w (b ∷ rest) (is_letter b) (nat_le (length (b ∷ rest)) 128) _ _ _ (bytes_eq (map folded (b ∷ rest)) w) refl refl
    (none_if w (is_digit b) _ _ (none_if w (nat_le (number_from 0 (b ∷ rest)) 9223372036854775808) (Number (number_from 0 (b ∷ rest))) Bad refl refl)
    (none_if w (b == 39) _ _ (no_text w (unquoted 39 false rest)) (none_if w (b == 34) _ _ (no_quoted w (unquoted 34 false rest)) (no_spelled w b rest))))

pub word_found : (w token : List ℕ) (name same found : Bool) → name ≡ spells_name token → same ≡ bytes_eq (map folded token) w → found ≡ (name && same) → found ≡ is_word w (kind_of token)
word_found w token name same found h k l = l ∙ ap (λ b. b && same) h ∙ ap (λ b. spells_name token && b) k ∙ sym (word_of w token)

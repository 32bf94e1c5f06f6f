-- A word is looked for among the reserved words of its own length alone.
use Rattle.std.proofs.Common.{◌≡◌, ◌≢◌, ℕ, ◌==◌, List, [], ◌∷◌, ◌++◌, length, Bool, true, false, ◌||◌, ◌∙◌, sym, ap, refl, arith}
use Rattle.std.specs.List.{list_any, list_all}
use Rattle.std.specs.Str.{bytes_eq}
use Rattle.std.proofs.Math.Bool.{or-false}
use Rattle.std.proofs.lemmas.Bool.{and_parts}
use Rattle.std.proofs.lemmas.Bool.Decides.{nat_tests}
use Rattle.std.proofs.lemmas.List.Folds.{list_any-append}
use Rattle.std.proofs.lemmas.Slice.Eq.{bytes_eq-Decides}
use Rattle.sql_lexer.specs.Reserved.{is_reserved_word, words_of_two, words_of_three, words_of_four, words_of_five, words_of_six, words_of_seven, words_of_eight}

abbrev among : List ℕ → List (List ℕ) → Bool
among word words = list_any (bytes_eq word) words

-- a text of another length is another text
bytes_eq-other : (word w : List ℕ) (n : ℕ) → length word ≢ n → (length w == n) ≡ true → bytes_eq word w ≡ false
bytes_eq-other word w n ne h = go (bytes_eq word w) refl
  where
    go : (b : Bool) → bytes_eq word w ≡ b → b ≡ false
    go false e = refl
    go true e =
        let same : word ≡ w = (bytes_eq-Decides word w).0 e in
        let len : length word ≡ length w = ap length same in grind (arith, nat_tests)

-- a word is none of those of another length
among-other : (word : List ℕ) (words : List (List ℕ)) (n : ℕ) → length word ≢ n → list_all (λ w. length w == n) words ≡ true → among word words ≡ false
among-other word [] n ne h = refl
among-other word (w ∷ ws) n ne h =
    let parts : ((length w == n) ≡ true) × (list_all (λ v. length v == n) ws ≡ true) = and_parts _ _ h in
    let first : bytes_eq word w ≡ false = bytes_eq-other word w n ne parts.0 in
    rw first (among-other word ws n ne parts.1)

among-groups : (word : List ℕ) (a b c d e f g : List (List ℕ)) → among word (a ++ b ++ c ++ d ++ e ++ f ++ g) ≡ (among word a || among word b || among word c || among word d || among word e || among word f || among word g)
among-groups word a b c d e f g = simp list_any-append

is_reserved_word-groups : (word : List ℕ) → is_reserved_word word ≡ (among word words_of_two || among word words_of_three || among word words_of_four || among word words_of_five || among word words_of_six || among word words_of_seven || among word words_of_eight)
unfolding is_reserved_word
is_reserved_word-groups word = among-groups word words_of_two words_of_three words_of_four words_of_five words_of_six words_of_seven words_of_eight

-- no word of another length is reserved
pub is_reserved_word-none : (word : List ℕ) → length word ≢ 2 → length word ≢ 3 → length word ≢ 4 → length word ≢ 5 → length word ≢ 6 → length word ≢ 7 → length word ≢ 8 → false ≡ is_reserved_word word
is_reserved_word-none word a b c d e f g =
    let h2 = among-other word words_of_two 2 a refl in
    let h3 = among-other word words_of_three 3 b refl in
    let h4 = among-other word words_of_four 4 c refl in
    let h5 = among-other word words_of_five 5 d refl in
    let h6 = among-other word words_of_six 6 e refl in
    let h7 = among-other word words_of_seven 7 f refl in
    let h8 = among-other word words_of_eight 8 g refl in
    sym (is_reserved_word-groups word ∙ none _ _ _ _ _ _ _ h2 h3 h4 h5 h6 h7 h8)
  where
    none : (a b c d e f g : Bool) → a ≡ false → b ≡ false → c ≡ false → d ≡ false → e ≡ false → f ≡ false → g ≡ false → (a || b || c || d || e || f || g) ≡ false
    none a b c d e f g ha hb hc hd he hf hg = rw (ha, hb, hc, hd, he, hf, hg) refl

only_two : (a b c d e f g : Bool) → b ≡ false → c ≡ false → d ≡ false → e ≡ false → f ≡ false → g ≡ false → (a || b || c || d || e || f || g) ≡ a
only_two a b c d e f g hb hc hd he hf hg = rw (hb, hc, hd, he, hf, hg) (simp or-false)

pub is_reserved_word-two : (word : List ℕ) → length word ≡ 2 → among word words_of_two ≡ is_reserved_word word
is_reserved_word-two word h =
    sym (is_reserved_word-groups word ∙ only_two _ _ _ _ _ _ _
    (among-other word words_of_three 3 (omega arith) refl)
    (among-other word words_of_four 4 (omega arith) refl)
    (among-other word words_of_five 5 (omega arith) refl)
    (among-other word words_of_six 6 (omega arith) refl)
    (among-other word words_of_seven 7 (omega arith) refl)
    (among-other word words_of_eight 8 (omega arith) refl))

only_three : (a b c d e f g : Bool) → a ≡ false → c ≡ false → d ≡ false → e ≡ false → f ≡ false → g ≡ false → (a || b || c || d || e || f || g) ≡ b
only_three a b c d e f g ha hc hd he hf hg = rw (ha, hc, hd, he, hf, hg) (simp or-false)

pub is_reserved_word-three : (word : List ℕ) → length word ≡ 3 → among word words_of_three ≡ is_reserved_word word
is_reserved_word-three word h =
    sym (is_reserved_word-groups word ∙ only_three _ _ _ _ _ _ _
    (among-other word words_of_two 2 (omega arith) refl)
    (among-other word words_of_four 4 (omega arith) refl)
    (among-other word words_of_five 5 (omega arith) refl)
    (among-other word words_of_six 6 (omega arith) refl)
    (among-other word words_of_seven 7 (omega arith) refl)
    (among-other word words_of_eight 8 (omega arith) refl))

only_four : (a b c d e f g : Bool) → a ≡ false → b ≡ false → d ≡ false → e ≡ false → f ≡ false → g ≡ false → (a || b || c || d || e || f || g) ≡ c
only_four a b c d e f g ha hb hd he hf hg = rw (ha, hb, hd, he, hf, hg) (simp or-false)

pub is_reserved_word-four : (word : List ℕ) → length word ≡ 4 → among word words_of_four ≡ is_reserved_word word
is_reserved_word-four word h =
    sym (is_reserved_word-groups word ∙ only_four _ _ _ _ _ _ _
    (among-other word words_of_two 2 (omega arith) refl)
    (among-other word words_of_three 3 (omega arith) refl)
    (among-other word words_of_five 5 (omega arith) refl)
    (among-other word words_of_six 6 (omega arith) refl)
    (among-other word words_of_seven 7 (omega arith) refl)
    (among-other word words_of_eight 8 (omega arith) refl))

only_five : (a b c d e f g : Bool) → a ≡ false → b ≡ false → c ≡ false → e ≡ false → f ≡ false → g ≡ false → (a || b || c || d || e || f || g) ≡ d
only_five a b c d e f g ha hb hc he hf hg = rw (ha, hb, hc, he, hf, hg) (simp or-false)

pub is_reserved_word-five : (word : List ℕ) → length word ≡ 5 → among word words_of_five ≡ is_reserved_word word
is_reserved_word-five word h =
    sym (is_reserved_word-groups word ∙ only_five _ _ _ _ _ _ _
    (among-other word words_of_two 2 (omega arith) refl)
    (among-other word words_of_three 3 (omega arith) refl)
    (among-other word words_of_four 4 (omega arith) refl)
    (among-other word words_of_six 6 (omega arith) refl)
    (among-other word words_of_seven 7 (omega arith) refl)
    (among-other word words_of_eight 8 (omega arith) refl))

only_six : (a b c d e f g : Bool) → a ≡ false → b ≡ false → c ≡ false → d ≡ false → f ≡ false → g ≡ false → (a || b || c || d || e || f || g) ≡ e
only_six a b c d e f g ha hb hc hd hf hg = rw (ha, hb, hc, hd, hf, hg) (simp or-false)

pub is_reserved_word-six : (word : List ℕ) → length word ≡ 6 → among word words_of_six ≡ is_reserved_word word
is_reserved_word-six word h =
    sym (is_reserved_word-groups word ∙ only_six _ _ _ _ _ _ _
    (among-other word words_of_two 2 (omega arith) refl)
    (among-other word words_of_three 3 (omega arith) refl)
    (among-other word words_of_four 4 (omega arith) refl)
    (among-other word words_of_five 5 (omega arith) refl)
    (among-other word words_of_seven 7 (omega arith) refl)
    (among-other word words_of_eight 8 (omega arith) refl))

only_seven : (a b c d e f g : Bool) → a ≡ false → b ≡ false → c ≡ false → d ≡ false → e ≡ false → g ≡ false → (a || b || c || d || e || f || g) ≡ f
only_seven a b c d e f g ha hb hc hd he hg = rw (ha, hb, hc, hd, he, hg) (simp or-false)

pub is_reserved_word-seven : (word : List ℕ) → length word ≡ 7 → among word words_of_seven ≡ is_reserved_word word
is_reserved_word-seven word h =
    sym (is_reserved_word-groups word ∙ only_seven _ _ _ _ _ _ _
    (among-other word words_of_two 2 (omega arith) refl)
    (among-other word words_of_three 3 (omega arith) refl)
    (among-other word words_of_four 4 (omega arith) refl)
    (among-other word words_of_five 5 (omega arith) refl)
    (among-other word words_of_six 6 (omega arith) refl)
    (among-other word words_of_eight 8 (omega arith) refl))

only_eight : (a b c d e f g : Bool) → a ≡ false → b ≡ false → c ≡ false → d ≡ false → e ≡ false → f ≡ false → (a || b || c || d || e || f || g) ≡ g
only_eight a b c d e f g ha hb hc hd he hf = rw (ha, hb, hc, hd, he, hf) refl

pub is_reserved_word-eight : (word : List ℕ) → length word ≡ 8 → among word words_of_eight ≡ is_reserved_word word
is_reserved_word-eight word h =
    sym (is_reserved_word-groups word ∙ only_eight _ _ _ _ _ _ _
    (among-other word words_of_two 2 (omega arith) refl)
    (among-other word words_of_three 3 (omega arith) refl)
    (among-other word words_of_four 4 (omega arith) refl)
    (among-other word words_of_five 5 (omega arith) refl)
    (among-other word words_of_six 6 (omega arith) refl)
    (among-other word words_of_seven 7 (omega arith) refl))

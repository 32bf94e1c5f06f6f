-- The order of bytes is the order of code points.
use Rattle.std.proofs.Common.{◌≡◌, ℕ, suc, ◌-◌, List, [], ◌∷◌, ◌++◌, length, true, refl, sym, ap, ◌∙◌, arith, chars}
use Rattle.std.specs.Prelude.{replicate}
use Rattle.std.specs.Ordering.{nat_cmp, ordering_then}
use Rattle.std.specs.Cmp.Lexicographic.{slice_cmp}
use Rattle.std.specs.Str.{IsUtf8}
use Rattle.std.proofs.lemmas.Str.{encode_ascii, encodes-chars, scalars-chars}
use Rattle.std.proofs.str.Laws.{both}
use lib.Utf8.{encode, encodes, scalar, scalars}
use Rattle.value_compare.specs.Text.{text_cmp}
use Rattle.text_order.specs.CodePoints.{padded, code_points_cmp, FollowsCodePoints}
use Rattle.text_order.proofs.CharLemmas.{char-first}

-- a blank past the end may stand there
blank-left : (t : List ℕ) → text_cmp (32 ∷ []) t ≡ text_cmp [] t
blank-left [] = refl
blank-left (b ∷ t) = refl

blank-right : (t : List ℕ) → text_cmp t (32 ∷ []) ≡ text_cmp t []
blank-right [] = refl
blank-right (b ∷ t) = refl

blank-char : encode 32 ≡ 32 ∷ []
blank-char = encode_ascii 32 (omega arith)

-- nothing against a text that begins with a character
none-first : (d : ℕ) (ys : List ℕ) → scalar d ≡ true → text_cmp [] (encode d ++ ys) ≡ ordering_then (nat_cmp 32 d) (text_cmp [] ys)
none-first d ys s = sym (blank-left (encode d ++ ys)) ∙ ap (λ l. text_cmp (l ++ []) (encode d ++ ys)) (sym blank-char) ∙ char-first 32 d [] ys refl s

none-second : (c : ℕ) (xs : List ℕ) → scalar c ≡ true → text_cmp (encode c ++ xs) [] ≡ ordering_then (nat_cmp c 32) (text_cmp xs [])
none-second c xs s = sym (blank-right (encode c ++ xs)) ∙ ap (λ l. text_cmp (encode c ++ xs) (l ++ [])) (sym blank-char) ∙ char-first c 32 xs [] s refl

-- the same recursion over bytes and over code points
text_cmp-spelt : (cs ds : List ℕ) → scalars cs ≡ true → scalars ds ≡ true → text_cmp (encodes cs) (encodes ds) ≡ text_cmp cs ds
text_cmp-spelt [] [] s t = refl
text_cmp-spelt [] (d ∷ ds) s t =
    let h = both (scalar d) (scalars ds) t in
    none-first d (encodes ds) h.0 ∙ ap (ordering_then (nat_cmp 32 d)) (text_cmp-spelt [] ds refl h.1)
text_cmp-spelt (c ∷ cs) [] s t =
    let h = both (scalar c) (scalars cs) s in
    none-second c (encodes cs) h.0 ∙ ap (ordering_then (nat_cmp c 32)) (text_cmp-spelt cs [] h.1 refl)
text_cmp-spelt (c ∷ cs) (d ∷ ds) s t =
    let h = both (scalar c) (scalars cs) s in
    let k = both (scalar d) (scalars ds) t in
    char-first c d (encodes cs) (encodes ds) h.0 k.0 ∙ ap (ordering_then (nat_cmp c d)) (text_cmp-spelt cs ds h.1 k.1)

-- one step of padding
padded-nothing : (n : ℕ) → padded (suc n) [] ≡ 32 ∷ padded n []
padded-nothing n = let e : suc n - 0 ≡ suc (n - 0) = omega arith in ap (λ k. replicate k 32) e

padded-longer : (c : ℕ) (cs : List ℕ) → padded 0 (c ∷ cs) ≡ c ∷ padded 0 cs
padded-longer c cs = let e : 0 - suc (length cs) ≡ 0 - length cs = omega arith in ap (λ k. c ∷ (cs ++ replicate k 32)) e

padded-first : (n c : ℕ) (cs : List ℕ) → padded (suc n) (c ∷ cs) ≡ c ∷ padded n cs
padded-first n c cs = let e : suc n - suc (length cs) ≡ n - length cs = omega arith in ap (λ k. c ∷ (cs ++ replicate k 32)) e

firsts : (x y : ℕ) (cs ds xs ys : List ℕ) → cs ≡ x ∷ xs → ds ≡ y ∷ ys → slice_cmp nat_cmp cs ds ≡ ordering_then (nat_cmp x y) (slice_cmp nat_cmp xs ys)
firsts x y cs ds xs ys e k = λ i. slice_cmp nat_cmp (e i) (k i)

-- that recursion is the order with the shorter list padded
text_cmp-padded : (cs ds : List ℕ) → text_cmp cs ds ≡ code_points_cmp cs ds
text_cmp-padded [] [] = refl
text_cmp-padded [] (d ∷ ds) =
    let n = length ds in
    ap (ordering_then (nat_cmp 32 d)) (text_cmp-padded [] ds)
    ∙ sym (firsts 32 d (padded (suc n) []) (padded 0 (d ∷ ds)) (padded n []) (padded 0 ds) (padded-nothing n) (padded-longer d ds))
text_cmp-padded (c ∷ cs) [] =
    let m = length cs in
    ap (ordering_then (nat_cmp c 32)) (text_cmp-padded cs [])
    ∙ sym (firsts c 32 (padded 0 (c ∷ cs)) (padded (suc m) []) (padded 0 cs) (padded m []) (padded-longer c cs) (padded-nothing m))
text_cmp-padded (c ∷ cs) (d ∷ ds) =
    let m = length cs in
    let n = length ds in
    ap (ordering_then (nat_cmp c d)) (text_cmp-padded cs ds)
    ∙ sym (firsts c d (padded (suc n) (c ∷ cs)) (padded (suc m) (d ∷ ds)) (padded n cs) (padded m ds) (padded-first n c cs) (padded-first m d ds))

pub text_cmp-follows : FollowsCodePoints text_cmp
text_cmp-follows cs ds s t = text_cmp-spelt cs ds s t ∙ text_cmp-padded cs ds

-- the same of the code points that a text spells
pub text_cmp_chars : (a b : List ℕ) → IsUtf8 a → IsUtf8 b → text_cmp a b ≡ code_points_cmp (chars a) (chars b)
text_cmp_chars a b u v =
    ap (λ x. text_cmp x b) (sym (encodes-chars a u)) ∙ ap (text_cmp (encodes (chars a))) (sym (encodes-chars b v))
    ∙ text_cmp-follows (chars a) (chars b) (scalars-chars a u) (scalars-chars b v)

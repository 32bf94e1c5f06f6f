-- A character before a text decides by its code point.
use Rattle.std.proofs.Common.{◌≡◌, ℕ, ◌+◌, ◌*◌, ◌<◌, ◌≤◌, List, [], ◌∷◌, ◌++◌, length, true, refl, sym, ap, ◌∙◌, arith, Ordering}
use Rattle.std.specs.Ordering.{nat_cmp, ordering_then, ordering_reverse, MatchOrdering}
use Rattle.std.specs.declared.cmp.Ordering.TheVariants.{Less, Equal, Greater}
use Rattle.std.specs.Cmp.{nat_cmp_is}
use Rattle.std.proofs.lemmas.Cmp.{nat_cmp_total, ranked, by_ranked, tied_itself}
use Rattle.std.proofs.str.Laws.{Follows, Shape, of1, of2, of3, of4, shape}
use Rattle.std.specs.Char.{len_utf8}
use Rattle.std.proofs.lemmas.Str.{length-encode}
use Rattle.std.proofs.lemmas.Bool.Decides.{nat_tests}
use lib.Utf8.{encode, scalar, scalar_cases}
use Rattle.value_compare.specs.Text.{text_cmp}
use Rattle.value_compare.proofs.OrderLemmas.{text_cmp_total}

-- the first byte decides
lower : (x y : ℕ) (xs ys : List ℕ) → x < y → text_cmp (x ∷ xs) (y ∷ ys) ≡ Less
lower x y xs ys h = ap (λ o. ordering_then o (text_cmp xs ys)) (sym (nat_cmp_is x y Less h))

-- or, where it is the same, what follows does
alike : (x y : ℕ) (xs ys : List ℕ) → x ≡ y → text_cmp (x ∷ xs) (y ∷ ys) ≡ text_cmp xs ys
alike x y xs ys e = ap (λ n. ordering_then (nat_cmp n y) (text_cmp xs ys)) e ∙ ap (λ o. ordering_then o (text_cmp xs ys)) (tied_itself nat_cmp_total y)

-- bytes below 192 after the first are the digits of a number to the base 64, and the greater number stands later
lower-two : (a b c d : ℕ) (xs ys : List ℕ) → Follows b → Follows d → a * 64 + b < c * 64 + d → text_cmp (a ∷ b ∷ xs) (c ∷ d ∷ ys) ≡ Less
lower-two a b c d xs ys p q h = by_ranked (a < c) (a ≡ c) (c < a) (nat_cmp a c) (ranked a c (nat_cmp a c) refl)
    (λ _ k. lower a c (b ∷ xs) (d ∷ ys) k)
    (λ _ k. alike a c (b ∷ xs) (d ∷ ys) k ∙ lower b d xs ys (omega (arith, k, h)))
    (λ _ k. absurd (omega (arith, k, h, p.0, p.1, q.0, q.1)))

lower-three : (a b u c d v : ℕ) (xs ys : List ℕ) → Follows b → Follows u → Follows d → Follows v → a * 4096 + b * 64 + u < c * 4096 + d * 64 + v → text_cmp (a ∷ b ∷ u ∷ xs) (c ∷ d ∷ v ∷ ys) ≡ Less
lower-three a b u c d v xs ys p p' q q' h = by_ranked (a < c) (a ≡ c) (c < a) (nat_cmp a c) (ranked a c (nat_cmp a c) refl)
    (λ _ k. lower a c (b ∷ u ∷ xs) (d ∷ v ∷ ys) k)
    (λ _ k. alike a c (b ∷ u ∷ xs) (d ∷ v ∷ ys) k ∙ lower-two b u d v xs ys p' q' (omega (arith, k, h)))
    (λ _ k. absurd (omega (arith, k, h, p.0, p.1, q.0, q.1, p'.0, p'.1, q'.0, q'.1)))

lower-four : (a b u m c d v n : ℕ) (xs ys : List ℕ) → Follows b → Follows u → Follows m → Follows d → Follows v → Follows n → a * 262144 + b * 4096 + u * 64 + m < c * 262144 + d * 4096 + v * 64 + n → text_cmp (a ∷ b ∷ u ∷ m ∷ xs) (c ∷ d ∷ v ∷ n ∷ ys) ≡ Less
lower-four a b u m c d v n xs ys p p' p'' q q' q'' h = by_ranked (a < c) (a ≡ c) (c < a) (nat_cmp a c) (ranked a c (nat_cmp a c) refl)
    (λ _ k. lower a c (b ∷ u ∷ m ∷ xs) (d ∷ v ∷ n ∷ ys) k)
    (λ _ k. alike a c (b ∷ u ∷ m ∷ xs) (d ∷ v ∷ n ∷ ys) k ∙ lower-three b u m d v n xs ys p' p'' q' q'' (omega (arith, k, h)))
    (λ _ k. absurd (omega (arith, k, h, p.0, p.1, q.0, q.1, p'.0, p'.1, q'.0, q'.1, p''.0, p''.1, q''.0, q''.1)))

-- the bytes of two characters in place of their code points
spelt : (c d : ℕ) (xs ys p q : List ℕ) → encode c ≡ p → encode d ≡ q → text_cmp (p ++ xs) (q ++ ys) ≡ Less → text_cmp (encode c ++ xs) (encode d ++ ys) ≡ Less
spelt c d xs ys p q e k h = ap (λ l. text_cmp (l ++ xs) (encode d ++ ys)) e ∙ ap (λ l. text_cmp (p ++ xs) (l ++ ys)) k ∙ h

-- a greater code point has no fewer bytes
widths : (c d : ℕ) → c < d → len_utf8 c ≤ len_utf8 d
widths c d h = grind (arith, nat_tests)

no-wider : (c d : ℕ) (p q : List ℕ) → encode c ≡ p → encode d ≡ q → c < d → length p ≤ length q
no-wider c d p q e k h = omega (arith, ap length e, ap length k, length-encode c, length-encode d, widths c d h)

-- the lower code point stands first
lower-char : (c d : ℕ) (xs ys : List ℕ) → Shape c → Shape d → c < d → text_cmp (encode c ++ xs) (encode d ++ ys) ≡ Less
lower-char c d xs ys (of1 h e) (of1 i k) l = spelt c d xs ys (c ∷ []) (d ∷ []) e k (lower c d xs ys l)
lower-char c d xs ys (of1 h e) (of2 a b g i f s k) l = spelt c d xs ys (c ∷ []) (a ∷ b ∷ []) e k (lower c a xs (b ∷ ys) (omega arith))
lower-char c d xs ys (of1 h e) (of3 a b u g i f f' s k) l = spelt c d xs ys (c ∷ []) (a ∷ b ∷ u ∷ []) e k (lower c a xs (b ∷ u ∷ ys) (omega arith))
lower-char c d xs ys (of1 h e) (of4 a b u m g i f f' f'' s k) l = spelt c d xs ys (c ∷ []) (a ∷ b ∷ u ∷ m ∷ []) e k (lower c a xs (b ∷ u ∷ m ∷ ys) (omega arith))
lower-char c d xs ys (of2 a b g h f s e) (of1 i k) l = absurd (omega (arith, no-wider c d (a ∷ b ∷ []) (d ∷ []) e k l))
lower-char c d xs ys (of2 a b g h f s e) (of2 a' b' g' h' f' s' k) l = spelt c d xs ys (a ∷ b ∷ []) (a' ∷ b' ∷ []) e k (lower-two a b a' b' xs ys f f' (omega (arith, s, s', l)))
lower-char c d xs ys (of2 a b g h f s e) (of3 a' b' u' g' h' f' i' s' k) l = spelt c d xs ys (a ∷ b ∷ []) (a' ∷ b' ∷ u' ∷ []) e k (lower a a' (b ∷ xs) (b' ∷ u' ∷ ys) (omega arith))
lower-char c d xs ys (of2 a b g h f s e) (of4 a' b' u' m' g' h' f' i' j' s' k) l = spelt c d xs ys (a ∷ b ∷ []) (a' ∷ b' ∷ u' ∷ m' ∷ []) e k (lower a a' (b ∷ xs) (b' ∷ u' ∷ m' ∷ ys) (omega arith))
lower-char c d xs ys (of3 a b u g h f i s e) (of1 i' k) l = absurd (omega (arith, no-wider c d (a ∷ b ∷ u ∷ []) (d ∷ []) e k l))
lower-char c d xs ys (of3 a b u g h f i s e) (of2 a' b' g' h' f' s' k) l = absurd (omega (arith, no-wider c d (a ∷ b ∷ u ∷ []) (a' ∷ b' ∷ []) e k l))
lower-char c d xs ys (of3 a b u g h f i s e) (of3 a' b' u' g' h' f' i' s' k) l = spelt c d xs ys (a ∷ b ∷ u ∷ []) (a' ∷ b' ∷ u' ∷ []) e k (lower-three a b u a' b' u' xs ys f i f' i' (omega (arith, s, s', l)))
lower-char c d xs ys (of3 a b u g h f i s e) (of4 a' b' u' m' g' h' f' i' j' s' k) l = spelt c d xs ys (a ∷ b ∷ u ∷ []) (a' ∷ b' ∷ u' ∷ m' ∷ []) e k (lower a a' (b ∷ u ∷ xs) (b' ∷ u' ∷ m' ∷ ys) (omega arith))
lower-char c d xs ys (of4 a b u m g h f i j s e) (of1 i' k) l = absurd (omega (arith, no-wider c d (a ∷ b ∷ u ∷ m ∷ []) (d ∷ []) e k l))
lower-char c d xs ys (of4 a b u m g h f i j s e) (of2 a' b' g' h' f' s' k) l = absurd (omega (arith, no-wider c d (a ∷ b ∷ u ∷ m ∷ []) (a' ∷ b' ∷ []) e k l))
lower-char c d xs ys (of4 a b u m g h f i j s e) (of3 a' b' u' g' h' f' i' s' k) l = absurd (omega (arith, no-wider c d (a ∷ b ∷ u ∷ m ∷ []) (a' ∷ b' ∷ u' ∷ []) e k l))
lower-char c d xs ys (of4 a b u m g h f i j s e) (of4 a' b' u' m' g' h' f' i' j' s' k) l = spelt c d xs ys (a ∷ b ∷ u ∷ m ∷ []) (a' ∷ b' ∷ u' ∷ m' ∷ []) e k (lower-four a b u m a' b' u' m' xs ys f i j f' i' j' (omega (arith, s, s', l)))

-- the same front doesn't count
same-front : (p xs ys : List ℕ) → text_cmp (p ++ xs) (p ++ ys) ≡ text_cmp xs ys
same-front [] xs ys = refl
same-front (b ∷ p) xs ys = alike b b (p ++ xs) (p ++ ys) refl ∙ same-front p xs ys

-- the first character decides, or what follows
pub char-first : (c d : ℕ) (xs ys : List ℕ) → scalar c ≡ true → scalar d ≡ true → text_cmp (encode c ++ xs) (encode d ++ ys) ≡ ordering_then (nat_cmp c d) (text_cmp xs ys)
char-first c d xs ys s t = go (nat_cmp c d) refl (ranked c d (nat_cmp c d) refl)
  where
    go : (o : Ordering) → nat_cmp c d ≡ o → MatchOrdering o (c < d) (c ≡ d) (d < c) → text_cmp (encode c ++ xs) (encode d ++ ys) ≡ ordering_then (nat_cmp c d) (text_cmp xs ys)
    go Less e h = lower-char c d xs ys (shape c (scalar_cases c s)) (shape d (scalar_cases d t)) h ∙ sym (ap (λ o. ordering_then o (text_cmp xs ys)) e)
    go Equal e h = ap (λ n. text_cmp (encode n ++ xs) (encode d ++ ys)) h ∙ same-front (encode d) xs ys ∙ sym (ap (λ o. ordering_then o (text_cmp xs ys)) e)
    go Greater e h =
        text_cmp_total.antisymm (encode c ++ xs) (encode d ++ ys)
        ∙ ap ordering_reverse (lower-char d c ys xs (shape d (scalar_cases d t)) (shape c (scalar_cases c s)) h)
        ∙ sym (ap (λ o. ordering_then o (text_cmp xs ys)) e)

-- Numbers in bytes that are joined of parts.
use Rattle.std.proofs.Common.{◌≡◌, ◌+◌, ◌^◌, ◌≤◌, ◌<◌, ℕ, List, [], ◌++◌, length, take, drop, slice_index, refl, sym, ap, ◌∙◌, arith, append-nil, append_assoc, length-append, length-drop}
use Rattle.std.proofs.lemmas.List.{drop-drop, drop_at, drop-append-le, take-append-le, get_or-append-add, take-append-drop, length-take-le}
use Rattle.dby_bytes.specs.Numbers.{number_of, bytes_of, number_at, with_number}
use Rattle.dby_bytes.proofs.NumbersLemmas.{length-bytes_of, number_of-bytes_of, number_of-append, with_number-append}

-- a number that lies in the front part
pub number_at-front : (n : ℕ) (p q : List ℕ) (at : ℕ) → at + n ≤ length p → number_at n (p ++ q) at ≡ number_at n p at
unfolding number_at
number_at-front n p q at h =
    ap (number_of n) (drop-append-le at p q (omega arith)) ∙ number_of-append n (drop at p) q (omega (arith, length-drop at p))

-- a number that lies behind a part of m bytes
pub number_at-skip : (n : ℕ) (p q : List ℕ) (m at : ℕ) → length p ≡ m → number_at n (p ++ q) (m + at) ≡ number_at n q at
unfolding number_at
number_at-skip n p q m at h =
    ap (number_of n) (sym (drop-drop at m (p ++ q)) ∙ ap (drop at) (drop_at p q m h))

-- the number that comes first
pub number_at-first : (n v : ℕ) (q : List ℕ) → v < 256 ^ n → number_at n (bytes_of n v ++ q) 0 ≡ v
unfolding number_at
number_at-first n v q h = number_of-bytes_of n v q h

pub number_at-only : (n v : ℕ) → v < 256 ^ n → number_at n (bytes_of n v) 0 ≡ v
number_at-only n v h = ap (λ (m : List ℕ). number_at n m 0) (sym (append-nil (bytes_of n v))) ∙ number_at-first n v [] h

-- a byte behind a part of m bytes
pub byte_skip : (p q : List ℕ) (m at : ℕ) → length p ≡ m → slice_index (p ++ q) (m + at) ≡ slice_index q at
byte_skip p q m at h = ap (λ (k : ℕ). slice_index (p ++ q) (k + at)) (sym h) ∙ get_or-append-add p q at 0

-- a write into the front part
pub with_number-front : (n : ℕ) (p q : List ℕ) (at v : ℕ) → at + n ≤ length p → with_number n (p ++ q) at v ≡ with_number n p at v ++ q
unfolding with_number
with_number-front n p q at v h =
    ap (λ (m : List ℕ). m ++ (bytes_of n v ++ drop (at + n) (p ++ q))) (take-append-le at p q (omega arith))
    ∙ ap (λ (m : List ℕ). take at p ++ (bytes_of n v ++ m)) (drop-append-le (at + n) p q h)
    ∙ ap (λ (m : List ℕ). take at p ++ m) (sym (append_assoc (bytes_of n v) (drop (at + n) p) q))
    ∙ sym (append_assoc (take at p) (bytes_of n v ++ drop (at + n) p) q)

-- a write behind a part of m bytes
pub with_number-skip : (n : ℕ) (p q : List ℕ) (m at v : ℕ) → length p ≡ m → at + n ≤ length q → with_number n (p ++ q) (m + at) v ≡ p ++ with_number n q at v
with_number-skip n p q m at v hp hq =
    let mid : List ℕ = take n (drop at q) in
    let back : List ℕ = drop (at + n) q in
    let split : q ≡ take at q ++ (take n (drop at q) ++ drop (at + n) q) =
    sym (take-append-drop at q) ∙ ap (λ (s : List ℕ). take at q ++ s) (sym (take-append-drop n (drop at q)) ∙ ap (λ (s : List ℕ). take n (drop at q) ++ s) (drop-drop n at q)) in
    let short : length (take at q) ≡ at = length-take-le at q (omega arith) in
    let middle : length (take n (drop at q)) ≡ n = length-take-le n (drop at q) (omega (arith, length-drop at q)) in
    let whole : p ++ q ≡ (p ++ take at q) ++ (take n (drop at q) ++ drop (at + n) q) =
    ap (λ (s : List ℕ). p ++ s) split ∙ sym (append_assoc p (take at q) (take n (drop at q) ++ drop (at + n) q)) in
    let wrote : with_number n q at v ≡ take at q ++ (bytes_of n v ++ drop (at + n) q) =
    ap (λ (s : List ℕ). with_number n s at v) split ∙ with_number-append n (take at q) (take n (drop at q)) (drop (at + n) q) at v short middle in
    ap (λ (s : List ℕ). with_number n s (m + at) v) whole
    ∙ with_number-append n (p ++ take at q) (take n (drop at q)) (drop (at + n) q) (m + at) v (omega (arith, length-append p (take at q), short, hp)) middle
    ∙ append_assoc p (take at q) (bytes_of n v ++ drop (at + n) q)
    ∙ ap (λ (s : List ℕ). p ++ s) (sym wrote)

-- a write over the number that comes first
pub with_number-first : (n x v : ℕ) (q : List ℕ) → with_number n (bytes_of n x ++ q) 0 v ≡ bytes_of n v ++ q
with_number-first n x v q = with_number-append n [] (bytes_of n x) q 0 v refl (length-bytes_of n x)

pub with_number-only : (n x v : ℕ) → with_number n (bytes_of n x) 0 v ≡ bytes_of n v
with_number-only n x v =
    ap (λ (m : List ℕ). with_number n m 0 v) (sym (append-nil (bytes_of n x))) ∙ with_number-first n x v [] ∙ append-nil (bytes_of n v)

-- What a number's bytes read as, and what a write leaves.
use Rattle.std.proofs.Common.{◌≡◌, ◌+◌, ◌-◌, ◌*◌, ◌^◌, ◌/◌, ◌≤◌, ◌<◌, ℕ, zero, suc, List, [], ◌∷◌, ◌++◌, length, take, drop, set, slice_index, refl, sym, ap, subst, ◌∙◌, arith, append-nil, length-drop, length-append}
use Rattle.std.proofs.Math.Nat.{mod-lt}
use Rattle.std.proofs.Math.Facts.{Fits-lt-pow}
use mir.Val.{Fits}
use mir.Syntax.{w8}
use Rattle.std.proofs.lemmas.Nat.{div-mul-add}
use Rattle.std.specs.Int.{byte_at, bytes_high_first}
use Rattle.std.proofs.lemmas.List.{drop-drop, take_all, drop_all, drop_at, take_at, get_or-drop, length-take-le, take-append-drop}
use borrow.Rule.Slice.PartMut.{put_mid, mid_of}
use Rattle.byteorder.specs.Endian.{big_bytes, big_from}
use Rattle.byteorder.specs.Numbers.{big_number-reads_back, big_from-append, big_from-lt, big_from-cons, length-bytes_high_first}
use Rattle.dby_bytes.specs.Numbers.{IsBytes, number_of, bytes_of, number_at, with_number}

-- a number has as many bytes as are asked for
pub length-bytes_of : (n v : ℕ) → length (bytes_of n v) ≡ n
unfolding bytes_of
length-bytes_of n v = length-bytes_high_first n v

-- what is written is read
pub number_of-bytes_of : (n v : ℕ) (rest : List ℕ) → v < 256 ^ n → number_of n (bytes_of n v ++ rest) ≡ v
unfolding number_of bytes_of
number_of-bytes_of n v rest h = big_number-reads_back n v rest h

-- nothing behind the bytes is read
pub number_of-append : (n : ℕ) (xs ys : List ℕ) → n ≤ length xs → number_of n (xs ++ ys) ≡ number_of n xs
unfolding number_of
number_of-append n xs ys h = big_from-append n xs ys h

-- a number in n bytes has at most n bytes
pub number_of-lt : (n : ℕ) (xs : List ℕ) → IsBytes xs → number_of n xs < 256 ^ n
unfolding number_of
number_of-lt n xs h = big_from-lt 0 n xs h

pub IsBytes-rest : (x : ℕ) (xs : List ℕ) → IsBytes (x ∷ xs) → IsBytes xs
IsBytes-rest x xs h = λ k. h (suc k)

pub IsBytes-drop : (n : ℕ) (xs : List ℕ) → IsBytes xs → IsBytes (drop n xs)
IsBytes-drop n xs h = λ k. subst (λ (v : ℕ). v < 256) (sym (get_or-drop n xs k 0)) (h (n + k))

pub length-with_number : (n : ℕ) (b : List ℕ) (at v : ℕ) → at + n ≤ length b → length (with_number n b at v) ≡ length b
unfolding with_number
length-with_number n b at v h =
    omega (arith, length-append (take at b) (bytes_of n v ++ drop (at + n) b), length-append (bytes_of n v) (drop (at + n) b), length-take-le at b (omega arith), length-bytes_of n v, length-drop (at + n) b)

-- a number that is written into the rest of some bytes
pub with_number-put_mid : (n at v : ℕ) (b ys : List ℕ) → at + n ≤ length b → ys ≡ big_bytes n v ++ drop n (mid_of at (length b - at) b) → put_mid at (length b - at) b ys ≡ with_number n b at v
unfolding with_number bytes_of
with_number-put_mid n at v b ys fits written =
    let some : length (drop at b) ≤ length b - at = omega (arith, length-drop at b) in
    let all : mid_of at (length b - at) b ≡ drop at b = take_all (length b - at) (drop at b) some in
    let none : drop (length b - at) (drop at b) ≡ [] = drop_all (length b - at) (drop at b) some in
    let rest : ys ++ drop (length b - at) (drop at b) ≡ big_bytes n v ++ drop (at + n) b =
    rw (none, append-nil ys, written, all) (ap (λ m. big_bytes n v ++ m) (drop-drop n at b)) in
    ap (λ m. take at b ++ m) rest

-- the number is read where it was written
pub number_at-with_number : (n : ℕ) (b : List ℕ) (at v : ℕ) → at + n ≤ length b → v < 256 ^ n → number_at n (with_number n b at v) at ≡ v
unfolding number_at with_number
number_at-with_number n b at v fits small =
    ap (number_of n) (drop_at (take at b) (bytes_of n v ++ drop (at + n) b) at (length-take-le at b (omega arith)))
    ∙ number_of-bytes_of n v (drop (at + n) b) small

-- a number in the middle of some bytes
pub number_at-append : (n : ℕ) (p q : List ℕ) (at : ℕ) → length p ≡ at → number_at n (p ++ q) at ≡ number_of n q
unfolding number_at
number_at-append n p q at h = ap (number_of n) (drop_at p q at h)

-- what a write into the middle of some bytes leaves
pub with_number-append : (n : ℕ) (p q r : List ℕ) (at v : ℕ) → length p ≡ at → length q ≡ n → with_number n (p ++ (q ++ r)) at v ≡ p ++ (bytes_of n v ++ r)
unfolding with_number
with_number-append n p q r at v hp hq =
    let front : take at (p ++ (q ++ r)) ≡ p = take_at p (q ++ r) at hp in
    let back : drop (at + n) (p ++ (q ++ r)) ≡ r =
    sym (drop-drop n at (p ++ (q ++ r))) ∙ ap (drop n) (drop_at p (q ++ r) at hp) ∙ drop_at q r n hq in
    ap (λ m. m ++ (bytes_of n v ++ drop (at + n) (p ++ (q ++ r)))) front ∙ ap (λ m. p ++ (bytes_of n v ++ m)) back

byte_at-lt : (k v : ℕ) → byte_at k v < 256
byte_at-lt zero v = mod-lt v (omega arith)
byte_at-lt (suc k) v = mod-lt (v / 256 ^ suc k) (omega arith)

high_first_bytes : (n v k : ℕ) → slice_index (bytes_high_first n v) k < 256
high_first_bytes zero v k = omega arith
high_first_bytes (suc n) v zero = byte_at-lt n v
high_first_bytes (suc n) v (suc k) = high_first_bytes n v k

-- a number's bytes are bytes
pub IsBytes-bytes_of : (n v : ℕ) → IsBytes (bytes_of n v)
unfolding bytes_of
IsBytes-bytes_of n v = λ k. high_first_bytes n v k

-- bytes are known by their number
same_digits : (n : ℕ) (xs ys : List ℕ) → IsBytes xs → IsBytes ys → length xs ≡ n → length ys ≡ n → big_from 0 n xs ≡ big_from 0 n ys → xs ≡ ys
same_digits zero [] [] hx hy lx ly e = refl
same_digits zero [] (y ∷ ys) hx hy lx ly e = absurd (omega arith)
same_digits zero (x ∷ xs) ys hx hy lx ly e = absurd (omega arith)
same_digits (suc n) [] ys hx hy lx ly e = absurd (omega arith)
same_digits (suc n) (x ∷ xs) [] hx hy lx ly e = absurd (omega arith)
same_digits (suc n) (x ∷ xs) (y ∷ ys) hx hy lx ly e =
    let r : ℕ = big_from 0 n xs in
    let s : ℕ = big_from 0 n ys in
    let hr : r < 256 ^ n = big_from-lt 0 n xs (IsBytes-rest x xs hx) in
    let hs : s < 256 ^ n = big_from-lt 0 n ys (IsBytes-rest y ys hy) in
    let whole : x * 256 ^ n + r ≡ y * 256 ^ n + s =
    ap (λ (m : ℕ). x * 256 ^ n + m) (sym (big_from-cons 0 n x xs)) ∙ e ∙ ap (λ (m : ℕ). y * 256 ^ n + m) (big_from-cons 0 n y ys) in
    let first : x ≡ y =
    sym (div-mul-add x (256 ^ n) r hr) ∙ ap (λ (m : ℕ). m / 256 ^ n) whole ∙ div-mul-add y (256 ^ n) s hs in
    let scaled : x * 256 ^ n ≡ y * 256 ^ n = ap (λ (m : ℕ). m * 256 ^ n) first in
    let others : xs ≡ ys = same_digits n xs ys (IsBytes-rest x xs hx) (IsBytes-rest y ys hy) (omega arith) (omega arith) (omega (arith, whole, scaled)) in
    ap (λ (m : ℕ). m ∷ xs) first ∙ ap (λ (m : List ℕ). y ∷ m) others

-- what is read is written: the bytes are those of their number
pub bytes_of-own : (n : ℕ) (xs : List ℕ) → IsBytes xs → length xs ≡ n → bytes_of n (number_of n xs) ≡ xs
unfolding number_of bytes_of
bytes_of-own n xs h l =
    let v : ℕ = big_from 0 n xs in
    let small : v < 256 ^ n = big_from-lt 0 n xs h in
    let back : big_from 0 n (bytes_high_first n v) ≡ v =
    ap (big_from 0 n) (sym (append-nil (bytes_high_first n v))) ∙ big_number-reads_back n v [] small in
    same_digits n (bytes_high_first n v) xs (high_first_bytes n v) h (length-bytes_high_first n v) l back

pub IsBytes-more : (x : ℕ) (xs : List ℕ) → x < 256 → IsBytes xs → IsBytes (x ∷ xs)
IsBytes-more x xs small h = λ k. at_place k
  where
    at_place : (k : ℕ) → slice_index (x ∷ xs) k < 256
    at_place zero = small
    at_place (suc k) = h k

pub IsBytes-take : (n : ℕ) (xs : List ℕ) → IsBytes xs → IsBytes (take n xs)
IsBytes-take zero xs h = λ k. omega arith
IsBytes-take (suc n) [] h = h
IsBytes-take (suc n) (x ∷ xs) h = IsBytes-more x (take n xs) (h zero) (IsBytes-take n xs (IsBytes-rest x xs h))

-- the first bytes are those of the number in them
pub bytes_of-number_of : (n : ℕ) (xs : List ℕ) → IsBytes xs → n ≤ length xs → bytes_of n (number_of n xs) ≡ take n xs
bytes_of-number_of n xs h l =
    let front : number_of n xs ≡ number_of n (take n xs) =
    ap (number_of n) (sym (take-append-drop n xs)) ∙ number_of-append n (take n xs) (drop n xs) (omega (arith, length-take-le n xs l)) in
    ap (bytes_of n) front ∙ bytes_of-own n (take n xs) (IsBytes-take n xs h) (length-take-le n xs l)

-- bytes behind a first one are those of the number in them
pub first_and_number : (n x : ℕ) (b : List ℕ) → IsBytes b → length b ≡ 1 + n → slice_index b 0 ≡ x → b ≡ x ∷ bytes_of n (number_at n b 1)
unfolding number_at
first_and_number n x [] h l e = absurd (omega arith)
first_and_number n x (y ∷ ys) h l e =
    ap (λ (m : ℕ). m ∷ ys) e ∙ ap (λ (m : List ℕ). x ∷ m) (sym (bytes_of-own n ys (IsBytes-rest y ys h) (omega arith)))

-- what a write behind the first byte leaves
pub first_and_written : (n x v : ℕ) (b : List ℕ) → length b ≡ 1 + n → with_number n (set b 0 x) 1 v ≡ x ∷ bytes_of n v
first_and_written n x v [] l = absurd (omega arith)
first_and_written n x v (y ∷ ys) l =
    ap (λ (m : List ℕ). with_number n (x ∷ m) 1 v) (sym (append-nil ys))
    ∙ with_number-append n (x ∷ []) ys [] 1 v refl (omega arith)
    ∙ ap (λ (m : List ℕ). x ∷ m) (append-nil (bytes_of n v))

-- what the type of a slice of bytes says
pub IsBytes-from_fits : (b : List ℕ) → ((k : ℕ) → Fits w8 (slice_index b k)) → IsBytes b
IsBytes-from_fits b h = λ k. Fits-lt-pow (h k)

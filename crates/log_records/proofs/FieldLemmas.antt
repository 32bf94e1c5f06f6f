-- Fields that stand in bytes, and fields that are written.
use Rattle.std.proofs.Common.{◌≡◌, ◌+◌, ◌^◌, ◌≤◌, ◌<◌, ℕ, List, [], ◌∷◌, ◌++◌, length, take, drop, refl, sym, ap, ◌∙◌, arith, append-nil, append_assoc, length-append, length-drop}
use Rattle.std.proofs.lemmas.List.{drop-drop, drop_at, take_at, take-append-drop, length-take-le, drop_all}
use Rattle.dby_bytes.specs.Numbers.{IsBytes, number_of, bytes_of, number_at, with_number}
use Rattle.dby_bytes.proofs.NumbersLemmas.{length-bytes_of, number_of-bytes_of, bytes_of-number_of, IsBytes-drop, number_of-lt}
use Rattle.log_records.specs.Fields.{Field, field_bytes, fields_len, Fit, Stand, with_bytes, written}
use Rattle.log_records.specs.Fields.Field.{number, raw}

pub length-field_bytes : (fs : List Field) → length (field_bytes fs) ≡ fields_len fs
length-field_bytes [] = refl
length-field_bytes (number n v ∷ fs) =
    length-append (bytes_of n v) (field_bytes fs) ∙ ap (λ (k : ℕ). k + length (field_bytes fs)) (length-bytes_of n v) ∙ ap (λ (k : ℕ). n + k) (length-field_bytes fs)
length-field_bytes (raw xs ∷ fs) = length-append xs (field_bytes fs) ∙ ap (λ (k : ℕ). length xs + k) (length-field_bytes fs)

-- fields that begin what is left stand there
pub stand : (fs : List Field) (at : ℕ) (b q : List ℕ) → Fit fs → drop at b ≡ field_bytes fs ++ q → Stand fs at b
unfolding number_at
stand [] at b q fit e = tt
stand (number n v ∷ fs) at b q fit e =
    let whole : drop at b ≡ bytes_of n v ++ (field_bytes fs ++ q) = e ∙ append_assoc (bytes_of n v) (field_bytes fs) q in
    let here : number_of n (drop at b) ≡ v = ap (number_of n) whole ∙ number_of-bytes_of n v (field_bytes fs ++ q) fit.0 in
    let behind : drop (at + n) b ≡ field_bytes fs ++ q =
    sym (drop-drop n at b) ∙ ap (drop n) whole ∙ drop_at (bytes_of n v) (field_bytes fs ++ q) n (length-bytes_of n v) in
    (here, stand fs (at + n) b q fit.1 behind)
stand (raw xs ∷ fs) at b q fit e =
    let whole : drop at b ≡ xs ++ (field_bytes fs ++ q) = e ∙ append_assoc xs (field_bytes fs) q in
    let here : take (length xs) (drop at b) ≡ xs = ap (take (length xs)) whole ∙ take_at xs (field_bytes fs ++ q) (length xs) refl in
    let behind : drop (at + length xs) b ≡ field_bytes fs ++ q =
    sym (drop-drop (length xs) at b) ∙ ap (drop (length xs)) whole ∙ drop_at xs (field_bytes fs ++ q) (length xs) refl in
    (here, stand fs (at + length xs) b q fit behind)

-- fields that stand in bytes are these bytes
pub bytes_are : (fs : List Field) (at : ℕ) (b : List ℕ) → IsBytes b → Stand fs at b → at + fields_len fs ≤ length b → drop at b ≡ field_bytes fs ++ drop (at + fields_len fs) b
unfolding number_at
bytes_are [] at b bytes s within = ap (λ (k : ℕ). drop k b) (omega arith)
bytes_are (number n v ∷ fs) at b bytes s within =
    let room : n ≤ length (drop at b) = omega (arith, length-drop at b, within) in
    let front : take n (drop at b) ≡ bytes_of n v = sym (bytes_of-number_of n (drop at b) (IsBytes-drop at b bytes) room) ∙ ap (bytes_of n) s.0 in
    let rest : drop (at + n) b ≡ field_bytes fs ++ drop (at + n + fields_len fs) b = bytes_are fs (at + n) b bytes s.1 (omega (arith, within)) in
    let place : at + n + fields_len fs ≡ at + (n + fields_len fs) = omega arith in
    sym (take-append-drop n (drop at b)) ∙ ap (λ (l : List ℕ). l ++ drop n (drop at b)) front
    ∙ ap (λ (l : List ℕ). bytes_of n v ++ l) (drop-drop n at b ∙ rest ∙ ap (λ (k : ℕ). field_bytes fs ++ drop k b) place)
    ∙ sym (append_assoc (bytes_of n v) (field_bytes fs) (drop (at + (n + fields_len fs)) b))
bytes_are (raw xs ∷ fs) at b bytes s within =
    let n : ℕ = length xs in
    let rest : drop (at + length xs) b ≡ field_bytes fs ++ drop (at + length xs + fields_len fs) b = bytes_are fs (at + length xs) b bytes s.1 (omega (arith, within)) in
    let place : at + length xs + fields_len fs ≡ at + (length xs + fields_len fs) = omega arith in
    sym (take-append-drop (length xs) (drop at b)) ∙ ap (λ (l : List ℕ). l ++ drop (length xs) (drop at b)) s.0
    ∙ ap (λ (l : List ℕ). xs ++ l) (drop-drop (length xs) at b ∙ rest ∙ ap (λ (k : ℕ). field_bytes fs ++ drop k b) place)
    ∙ sym (append_assoc xs (field_bytes fs) (drop (at + (length xs + fields_len fs)) b))

-- after a write over a part: what stands up to its end, and what stands behind it
take-written : (xs b : List ℕ) (at n : ℕ) → length xs ≡ n → at + n ≤ length b → take (at + n) (take at b ++ (xs ++ drop (at + n) b)) ≡ take at b ++ xs
take-written xs b at n len fits =
    let short : length (take at b) ≡ at = length-take-le at b (omega (arith, fits)) in
    ap (take (at + n)) (sym (append_assoc (take at b) xs (drop (at + n) b)))
    ∙ take_at (take at b ++ xs) (drop (at + n) b) (at + n) (length-append (take at b) xs ∙ omega (arith, short, len))

drop-written : (xs b : List ℕ) (at n m : ℕ) → length xs ≡ n → at + n ≤ length b → drop (at + n + m) (take at b ++ (xs ++ drop (at + n) b)) ≡ drop (at + n + m) b
drop-written xs b at n m len fits =
    let short : length (take at b) ≡ at = length-take-le at b (omega (arith, fits)) in
    sym (drop-drop m (at + n) (take at b ++ (xs ++ drop (at + n) b)))
    ∙ ap (drop m) (ap (drop (at + n)) (sym (append_assoc (take at b) xs (drop (at + n) b))) ∙ drop_at (take at b ++ xs) (drop (at + n) b) (at + n) (length-append (take at b) xs ∙ omega (arith, short, len)))
    ∙ drop-drop m (at + n) b

length-written : (xs b : List ℕ) (at n : ℕ) → length xs ≡ n → at + n ≤ length b → length (take at b ++ (xs ++ drop (at + n) b)) ≡ length b
length-written xs b at n len fits =
    omega (arith, length-append (take at b) (xs ++ drop (at + n) b), length-append xs (drop (at + n) b), length-take-le at b (omega (arith, fits)), len, length-drop (at + n) b)

-- one write more in front of those that follow
written_more : (xs : List ℕ) (fs : List Field) (b : List ℕ) (at n : ℕ) → length xs ≡ n → at + (n + fields_len fs) ≤ length b
    → written fs (at + n) (take at b ++ (xs ++ drop (at + n) b)) ≡ take (at + n) (take at b ++ (xs ++ drop (at + n) b)) ++ (field_bytes fs ++ drop (at + n + fields_len fs) (take at b ++ (xs ++ drop (at + n) b)))
    → written fs (at + n) (take at b ++ (xs ++ drop (at + n) b)) ≡ take at b ++ ((xs ++ field_bytes fs) ++ drop (at + (n + fields_len fs)) b)
written_more xs fs b at n len fits e =
    let place : at + n + fields_len fs ≡ at + (n + fields_len fs) = omega arith in
    let within : at + n ≤ length b = omega (arith, fits) in
    e ∙ ap (λ (l : List ℕ). l ++ (field_bytes fs ++ drop (at + n + fields_len fs) (take at b ++ (xs ++ drop (at + n) b)))) (take-written xs b at n len within)
    ∙ ap (λ (l : List ℕ). (take at b ++ xs) ++ (field_bytes fs ++ l)) (drop-written xs b at n (fields_len fs) len within ∙ ap (λ (k : ℕ). drop k b) place)
    ∙ append_assoc (take at b) xs (field_bytes fs ++ drop (at + (n + fields_len fs)) b)
    ∙ ap (λ (l : List ℕ). take at b ++ l) (sym (append_assoc xs (field_bytes fs) (drop (at + (n + fields_len fs)) b)))

-- what is written stands in its place, and every other byte is as it was
pub written_is : (fs : List Field) (at : ℕ) (b : List ℕ) → at + fields_len fs ≤ length b → written fs at b ≡ take at b ++ (field_bytes fs ++ drop (at + fields_len fs) b)
unfolding with_number with_bytes
written_is [] at b fits = sym (take-append-drop at b) ∙ ap (λ (k : ℕ). take at b ++ drop k b) (omega arith)
written_is (number n v ∷ fs) at b fits =
    written_more (bytes_of n v) fs b at n (length-bytes_of n v) fits
    (written_is fs (at + n) (take at b ++ (bytes_of n v ++ drop (at + n) b)) (omega (arith, fits, length-written (bytes_of n v) b at n (length-bytes_of n v) (omega (arith, fits)))))
written_is (raw xs ∷ fs) at b fits =
    written_more xs fs b at (length xs) refl fits
    (written_is fs (at + length xs) (take at b ++ (xs ++ drop (at + length xs) b)) (omega (arith, fits, length-written xs b at (length xs) refl (omega (arith, fits)))))

-- fields that stand in all of the bytes are these
pub all_bytes : (fs : List Field) (b : List ℕ) → IsBytes b → Stand fs 0 b → length b ≡ fields_len fs → b ≡ field_bytes fs
all_bytes fs b bytes s len =
    let none : drop (0 + fields_len fs) b ≡ [] = drop_all (0 + fields_len fs) b (omega (arith, len)) in
    bytes_are fs 0 b bytes s (omega (arith, len)) ∙ ap (λ (l : List ℕ). field_bytes fs ++ l) none ∙ append-nil (field_bytes fs)

-- bytes that are fields: these stand in them, and this is their length
pub all_stand : (fs : List Field) (b : List ℕ) → Fit fs → b ≡ field_bytes fs → Stand fs 0 b
all_stand fs b fit e = stand fs 0 b [] fit (e ∙ sym (append-nil (field_bytes fs)))

pub all_len : (fs : List Field) (b : List ℕ) → b ≡ field_bytes fs → length b ≡ fields_len fs
all_len fs b e = ap length e ∙ length-field_bytes fs

-- a number in so many bytes has at most so many
pub number_at-lt : (n : ℕ) (b : List ℕ) (at : ℕ) → IsBytes b → number_at n b at < 256 ^ n
unfolding number_at
number_at-lt n b at bytes = number_of-lt n (drop at b) (IsBytes-drop at b bytes)

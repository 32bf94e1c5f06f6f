-- Single bytes as numbers, and parts that are written.
use Rattle.std.proofs.Common.{◌≡◌, ◌+◌, ◌-◌, ◌%◌, ◌<◌, ℕ, suc, List, ◌∷◌, ◌++◌, length, take, drop, set, get_or, sym, ap, ◌∙◌, arith}
use Rattle.std.proofs.lemmas.List.{drop-drop, get_or-drop, set_split}
use borrow.Rule.Slice.PartMut.{put_mid}
use Rattle.dby_bytes.specs.Numbers.{number_of, bytes_of, number_at, with_number}
use Rattle.log_records.specs.Fields.{with_bytes}

pub byte-number : (b : List ℕ) (at : ℕ) → get_or b at 0 ≡ number_at 1 b at
unfolding number_at number_of
byte-number b at =
    let here : get_or (drop at b) 0 0 ≡ get_or b at 0 = get_or-drop at b 0 0 ∙ ap (λ (k : ℕ). get_or b k 0) (omega arith) in
    sym here ∙ omega arith

pub set-number : (b : List ℕ) (at v : ℕ) → at < length b → v < 256 → set b at v ≡ with_number 1 b at v
unfolding with_number bytes_of
set-number b at v within small =
    let same : v % 256 ≡ v = omega (arith, small) in
    let place : suc at ≡ at + 1 = omega arith in
    set_split b at v within ∙ ap (λ (k : ℕ). take at b ++ (v ∷ drop k b)) place ∙ ap (λ (x : ℕ). take at b ++ (x ∷ drop (at + 1) b)) (sym same)

pub put_mid-bytes : (b part bytes : List ℕ) (at : ℕ) → part ≡ bytes → put_mid at ((at + length bytes) - at) b part ≡ with_bytes b at bytes
unfolding with_bytes
put_mid-bytes b part bytes at e =
    let len : (at + length bytes) - at ≡ length bytes = omega arith in
    ap (λ (l : List ℕ). take at b ++ (l ++ drop ((at + length bytes) - at) (drop at b))) e
    ∙ ap (λ (l : List ℕ). take at b ++ (bytes ++ l)) (ap (λ (k : ℕ). drop k (drop at b)) len ∙ drop-drop (length bytes) at b)

-- Bytes that are written over others.
use Rattle.std.proofs.Common.{◌≡◌, ◌+◌, ◌-◌, ◌≤◌, ℕ, List, [], ◌++◌, length, take, drop, replicate, sym, ap, ◌∙◌, arith, append_assoc, length-append, length-drop, inl, inr}
use Rattle.std.proofs.lemmas.Bool.{cases_lt}
use Rattle.std.proofs.lemmas.List.{drop-drop, drop_all, take_all, take_at, take-append-le, length-replicate, length-take-le, append-nil, replicate-append-replicate}
use borrow.Rule.Slice.PartMut.{put_mid}
use Rattle.device.specs.Disk.{written_at}

pub put_mid-bytes : (b part bytes : List ℕ) (at : ℕ) → part ≡ bytes → put_mid at ((at + length bytes) - at) b part ≡ take at b ++ (bytes ++ drop (at + length bytes) b)
put_mid-bytes b part bytes at e =
    let len : (at + length bytes) - at ≡ length bytes = omega arith in
    ap (λ (l : List ℕ). take at b ++ (l ++ drop ((at + length bytes) - at) (drop at b))) e
    ∙ ap (λ (l : List ℕ). take at b ++ (bytes ++ l)) (ap (λ (k : ℕ). drop k (drop at b)) len ∙ drop-drop (length bytes) at b)

-- bytes 0 behind a place don't show before it
front : (old : List ℕ) (at n : ℕ) → take at (old ++ replicate (at + n - length old) 0) ≡ take at (old ++ replicate (at - length old) 0)
front old at n = elim (cases_lt (length old) at) [
  | inl lt ↦
      let k : ℕ = at - length old in
      let more : at + n - length old ≡ (at - length old) + n = omega arith in
      let split : replicate {A = ℕ} ((at - length old) + n) 0 ≡ replicate (at - length old) 0 ++ replicate n 0 = sym (replicate-append-replicate {A = ℕ} (at - length old) n 0) in
      let long : length (old ++ replicate {A = ℕ} (at - length old) 0) ≡ at =
      length-append old (replicate {A = ℕ} (at - length old) 0) ∙ omega (arith, length-replicate {A = ℕ} (at - length old) 0, lt) in
      ap (λ (m : ℕ). take at (old ++ replicate m 0)) more ∙ ap (λ (l : List ℕ). take at (old ++ l)) split
      ∙ ap (take at) (sym (append_assoc old (replicate {A = ℕ} (at - length old) 0) (replicate {A = ℕ} n 0)))
      ∙ take_at (old ++ replicate {A = ℕ} (at - length old) 0) (replicate {A = ℕ} n 0) at long
      ∙ sym (take_all at (old ++ replicate {A = ℕ} (at - length old) 0) (omega (arith, long)))
  | inr le ↦ take-append-le at old (replicate {A = ℕ} (at + n - length old) 0) le ∙ sym (take-append-le at old (replicate {A = ℕ} (at - length old) 0) le)
]

behind : (old : List ℕ) (m : ℕ) → drop m (old ++ replicate (m - length old) 0) ≡ drop m old
behind old m = elim (cases_lt (length old) m) [
  | inl lt ↦
      drop_all m (old ++ replicate {A = ℕ} (m - length old) 0) (omega (arith, lt, length-append old (replicate {A = ℕ} (m - length old) 0), length-replicate {A = ℕ} (m - length old) 0))
      ∙ sym (drop_all m old (omega (arith, lt)))
  | inr le ↦
      let none : m - length old ≡ 0 = omega (arith, le) in
      ap (λ (k : ℕ). drop m (old ++ replicate k 0)) none ∙ ap (drop m) (append-nil old)
]

-- bytes that were lengthened and then written over
pub overwritten : (old g pasted from : List ℕ) (at n : ℕ) → g ≡ old ++ replicate (at + length from - length old) 0 → n ≡ length g → pasted ≡ take at g ++ (from ++ drop (at + length from) g)
    → take n (pasted ++ drop (length pasted) g) ≡ written_at old at from
overwritten old g pasted from at n eg en ep =
    let room : at + length from ≤ length g =
    omega (arith, ap length eg, length-append old (replicate {A = ℕ} (at + length from - length old) 0), length-replicate {A = ℕ} (at + length from - length old) 0) in
    let same : length pasted ≡ length g =
    ap length ep ∙ length-append (take at g) (from ++ drop (at + length from) g)
    ∙ omega (arith, room, length-append from (drop (at + length from) g), length-drop (at + length from) g, length-take-le at g (omega (arith, room))) in
    let none : drop (length pasted) g ≡ [] = drop_all (length pasted) g (omega (arith, same)) in
    ap (λ (l : List ℕ). take n (pasted ++ l)) none ∙ ap (take n) (append-nil pasted) ∙ take_all n pasted (omega (arith, en, same)) ∙ ep
    ∙ ap (λ (l : List ℕ). l ++ (from ++ drop (at + length from) g)) (ap (take at) eg ∙ front old at (length from))
    ∙ ap (λ (l : List ℕ). take at (old ++ replicate (at - length old) 0) ++ (from ++ l)) (ap (drop (at + length from)) eg ∙ behind old (at + length from))

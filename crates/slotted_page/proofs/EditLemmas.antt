-- What the edits of parts of a page leave.
use Rattle.std.proofs.Common.{◌≡◌, ◌+◌, ◌-◌, ◌≤◌, ℕ, List, [], ◌∷◌, ◌++◌, length, take, drop, replicate, sym, ap, ◌∙◌, arith, append_assoc, length-append, length-drop}
use Rattle.std.proofs.lemmas.List.{drop-drop, drop_at, take_at, drop-take, take-take, take-append-drop, length-take-le, length-replicate}
use borrow.Rule.Slice.PartMut.{put_mid}
use Rattle.dby_bytes.specs.Numbers.{bytes_of, with_number}
use Rattle.dby_bytes.proofs.NumbersLemmas.{length-bytes_of}
use Rattle.slotted_page.specs.Layout.{zeros}
use Rattle.slotted_page.specs.Edits.{exchanged, overwritten}

-- the code's exchange of two parts
pub exchanged-put_mid : (b ys : List ℕ) (from mid to : ℕ) → from ≤ mid → mid ≤ to → to ≤ length b → ys ≡ drop (mid - from) (take (to - from) (drop from b)) ++ take (mid - from) (take (to - from) (drop from b)) → put_mid from (to - from) b ys ≡ exchanged b from mid to
unfolding exchanged
exchanged-put_mid b ys from mid to h1 h2 h3 e =
    let n : (mid - from) + (to - mid) ≡ to - from = omega arith in
    let up : from + (mid - from) ≡ mid = omega arith in
    let end : from + (to - from) ≡ to = omega arith in
    let first : drop (mid - from) (take (to - from) (drop from b)) ≡ take (to - mid) (drop mid b) =
    ap (λ (k : ℕ). drop (mid - from) (take k (drop from b))) (sym n) ∙ drop-take (mid - from) (to - mid) (drop from b)
    ∙ ap (take (to - mid)) (drop-drop (mid - from) from b ∙ ap (λ (k : ℕ). drop k b) up) in
    let second : take (mid - from) (take (to - from) (drop from b)) ≡ take (mid - from) (drop from b) = take-take (mid - from) (to - from) (drop from b) (omega arith) in
    let last : drop (to - from) (drop from b) ≡ drop to b = drop-drop (to - from) from b ∙ ap (λ (k : ℕ). drop k b) end in
    ap (λ (m : List ℕ). take from b ++ (m ++ drop (to - from) (drop from b))) e
    ∙ ap (λ (m : List ℕ). take from b ++ m) (append_assoc (drop (mid - from) (take (to - from) (drop from b))) (take (mid - from) (take (to - from) (drop from b))) (drop (to - from) (drop from b)))
    ∙ ap (λ (m : List ℕ). take from b ++ (m ++ (take (mid - from) (take (to - from) (drop from b)) ++ drop (to - from) (drop from b)))) first
    ∙ ap (λ (m : List ℕ). take from b ++ (take (to - mid) (drop mid b) ++ (m ++ drop (to - from) (drop from b)))) second
    ∙ ap (λ (m : List ℕ). take from b ++ (take (to - mid) (drop mid b) ++ (take (mid - from) (drop from b) ++ m))) last

-- the code's write over a part
pub overwritten-put_mid : (b ys bytes : List ℕ) (at : ℕ) → ys ≡ bytes → put_mid at (at + length bytes - at) b ys ≡ overwritten b at bytes
unfolding overwritten
overwritten-put_mid b ys bytes at e =
    let k : at + length bytes - at ≡ length bytes = omega arith in
    ap (λ (m : List ℕ). take at b ++ (m ++ drop (at + length bytes - at) (drop at b))) e
    ∙ ap (λ (n : ℕ). take at b ++ (bytes ++ drop n (drop at b))) k
    ∙ ap (λ (m : List ℕ). take at b ++ (bytes ++ m)) (drop-drop (length bytes) at b)

-- two parts that change places
pub exchanged-parts : (p q r s : List ℕ) (from mid to : ℕ) → length p ≡ from → from + length q ≡ mid → mid + length r ≡ to → exchanged (p ++ (q ++ (r ++ s))) from mid to ≡ p ++ (r ++ (q ++ s))
unfolding exchanged
exchanged-parts p q r s from mid to hp hq hr =
    let b : List ℕ = p ++ (q ++ (r ++ s)) in
    let front : take from (p ++ (q ++ (r ++ s))) ≡ p = take_at p (q ++ (r ++ s)) from hp in
    let d1 : drop from (p ++ (q ++ (r ++ s))) ≡ q ++ (r ++ s) = drop_at p (q ++ (r ++ s)) from hp in
    let n1 : length q ≡ mid - from = omega arith in
    let n2 : length r ≡ to - mid = omega arith in
    let m : from + (mid - from) ≡ mid = omega arith in
    let t : mid + (to - mid) ≡ to = omega arith in
    let d2 : drop mid (p ++ (q ++ (r ++ s))) ≡ r ++ s =
    ap (λ (k : ℕ). drop k (p ++ (q ++ (r ++ s)))) (sym m) ∙ sym (drop-drop (mid - from) from (p ++ (q ++ (r ++ s)))) ∙ ap (drop (mid - from)) d1 ∙ drop_at q (r ++ s) (mid - from) n1 in
    let d3 : drop to (p ++ (q ++ (r ++ s))) ≡ s =
    ap (λ (k : ℕ). drop k (p ++ (q ++ (r ++ s)))) (sym t) ∙ sym (drop-drop (to - mid) mid (p ++ (q ++ (r ++ s)))) ∙ ap (drop (to - mid)) d2 ∙ drop_at r s (to - mid) n2 in
    let first : take (mid - from) (drop from (p ++ (q ++ (r ++ s)))) ≡ q = ap (take (mid - from)) d1 ∙ take_at q (r ++ s) (mid - from) n1 in
    let second : take (to - mid) (drop mid (p ++ (q ++ (r ++ s)))) ≡ r = ap (take (to - mid)) d2 ∙ take_at r s (to - mid) n2 in
    four (take from (p ++ (q ++ (r ++ s)))) p (take (to - mid) (drop mid (p ++ (q ++ (r ++ s))))) r (take (mid - from) (drop from (p ++ (q ++ (r ++ s))))) q (drop to (p ++ (q ++ (r ++ s)))) s front second first d3
  where
    four : (a a' b b' c c' d d' : List ℕ) → a ≡ a' → b ≡ b' → c ≡ c' → d ≡ d' → a ++ (b ++ (c ++ d)) ≡ a' ++ (b' ++ (c' ++ d'))
    four a a' b b' c c' d d' ea eb ec ed =
        ap (λ (m : List ℕ). m ++ (b ++ (c ++ d))) ea ∙ ap (λ (m : List ℕ). a' ++ (m ++ (c ++ d))) eb
        ∙ ap (λ (m : List ℕ). a' ++ (b' ++ (m ++ d))) ec ∙ ap (λ (m : List ℕ). a' ++ (b' ++ (c' ++ m))) ed

-- a part that is written over
pub overwritten-part : (p q r bytes : List ℕ) (at : ℕ) → length p ≡ at → length q ≡ length bytes → overwritten (p ++ (q ++ r)) at bytes ≡ p ++ (bytes ++ r)
unfolding overwritten
overwritten-part p q r bytes at hp hq =
    let behind : drop (at + length bytes) (p ++ (q ++ r)) ≡ r =
    sym (drop-drop (length bytes) at (p ++ (q ++ r))) ∙ ap (drop (length bytes)) (drop_at p (q ++ r) at hp) ∙ drop_at q r (length bytes) hq in
    ap (λ (m : List ℕ). m ++ (bytes ++ drop (at + length bytes) (p ++ (q ++ r)))) (take_at p (q ++ r) at hp)
    ∙ ap (λ (m : List ℕ). p ++ (bytes ++ m)) behind

-- a list in four parts
four_parts : (b : List ℕ) (at m n : ℕ) → b ≡ take at b ++ (take m (drop at b) ++ (take n (drop (at + m) b) ++ drop (at + m + n) b))
four_parts b at m n =
    sym (take-append-drop at b)
    ∙ ap (λ (s : List ℕ). take at b ++ s) (sym (take-append-drop m (drop at b)) ∙ ap (λ (s : List ℕ). take m (drop at b) ++ s) (drop-drop m at b
    ∙ sym (take-append-drop n (drop (at + m) b)) ∙ ap (λ (s : List ℕ). take n (drop (at + m) b) ++ s) (drop-drop n (at + m) b)))

-- two writes, one behind the other, are one write
pub overwritten-twice : (b x y : List ℕ) (at : ℕ) → at + length x + length y ≤ length b → overwritten (overwritten b at x) (at + length x) y ≡ overwritten b at (x ++ y)
overwritten-twice b x y at h =
    let p : List ℕ = take at b in
    let q : List ℕ = take (length x) (drop at b) in
    let r : List ℕ = take (length y) (drop (at + length x) b) in
    let s : List ℕ = drop (at + length x + length y) b in
    let hp : length (take at b) ≡ at = length-take-le at b (omega arith) in
    let hq : length (take (length x) (drop at b)) ≡ length x = length-take-le (length x) (drop at b) (omega (arith, length-drop at b)) in
    let hr : length (take (length y) (drop (at + length x) b)) ≡ length y = length-take-le (length y) (drop (at + length x) b) (omega (arith, length-drop (at + length x) b)) in
    let is = four_parts b at (length x) (length y) in
    let one : overwritten b at x ≡ take at b ++ (x ++ (take (length y) (drop (at + length x) b) ++ drop (at + length x + length y) b)) =
    ap (λ (m : List ℕ). overwritten m at x) is ∙ overwritten-part (take at b) (take (length x) (drop at b)) (take (length y) (drop (at + length x) b) ++ drop (at + length x + length y) b) x at hp hq in
    let two : overwritten (overwritten b at x) (at + length x) y ≡ (take at b ++ x) ++ (y ++ drop (at + length x + length y) b) =
    ap (λ (m : List ℕ). overwritten m (at + length x) y) (one ∙ sym (append_assoc (take at b) x (take (length y) (drop (at + length x) b) ++ drop (at + length x + length y) b)))
    ∙ overwritten-part (take at b ++ x) (take (length y) (drop (at + length x) b)) (drop (at + length x + length y) b) y (at + length x) (omega (arith, length-append (take at b) x, hp)) hr in
    let both : overwritten b at (x ++ y) ≡ take at b ++ ((x ++ y) ++ drop (at + length x + length y) b) =
    ap (λ (m : List ℕ). overwritten m at (x ++ y)) (is ∙ ap (λ (m : List ℕ). take at b ++ m) (sym (append_assoc (take (length x) (drop at b)) (take (length y) (drop (at + length x) b)) (drop (at + length x + length y) b))))
    ∙ overwritten-part (take at b) (take (length x) (drop at b) ++ take (length y) (drop (at + length x) b)) (drop (at + length x + length y) b) (x ++ y) at hp (omega (arith, length-append (take (length x) (drop at b)) (take (length y) (drop (at + length x) b)), length-append x y, hq, hr)) in
    two ∙ append_assoc (take at b) x (y ++ drop (at + length x + length y) b) ∙ ap (λ (m : List ℕ). take at b ++ m) (sym (append_assoc x y (drop (at + length x + length y) b))) ∙ sym both

-- a number is written over its bytes
pub overwritten-number : (n : ℕ) (b : List ℕ) (at v : ℕ) → with_number n b at v ≡ overwritten b at (bytes_of n v)
unfolding overwritten with_number
overwritten-number n b at v = ap (λ (k : ℕ). take at b ++ (bytes_of n v ++ drop (at + k) b)) (sym (length-bytes_of n v))

pub entry_written : (b b1 b2 : List ℕ) (at s l : ℕ) → at + 4 ≤ length b → b1 ≡ with_number 2 b at s → b2 ≡ with_number 2 b1 (at + 2) l → b2 ≡ overwritten b at (bytes_of 2 s ++ bytes_of 2 l)
entry_written b b1 b2 at s l h e1 e2 =
    let two : at + 2 ≡ at + length (bytes_of 2 s) = omega (arith, length-bytes_of 2 s) in
    e2 ∙ ap (λ (m : List ℕ). with_number 2 m (at + 2) l) (e1 ∙ overwritten-number 2 b at s)
    ∙ overwritten-number 2 (overwritten b at (bytes_of 2 s)) (at + 2) l
    ∙ ap (λ (k : ℕ). overwritten (overwritten b at (bytes_of 2 s)) k (bytes_of 2 l)) two
    ∙ overwritten-twice b (bytes_of 2 s) (bytes_of 2 l) at (omega (arith, length-bytes_of 2 s, length-bytes_of 2 l, h))

pub record_written : (b b1 b2 bytes : List ℕ) (at flags : ℕ) → at + 1 + length bytes ≤ length b → b1 ≡ overwritten b at (flags ∷ []) → b2 ≡ overwritten b1 (at + 1) bytes → b2 ≡ overwritten b at (flags ∷ bytes)
record_written b b1 b2 bytes at flags h e1 e2 =
    e2 ∙ ap (λ (m : List ℕ). overwritten m (at + 1) bytes) e1 ∙ overwritten-twice b (flags ∷ []) bytes at (omega arith)

pub clear_written : (b ys : List ℕ) (from to : ℕ) → from ≤ to → to ≤ length b → ys ≡ replicate (length (take (to - from) (drop from b))) 0 → put_mid from (to - from) b ys ≡ overwritten b from (zeros (to - from))
unfolding overwritten zeros
clear_written b ys from to h1 h2 e =
    let n : length (take (to - from) (drop from b)) ≡ to - from = length-take-le (to - from) (drop from b) (omega (arith, length-drop from b)) in
    let z : length (replicate {A = ℕ} (to - from) 0) ≡ to - from = length-replicate (to - from) 0 in
    ap (λ (m : List ℕ). take from b ++ (m ++ drop (to - from) (drop from b))) (e ∙ ap (λ (k : ℕ). replicate k 0) n)
    ∙ ap (λ (m : List ℕ). take from b ++ (replicate (to - from) 0 ++ m)) (drop-drop (to - from) from b ∙ ap (λ (k : ℕ). drop (from + k) b) (sym z))

-- Texts by their bytes, with blanks past their ends.
use Rattle.std.proofs.Common.{◌≡◌, ◌≢◌, ℕ, suc, ◌<◌, ◌≤◌, ◌==◌, List, [], ◌∷◌, ◌++◌, length, get_or, take, ◌-◌, false, cond, refl, sym, ap, ◌∙◌, arith}
use Rattle.std.proofs.Math.Seq.{take-suc}
use Rattle.std.proofs.lemmas.Bool.Decides.{nat_tests}
use Rattle.value_compare.specs.Text.{with_first, trimmed_text}

-- a blank at the end doesn't count
trimmed_text-blank : (text : List ℕ) → trimmed_text (text ++ 32 ∷ []) ≡ trimmed_text text
trimmed_text-blank [] = refl
trimmed_text-blank (b ∷ bs) = ap (with_first b) (trimmed_text-blank bs)

with_first-full : (b : ℕ) (bs : List ℕ) (c : ℕ) → with_first b (bs ++ c ∷ []) ≡ b ∷ (bs ++ c ∷ [])
with_first-full b [] c = refl
with_first-full b (x ∷ xs) c = refl

-- any other byte does
trimmed_text-full : (text : List ℕ) (c : ℕ) → (c == 32) ≡ false → trimmed_text (text ++ c ∷ []) ≡ text ++ c ∷ []
trimmed_text-full [] c h = ap (λ x. cond x [] (c ∷ [])) h
trimmed_text-full (b ∷ bs) c h = ap (with_first b) (trimmed_text-full bs c h) ∙ with_first-full b bs c

take-last : (text : List ℕ) (n : ℕ) → 0 < n → n ≤ length text → take n text ≡ take (n - 1) text ++ get_or text (n - 1) 0 ∷ []
take-last text n some h =
    let same : n ≡ suc (n - 1) = omega arith in
    let within : n - 1 < length text = omega arith in
    ap (λ k. take k text) same ∙ take-suc text (n - 1) 0 within

pub trimmed_text-shorter : (text : List ℕ) (n : ℕ) → 0 < n → n ≤ length text → get_or text (n - 1) 0 ≡ 32 → trimmed_text (take (n - 1) text) ≡ trimmed_text (take n text)
trimmed_text-shorter text n some h blank =
    sym (ap trimmed_text (take-last text n some h ∙ ap (λ b. take (n - 1) text ++ b ∷ []) blank) ∙ trimmed_text-blank (take (n - 1) text))

pub trimmed_text-whole : (text : List ℕ) (n : ℕ) → 0 < n → n ≤ length text → get_or text (n - 1) 0 ≢ 32 → trimmed_text (take n text) ≡ take n text
trimmed_text-whole text n some h full =
    let other : (get_or text (n - 1) 0 == 32) ≡ false = grind (arith, nat_tests) in
    ap trimmed_text (take-last text n some h) ∙ trimmed_text-full (take (n - 1) text) (get_or text (n - 1) 0) other ∙ sym (take-last text n some h)

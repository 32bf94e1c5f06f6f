-- Values that stand for one group are those that are one without trailing blanks.
use Rattle.std.proofs.Common.{◌≡◌, ℕ, ◌==◌, ◌<◌, List, [], ◌∷◌, Bool, true, false, refl, ap, ◌∙◌, subst, Ordering}
use Rattle.std.specs.Prelude.{if◌then◌else◌}
use Rattle.std.specs.Bool.{Decides}
use Rattle.std.specs.Ordering.{nat_cmp, ordering_then, is_eq, MatchOrdering}
use Rattle.std.specs.declared.cmp.Ordering.TheVariants.{Less, Equal, Greater}
use Rattle.std.proofs.lemmas.Bool.Decides.{Decides-eqb, Decides-int_eq}
use Rattle.std.proofs.lemmas.Cmp.{nat_cmp_total, ranked, tied_itself, tied_back}
use Rattle.dby_types.specs.declared.value.Value.{Value}
use Rattle.dby_types.specs.declared.value.Value.TheVariants.{Null, Num, Text}
use Rattle.dby_types.specs.declared.value.Value.TheVariants.{Bool as Truth}
use Rattle.value_compare.specs.Order.{same_value, trimmed}
use Rattle.value_compare.specs.Text.{text_cmp, with_first, trimmed_text}
use Rattle.value_compare.proofs.OrderLemmas.{text_cmp_total}

numbers-equal : (a b : ℕ) → nat_cmp a b ≡ Equal → a ≡ b
numbers-equal a b h = subst (λ (o : Ordering). MatchOrdering o (a < b) (a ≡ b) (b < a)) h (ranked a b (nat_cmp a b) refl)

then-Equal-parts : (o p : Ordering) → ordering_then o p ≡ Equal → (o ≡ Equal) × (p ≡ Equal)
then-Equal-parts Less p h = absurd (cc)
then-Equal-parts Equal p h = (refl, h)
then-Equal-parts Greater p h = absurd (cc)

firsts-alike : (a b : ℕ) (xs ys : List ℕ) (o : Ordering) → ordering_then (nat_cmp a b) o ≡ Equal → (o ≡ Equal → xs ≡ ys) → with_first a xs ≡ with_first b ys
firsts-alike a b xs ys o h more =
    let parts : (nat_cmp a b ≡ Equal) × (o ≡ Equal) = then-Equal-parts (nat_cmp a b) o h in
    let same : a ≡ b = numbers-equal a b parts.0 in
    let rest : xs ≡ ys = more parts.1 in
    λ i. with_first (same i) (rest i)

-- texts that no blank tells apart are one without trailing blanks
pub trimmed_text-same : (a b : List ℕ) → text_cmp a b ≡ Equal → trimmed_text a ≡ trimmed_text b
trimmed_text-same [] [] h = refl
trimmed_text-same [] (y ∷ ys) h = firsts-alike 32 y [] (trimmed_text ys) (text_cmp [] ys) h (trimmed_text-same [] ys)
trimmed_text-same (x ∷ xs) [] h = firsts-alike x 32 (trimmed_text xs) [] (text_cmp xs []) h (trimmed_text-same xs [])
trimmed_text-same (x ∷ xs) (y ∷ ys) h = firsts-alike x y (trimmed_text xs) (trimmed_text ys) (text_cmp xs ys) h (trimmed_text-same xs ys)

tied-first : (b : ℕ) (bs ts : List ℕ) → text_cmp bs ts ≡ Equal → text_cmp (b ∷ bs) (with_first b ts) ≡ Equal
tied-first b bs [] h = go (b == 32) refl
  where
    go : (e : Bool) → (b == 32) ≡ e → text_cmp (b ∷ bs) (if e then [] else b ∷ []) ≡ Equal
    go true e =
        let blank : b ≡ 32 = (Decides-eqb b 32).0 e in
        ap (λ n. ordering_then (nat_cmp n 32) (text_cmp bs [])) blank ∙ h
    go false e = ap (λ o. ordering_then o (text_cmp bs [])) (tied_itself nat_cmp_total b) ∙ h
tied-first b bs (t ∷ ts) h = ap (λ o. ordering_then o (text_cmp bs (t ∷ ts))) (tied_itself nat_cmp_total b) ∙ h

-- a text is equal to itself without trailing blanks
pub text_cmp-trimmed : (text : List ℕ) → text_cmp text (trimmed_text text) ≡ Equal
text_cmp-trimmed [] = refl
text_cmp-trimmed (b ∷ bs) = tied-first b bs (trimmed_text bs) (text_cmp-trimmed bs)

pub text_cmp-alike : (a b : List ℕ) → trimmed_text a ≡ trimmed_text b → text_cmp a b ≡ Equal
text_cmp-alike a b e =
    text_cmp_total.congr a (trimmed_text a) b (text_cmp-trimmed a) ∙ ap (λ t. text_cmp t b) e
    ∙ tied_back text_cmp_total b (trimmed_text b) (text_cmp-trimmed b)

is_eq-Equal : (o : Ordering) → is_eq o ≡ true → o ≡ Equal
is_eq-Equal Less h = absurd (cc)
is_eq-Equal Equal h = refl
is_eq-Equal Greater h = absurd (cc)

same-trimmed : (a b : Value) → same_value a b ≡ true → trimmed a ≡ trimmed b
same-trimmed (Num a) (Num b) h = ap Num ((Decides-int_eq a b).0 h)
same-trimmed (Truth true) (Truth true) h = refl
same-trimmed (Truth false) (Truth false) h = refl
same-trimmed (Text a) (Text b) h = ap Text (trimmed_text-same a b (is_eq-Equal (text_cmp a b) h))
same-trimmed Null Null h = refl
same-trimmed (Truth true) (Truth false) h = absurd (cc)
same-trimmed (Truth false) (Truth true) h = absurd (cc)
same-trimmed (Num a) (Truth b) h = absurd (cc)
same-trimmed (Num a) (Text b) h = absurd (cc)
same-trimmed (Num a) Null h = absurd (cc)
same-trimmed (Truth a) (Num b) h = absurd (cc)
same-trimmed (Truth a) (Text b) h = absurd (cc)
same-trimmed (Truth a) Null h = absurd (cc)
same-trimmed (Text a) (Num b) h = absurd (cc)
same-trimmed (Text a) (Truth b) h = absurd (cc)
same-trimmed (Text a) Null h = absurd (cc)
same-trimmed Null (Num b) h = absurd (cc)
same-trimmed Null (Truth b) h = absurd (cc)
same-trimmed Null (Text b) h = absurd (cc)

trimmed-same : (a b : Value) → trimmed a ≡ trimmed b → same_value a b ≡ true
trimmed-same (Num a) (Num b) e = let h : a ≡ b = cc in (Decides-int_eq a b).1 h
trimmed-same (Truth true) (Truth true) e = refl
trimmed-same (Truth false) (Truth false) e = refl
trimmed-same (Text a) (Text b) e = let h : trimmed_text a ≡ trimmed_text b = cc in ap is_eq (text_cmp-alike a b h)
trimmed-same Null Null e = refl
trimmed-same (Truth true) (Truth false) e = absurd (cc)
trimmed-same (Truth false) (Truth true) e = absurd (cc)
trimmed-same (Num a) (Truth b) e = absurd (cc)
trimmed-same (Num a) (Text b) e = absurd (cc)
trimmed-same (Num a) Null e = absurd (cc)
trimmed-same (Truth a) (Num b) e = absurd (cc)
trimmed-same (Truth a) (Text b) e = absurd (cc)
trimmed-same (Truth a) Null e = absurd (cc)
trimmed-same (Text a) (Num b) e = absurd (cc)
trimmed-same (Text a) (Truth b) e = absurd (cc)
trimmed-same (Text a) Null e = absurd (cc)
trimmed-same Null (Num b) e = absurd (cc)
trimmed-same Null (Truth b) e = absurd (cc)
trimmed-same Null (Text b) e = absurd (cc)

pub same_value-Decides : (a b : Value) → Decides (same_value a b) (trimmed a ≡ trimmed b)
same_value-Decides a b = (same-trimmed a b, trimmed-same a b)

-- The order of values is total.
use Rattle.std.proofs.Common.{◌≡◌, ℕ, ℤ, pos, List, [], ◌∷◌, Bool, false, refl, sym, ap, ◌∙◌, subst, Ordering}
use Rattle.std.specs.Cmp.{IsTotalOrder, bool_cmp_total}
use Rattle.std.specs.Ordering.{nat_cmp, int_cmp, bool_cmp, ordering_then, ordering_reverse, then_cmp, on}
use Rattle.std.specs.declared.cmp.Ordering.TheVariants.{Less, Equal, Greater}
use Rattle.std.proofs.lemmas.Cmp.{nat_cmp_total, int_cmp_total, on_total, then_total, alike_right}
use Rattle.dby_types.specs.declared.value.Value.{Value}
use Rattle.dby_types.specs.declared.value.Value.TheVariants.{Null, Num, Text}
use Rattle.dby_types.specs.declared.value.Value.TheVariants.{Bool as Truth}
use Rattle.value_compare.specs.Order.{rank, value_cmp}
use Rattle.value_compare.specs.Text.{text_cmp}

-- one step of an order by first differences
then-antisymm : (o p r s : Ordering) → o ≡ ordering_reverse r → p ≡ ordering_reverse s → ordering_then o p ≡ ordering_reverse (ordering_then r s)
then-antisymm o p Less s h k = ap (λ x. ordering_then x p) h
then-antisymm o p Equal s h k = ap (λ x. ordering_then x p) h ∙ k
then-antisymm o p Greater s h k = ap (λ x. ordering_then x p) h

then-trans : (a b c : ℕ) (p q r : Ordering) → (p ≡ Less → q ≡ Less → r ≡ Less) → ordering_then (nat_cmp a b) p ≡ Less → ordering_then (nat_cmp b c) q ≡ Less → ordering_then (nat_cmp a c) r ≡ Less
then-trans a b c p q r more h k = go (nat_cmp a b) (nat_cmp b c) refl refl h k
  where
    go : (x y : Ordering) → nat_cmp a b ≡ x → nat_cmp b c ≡ y → ordering_then x p ≡ Less → ordering_then y q ≡ Less → ordering_then (nat_cmp a c) r ≡ Less
    go Less Less e f h k = ap (λ o. ordering_then o r) (nat_cmp_total.trans a b c e f)
    go Less Equal e f h k = ap (λ o. ordering_then o r) (sym (alike_right nat_cmp_total b c a f) ∙ e)
    go Less Greater e f h k = cc
    go Equal Less e f h k = ap (λ o. ordering_then o r) (nat_cmp_total.congr a b c e ∙ f)
    go Equal Equal e f h k = ap (λ o. ordering_then o r) (nat_cmp_total.congr a b c e ∙ f) ∙ more h k
    go Equal Greater e f h k = cc
    go Greater y e f h k = cc

then-congr : (a b c : ℕ) (p q r : Ordering) → (p ≡ Equal → q ≡ r) → ordering_then (nat_cmp a b) p ≡ Equal → ordering_then (nat_cmp a c) q ≡ ordering_then (nat_cmp b c) r
then-congr a b c p q r more h = go (nat_cmp a b) refl h
  where
    go : (x : Ordering) → nat_cmp a b ≡ x → ordering_then x p ≡ Equal → ordering_then (nat_cmp a c) q ≡ ordering_then (nat_cmp b c) r
    go Less e h = cc
    go Equal e h = ap (λ o. ordering_then o q) (nat_cmp_total.congr a b c e) ∙ ap (ordering_then (nat_cmp b c)) (more h)
    go Greater e h = cc

text-antisymm : (a b : List ℕ) → text_cmp a b ≡ ordering_reverse (text_cmp b a)
text-antisymm [] [] = refl
text-antisymm [] (y ∷ ys) = then-antisymm (nat_cmp 32 y) (text_cmp [] ys) (nat_cmp y 32) (text_cmp ys []) (nat_cmp_total.antisymm 32 y) (text-antisymm [] ys)
text-antisymm (x ∷ xs) [] = then-antisymm (nat_cmp x 32) (text_cmp xs []) (nat_cmp 32 x) (text_cmp [] xs) (nat_cmp_total.antisymm x 32) (text-antisymm xs [])
text-antisymm (x ∷ xs) (y ∷ ys) = then-antisymm (nat_cmp x y) (text_cmp xs ys) (nat_cmp y x) (text_cmp ys xs) (nat_cmp_total.antisymm x y) (text-antisymm xs ys)

text-trans : (a b c : List ℕ) → text_cmp a b ≡ Less → text_cmp b c ≡ Less → text_cmp a c ≡ Less
text-trans [] [] c h k = cc
text-trans (x ∷ xs) [] [] h k = cc
text-trans [] (y ∷ ys) [] h k = then-trans 32 y 32 (text_cmp [] ys) (text_cmp ys []) Equal (text-trans [] ys []) h k
text-trans [] (y ∷ ys) (z ∷ zs) h k = then-trans 32 y z (text_cmp [] ys) (text_cmp ys zs) (text_cmp [] zs) (text-trans [] ys zs) h k
text-trans (x ∷ xs) [] (z ∷ zs) h k = then-trans x 32 z (text_cmp xs []) (text_cmp [] zs) (text_cmp xs zs) (text-trans xs [] zs) h k
text-trans (x ∷ xs) (y ∷ ys) [] h k = then-trans x y 32 (text_cmp xs ys) (text_cmp ys []) (text_cmp xs []) (text-trans xs ys []) h k
text-trans (x ∷ xs) (y ∷ ys) (z ∷ zs) h k = then-trans x y z (text_cmp xs ys) (text_cmp ys zs) (text_cmp xs zs) (text-trans xs ys zs) h k

text-congr : (a b c : List ℕ) → text_cmp a b ≡ Equal → text_cmp a c ≡ text_cmp b c
text-congr [] [] c h = refl
text-congr [] (y ∷ ys) [] h = then-congr 32 y 32 (text_cmp [] ys) Equal (text_cmp ys []) (text-congr [] ys []) h
text-congr [] (y ∷ ys) (z ∷ zs) h = then-congr 32 y z (text_cmp [] ys) (text_cmp [] zs) (text_cmp ys zs) (text-congr [] ys zs) h
text-congr (x ∷ xs) [] [] h = then-congr x 32 32 (text_cmp xs []) (text_cmp xs []) Equal (text-congr xs [] []) h
text-congr (x ∷ xs) [] (z ∷ zs) h = then-congr x 32 z (text_cmp xs []) (text_cmp xs zs) (text_cmp [] zs) (text-congr xs [] zs) h
text-congr (x ∷ xs) (y ∷ ys) [] h = then-congr x y 32 (text_cmp xs ys) (text_cmp xs []) (text_cmp ys []) (text-congr xs ys []) h
text-congr (x ∷ xs) (y ∷ ys) (z ∷ zs) h = then-congr x y z (text_cmp xs ys) (text_cmp xs zs) (text_cmp ys zs) (text-congr xs ys zs) h

pub text_cmp_total : IsTotalOrder text_cmp
text_cmp_total = record { antisymm = text-antisymm; trans = text-trans; congr = text-congr }

-- a value as a number, a truth value, a text
abbrev number_in : Value → ℤ
number_in (Num n) = n
number_in v = pos 0

abbrev truth_in : Value → Bool
truth_in (Truth b) = b
truth_in v = false

abbrev text_in : Value → List ℕ
text_in (Text t) = t
text_in v = []

-- the order of values, one kind after the other
abbrev layered : Value → Value → Ordering
layered = then_cmp (on rank nat_cmp) (then_cmp (on number_in int_cmp) (then_cmp (on truth_in bool_cmp) (on text_in text_cmp)))

then-Equal : (o : Ordering) → o ≡ ordering_then o Equal
then-Equal Less = refl
then-Equal Equal = refl
then-Equal Greater = refl

value_cmp-layered : (a b : Value) → layered a b ≡ value_cmp a b
value_cmp-layered (Num a) (Num b) = sym (then-Equal (int_cmp a b))
value_cmp-layered (Truth a) (Truth b) = sym (then-Equal (bool_cmp a b))
value_cmp-layered (Num a) (Truth b) = refl
value_cmp-layered (Num a) (Text b) = refl
value_cmp-layered (Num a) Null = refl
value_cmp-layered (Truth a) (Num b) = refl
value_cmp-layered (Truth a) (Text b) = refl
value_cmp-layered (Truth a) Null = refl
value_cmp-layered (Text a) (Num b) = refl
value_cmp-layered (Text a) (Truth b) = refl
value_cmp-layered (Text a) (Text b) = refl
value_cmp-layered (Text a) Null = refl
value_cmp-layered Null (Num b) = refl
value_cmp-layered Null (Truth b) = refl
value_cmp-layered Null (Text b) = refl
value_cmp-layered Null Null = refl

pub value_cmp_total : IsTotalOrder value_cmp
value_cmp_total =
    let both : layered ≡ value_cmp = λ i a b. value_cmp-layered a b i in
    subst IsTotalOrder both
    (then_total (on_total rank nat_cmp_total)
    (then_total (on_total number_in int_cmp_total)
    (then_total (on_total truth_in bool_cmp_total) (on_total text_in text_cmp_total))))

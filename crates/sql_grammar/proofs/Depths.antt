-- The floor of a state never falls.
use Rattle.std.proofs.Common.{◌≡◌, ℕ, ◌+◌, ◌≤◌, max, zero, suc, List, [], ◌∷◌, ◌++◌, true, false, Option, Some, None, refl, sym, ap, subst, ◌∙◌, arith}
use Rattle.std.proofs.lemmas.Option.{none-some}
use Rattle.sql_grammar.specs.Syntax.{Plain, Sum, plus, minus, Product, times, Aggregate, count, total, least, greatest, none, with, Token, Tree, or, and, not, is, null, between, in_, dot, open_, close, comma, huge, compare, sum, product, call, number, text, truth, name, Or, And, Not, Compare, IsNull, Between, In, Add, Multiply, Sign, Number, Text, Truth, Column, ColumnOf, Brackets, CountAll, Call, negation}
use Rattle.sql_grammar.specs.Machine.{◌>>=◌, Place, First, Right, Low, High, Member, Level, level, Opener, Bracket, Calling, Mode, Operand, Whole, Tested, Named, Dotted, AtIs, AtIsNot, AtNot, AtIn, AtCall, AtStar, State, state, fresh, signs_of, nots_of, close_out, expr_at, Outer, behind, named, step, run, ended, start, placed, first_at, opened_of, negated, operand, at_call, product_of, sum_of, and_of, or_of, number_step, huge_step, star_step}
use Rattle.sql_grammar.specs.Depth.{depth, depths, Shallow, up_signs, up_product, up_sum, up_place, up_nots, up_tree, from_pred, from_term, level_up, outer_up, operand_up, wanted_up, call_up, floor}
use Rattle.sql_grammar.proofs.Complete.{run-then, step-then, bind_some, reads-spelled, IsReading}
use Rattle.sql_grammar.proofs.Sound.{Toks, Holds, StateAt, ModeAt, by-first, step-holds, run-holds, start-holds, spelled-read}
use Rattle.sql_grammar.proofs.Viable.{by-pred, closes}

pub depth-pos : (e : Tree) → 1 ≤ depth e
depth-pos (Or a b) = omega arith
depth-pos (And a b) = omega arith
depth-pos (Not a) = omega arith
depth-pos (Compare c a b) = omega arith
depth-pos (IsNull n a) = omega arith
depth-pos (Between n a b c) = omega arith
depth-pos (In n a bs) = omega arith
depth-pos (Add x a b) = omega arith
depth-pos (Multiply x a b) = omega arith
depth-pos (Sign x a) = omega arith
depth-pos (Number x n) = omega arith
depth-pos (Text t) = omega arith
depth-pos (Truth b) = omega arith
depth-pos (Column n) = omega arith
depth-pos (ColumnOf t n) = omega arith
depth-pos (Brackets a) = omega arith
depth-pos CountAll = omega arith
depth-pos (Call x a) = omega arith

-- ---- what is put together is as deep as its place says

signs-depth : (ss : List Sum) (e : Tree) → depth (signs_of ss e) ≡ up_signs ss (depth e)
signs-depth [] e = refl
signs-depth (x ∷ ss) e = signs-depth ss (Sign x e)

product-depth : (t : Option (Tree × Product)) (e : Tree) → depth (product_of t e) ≡ up_product t (depth e)
product-depth None e = refl
product-depth (Some x) e = refl

sum-depth : (t : Option (Tree × Sum)) (e : Tree) → depth (sum_of t e) ≡ up_sum t (depth e)
sum-depth None e = refl
sum-depth (Some x) e = refl

nots-depth : (n : ℕ) (e : Tree) → depth (nots_of n e) ≡ up_nots n (depth e)
nots-depth zero e = refl
nots-depth (suc n) e = nots-depth n (Not e)

and-depth : (a : Option Tree) (e : Tree) → depth (and_of a e) ≡ up_tree a (depth e)
and-depth None e = refl
and-depth (Some x) e = refl

or-depth : (a : Option Tree) (e : Tree) → depth (or_of a e) ≡ up_tree a (depth e)
or-depth None e = refl
or-depth (Some x) e = refl

-- ---- a deeper operand gives no less

signs-mono : (ss : List Sum) (c d : ℕ) → c ≤ d → up_signs ss c ≤ up_signs ss d
signs-mono [] c d h = h
signs-mono (x ∷ ss) c d h = signs-mono ss (c + 1) (d + 1) (omega arith)

product-mono : (t : Option (Tree × Product)) (c d : ℕ) → c ≤ d → up_product t c ≤ up_product t d
product-mono None c d h = h
product-mono (Some x) c d h = omega arith

sum-mono : (t : Option (Tree × Sum)) (c d : ℕ) → c ≤ d → up_sum t c ≤ up_sum t d
sum-mono None c d h = h
sum-mono (Some x) c d h = omega arith

place-mono : (p : Place) (c d : ℕ) → c ≤ d → up_place p c ≤ up_place p d
place-mono First c d h = h
place-mono (Right x a) c d h = omega arith
place-mono (Low x a) c d h = omega arith
place-mono (High x a b) c d h = omega arith
place-mono (Member x a b) c d h = omega arith

nots-mono : (n c d : ℕ) → c ≤ d → up_nots n c ≤ up_nots n d
nots-mono zero c d h = h
nots-mono (suc n) c d h = nots-mono n (c + 1) (d + 1) (omega arith)

tree-mono : (a : Option Tree) (c d : ℕ) → c ≤ d → up_tree a c ≤ up_tree a d
tree-mono None c d h = h
tree-mono (Some x) c d h = omega arith

pred-mono : (o a : Option Tree) (n c d : ℕ) → c ≤ d → from_pred o a n c ≤ from_pred o a n d
pred-mono o a n c d h = tree-mono o _ _ (tree-mono a _ _ (nots-mono n c d h))

sums-mono : (o a : Option Tree) (n : ℕ) (p : Place) (c d : ℕ) → c ≤ d → from_pred o a n (up_place p c) ≤ from_pred o a n (up_place p d)
sums-mono o a n p c d h = pred-mono o a n _ _ (place-mono p c d h)

term-mono : (o a : Option Tree) (n : ℕ) (p : Place) (s : Option (Tree × Sum)) (c d : ℕ) → c ≤ d → from_term o a n p s c ≤ from_term o a n p s d
term-mono o a n p s c d h = sums-mono o a n p _ _ (sum-mono s c d h)

level-mono : (k : Level) (c d : ℕ) → c ≤ d → level_up k c ≤ level_up k d
level-mono (level o a n p s t ss) c d h = term-mono o a n p s _ _ (product-mono t _ _ (signs-mono ss c d h))

outer-mono : (out : Outer) (c d : ℕ) → c ≤ d → outer_up out c ≤ outer_up out d
outer-mono [] c d h = h
outer-mono (x ∷ out) c d h = outer-mono out _ _ (level-mono x.1 (c + 1) (d + 1) (omega arith))

-- ---- where an operand is wanted

abbrev NotFresh : Level → Type 0
NotFresh (level None None zero First None None []) = ⊥
NotFresh _ = Unit {0}

other : (k : Level) (out : Outer) → NotFresh k → wanted_up k out ≡ outer_up out (operand_up k)
other (level None None zero First None None []) out h = absurd h
other _ out h = refl

wants : (c : ℕ) (k : Level) (out : Outer) → NotFresh k → c ≤ outer_up out (operand_up k) → c ≤ wanted_up k out
wants c k out h q = let P : ℕ → Type 0 = λ n. c ≤ n in subst P (sym (other k out h)) q

nf-product : (o a : Option Tree) (n : ℕ) (p : Place) (s : Option (Tree × Sum)) (x : Tree × Product) → NotFresh (level o a n p s (Some x) [])
nf-product None None zero First None x = tt
nf-product _ _ _ _ _ x = tt

nf-sum : (o a : Option Tree) (n : ℕ) (p : Place) (x : Tree × Sum) → NotFresh (level o a n p (Some x) None [])
nf-sum None None zero First x = tt
nf-sum _ _ _ _ x = tt

abbrev IsPlaced : Place → Type 0
IsPlaced First = ⊥
IsPlaced _ = Unit {0}

nf-place : (o a : Option Tree) (n : ℕ) (p : Place) → IsPlaced p → NotFresh (level o a n p None None [])
nf-place None None zero First h = absurd h
nf-place None None zero (Right c x) h = tt
nf-place None None zero (Low c x) h = tt
nf-place None None zero (High c x y) h = tt
nf-place None None zero (Member c x y) h = tt
nf-place None None (suc n) p h = tt
nf-place None (Some x) n p h = tt
nf-place (Some x) a n p h = tt

nf-and : (o : Option Tree) (e : Tree) → NotFresh (level o (Some e) zero First None None [])
nf-and None e = tt
nf-and (Some x) e = tt

-- ---- behind a whole operand

as-deep : (P : ℕ → Type 0) (c d : ℕ) → c ≡ d → P d → P c
as-deep P c d q h = subst P (sym q) h

-- the depth of the last term and sum
term-depth : (t : Option (Tree × Product)) (ss : List Sum) (e : Tree) → depth (product_of t (signs_of ss e)) ≡ up_product t (up_signs ss (depth e))
term-depth t ss e = product-depth t (signs_of ss e) ∙ ap (λ d. up_product t d) (signs-depth ss e)

sums-depth : (s : Option (Tree × Sum)) (t : Option (Tree × Product)) (ss : List Sum) (e : Tree) → depth (sum_of s (product_of t (signs_of ss e))) ≡ up_sum s (up_product t (up_signs ss (depth e)))
sums-depth s t ss e = sum-depth s (product_of t (signs_of ss e)) ∙ ap (λ d. up_sum s d) (term-depth t ss e)

below-eq : (c d : ℕ) → c ≡ d → (m : ℕ) → d ≤ m → c ≤ m
below-eq c d q m h = omega (arith, q, h)

abbrev Rises : ℕ → Option State → Type 0
Rises c r = Holds (λ y. c ≤ floor y) r

-- behind the first sum f comes next
first-rises : (e : Tree) (o a : Option Tree) (n : ℕ) (p : Place) (s : Option (Tree × Sum)) (t : Option (Tree × Product)) (ss : List Sum) (out : Outer) (f : Tree × Level → State)
    → ((d : Tree) → outer_up out (from_pred o a n (depth d)) ≤ floor (f (d, level o a n First None None [])))
    → Rises (floor (state (Whole e) (level o a n p s t ss) out)) (first_at (Whole e) (level o a n p s t ss) >>= λ x. Some (f x))
first-rises e o a n First s t ss out f h =
    let q : up_sum s (up_product t (up_signs ss (depth e))) ≡ depth (sum_of s (product_of t (signs_of ss e))) = sym (sums-depth s t ss e) in
    below-eq _ _ (ap (λ d. outer_up out (from_pred o a n d)) q) _ (h (sum_of s (product_of t (signs_of ss e))))
first-rises e o a n (Right c x) s t ss out f h = tt
first-rises e o a n (Low c x) s t ss out f h = tt
first-rises e o a n (High c x y) s t ss out f h = tt
first-rises e o a n (Member c x y) s t ss out f h = tt

placed-rises : (o a : Option Tree) (n : ℕ) (out : Outer) (q : Tree → Place) → ((d : Tree) → IsPlaced (q d)) → ((d : Tree) → depth d ≤ up_place (q d) 1) → (d : Tree)
    → outer_up out (from_pred o a n (depth d)) ≤ floor (state Operand (level o a n (q d) None None []) out)
placed-rises o a n out q f g d = wants _ (level o a n (q d) None None []) out (nf-place o a n (q d) (f d)) (outer-mono out _ _ (pred-mono o a n _ _ (g d)))

-- what ends a pred, and so a conj
conj-depth : (o a : Option Tree) (n : ℕ) (d : Tree) → depth (and_of a (nots_of n d)) ≡ up_tree a (up_nots n (depth d))
conj-depth o a n d = and-depth a (nots_of n d) ∙ ap (λ c. up_tree a c) (nots-depth n d)

ends-conj : (o a : Option Tree) (n : ℕ) (d : Tree) (c : ℕ) (out : Outer) → c ≡ depth d
    → outer_up out (from_pred o a n c) ≤ floor (state Operand (level o (Some (and_of a (nots_of n d))) 0 First None None []) out)
ends-conj o a n d c out q =
    wants _ (level o (Some (and_of a (nots_of n d))) 0 First None None []) out (nf-and o (and_of a (nots_of n d)))
    (outer-mono out _ _ (tree-mono o _ _ (below-eq _ _ (ap (λ d. up_tree a (up_nots n d)) q ∙ sym (conj-depth o a n d)) _ (omega arith))))

ends-expr : (o a : Option Tree) (n : ℕ) (d : Tree) (c : ℕ) → c ≡ depth d → from_pred o a n c ≡ depth (or_of o (and_of a (nots_of n d)))
ends-expr o a n d c q = ap (λ d. from_pred o a n d) q ∙ sym (or-depth o (and_of a (nots_of n d)) ∙ ap (λ c. up_tree o c) (conj-depth o a n d))

ends-or : (o a : Option Tree) (n : ℕ) (d : Tree) (c : ℕ) (out : Outer) → c ≡ depth d
    → outer_up out (from_pred o a n c) ≤ floor (state Operand (level (Some (or_of o (and_of a (nots_of n d)))) None 0 First None None []) out)
ends-or o a n d c out q = outer-mono out _ _ (below-eq _ _ (ends-expr o a n d c q) _ (omega arith))

ends-close : (o a : Option Tree) (n : ℕ) (d : Tree) (c : ℕ) (out : Outer) → c ≡ depth d
    → Rises (outer_up out (from_pred o a n c)) (close_out out (or_of o (and_of a (nots_of n d))))
ends-close o a n d c [] q = tt
ends-close o a n d c ((Bracket, k) ∷ out) q = outer-mono out _ _ (level-mono k _ _ (below-eq _ _ (ap (λ c. c + 1) (ends-expr o a n d c q)) _ (omega arith)))
ends-close o a n d c ((Calling x, k) ∷ out) q = outer-mono out _ _ (level-mono k _ _ (below-eq _ _ (ap (λ c. c + 1) (ends-expr o a n d c q)) _ (omega arith)))

whole-rises : (t : Token) (e : Tree) (k : Level) (out : Outer) → Rises (floor (state (Whole e) k out)) (behind t (Whole e) k out)
whole-rises (product x) e (level o a n p s t ss) out =
    wants _ (level o a n p s (Some (product_of t (signs_of ss e), x)) []) out (nf-product o a n p s (product_of t (signs_of ss e), x))
    (outer-mono out _ _ (term-mono o a n p s _ _ (below-eq _ _ (sym (term-depth t ss e)) _ (omega arith))))
whole-rises (sum x) e (level o a n p s t ss) out =
    wants _ (level o a n p (Some (sum_of s (product_of t (signs_of ss e)), x)) None []) out (nf-sum o a n p (sum_of s (product_of t (signs_of ss e)), x))
    (outer-mono out _ _ (sums-mono o a n p _ _ (below-eq _ _ (sym (sums-depth s t ss e)) _ (omega arith))))
whole-rises (compare c) e (level o a n p s t ss) out = first-rises e o a n p s t ss out (λ x. state Operand (placed x.1 (Right c x.0)) out) (placed-rises o a n out (λ d. Right c d) (λ d. tt) (λ d. omega arith))
whole-rises is e (level o a n p s t ss) out = first-rises e o a n p s t ss out (λ x. state (AtIs x.0) x.1 out) (λ d. outer-mono out _ _ (pred-mono o a n _ _ (omega arith)))
whole-rises not e (level o a n p s t ss) out = first-rises e o a n p s t ss out (λ x. state (AtNot x.0) x.1 out) (λ d. outer-mono out _ _ (pred-mono o a n _ _ (omega arith)))
whole-rises between e (level o a n p s t ss) out = first-rises e o a n p s t ss out (λ x. state Operand (placed x.1 (Low false x.0)) out) (placed-rises o a n out (λ d. Low false d) (λ d. tt) (λ d. omega arith))
whole-rises in_ e (level o a n p s t ss) out = first-rises e o a n p s t ss out (λ x. state (AtIn false x.0) x.1 out) (λ d. outer-mono out _ _ (pred-mono o a n _ _ (omega arith)))
whole-rises and e (level o a n First s t ss) out = ends-conj o a n (sum_of s (product_of t (signs_of ss e))) _ out (sym (sums-depth s t ss e))
whole-rises and e (level o a n (Right c x) s t ss) out = ends-conj o a n (Compare c x (sum_of s (product_of t (signs_of ss e)))) _ out (ap (λ d. max (depth x) d + 1) (sym (sums-depth s t ss e)))
whole-rises and e (level o a n (High b x y) s t ss) out = ends-conj o a n (Between b x y (sum_of s (product_of t (signs_of ss e)))) _ out (ap (λ d. max (max (depth x) (depth y)) d + 1) (sym (sums-depth s t ss e)))
whole-rises and e (level o a n (Low b x) s t ss) out =
    wants _ (level o a n (High b x (sum_of s (product_of t (signs_of ss e)))) None None []) out (nf-place o a n (High b x (sum_of s (product_of t (signs_of ss e)))) tt)
    (outer-mono out _ _ (pred-mono o a n _ _ (below-eq _ _ (ap (λ d. max (depth x) d + 1) (sym (sums-depth s t ss e))) _ (omega arith))))
whole-rises and e (level o a n (Member b x xs) s t ss) out = tt
whole-rises or e (level o a n First s t ss) out = ends-or o a n (sum_of s (product_of t (signs_of ss e))) _ out (sym (sums-depth s t ss e))
whole-rises or e (level o a n (Right c x) s t ss) out = ends-or o a n (Compare c x (sum_of s (product_of t (signs_of ss e)))) _ out (ap (λ d. max (depth x) d + 1) (sym (sums-depth s t ss e)))
whole-rises or e (level o a n (High b x y) s t ss) out = ends-or o a n (Between b x y (sum_of s (product_of t (signs_of ss e)))) _ out (ap (λ d. max (max (depth x) (depth y)) d + 1) (sym (sums-depth s t ss e)))
whole-rises or e (level o a n (Low b x) s t ss) out = tt
whole-rises or e (level o a n (Member b x xs) s t ss) out = tt
whole-rises comma e (level o a n (Member b x xs) s t ss) out =
    wants _ (level o a n (Member b x (with xs (sum_of s (product_of t (signs_of ss e))))) None None []) out (nf-place o a n (Member b x (with xs (sum_of s (product_of t (signs_of ss e))))) tt)
    (outer-mono out _ _ (pred-mono o a n _ _ (below-eq _ _ (ap (λ d. max (depth x) (max (depths xs) d) + 1) (sym (sums-depth s t ss e))) _ (omega arith))))
whole-rises comma e (level o a n First s t ss) out = tt
whole-rises comma e (level o a n (Right c x) s t ss) out = tt
whole-rises comma e (level o a n (Low b x) s t ss) out = tt
whole-rises comma e (level o a n (High b x y) s t ss) out = tt
whole-rises close e (level o a n First s t ss) out = ends-close o a n (sum_of s (product_of t (signs_of ss e))) _ out (sym (sums-depth s t ss e))
whole-rises close e (level o a n (Right c x) s t ss) out = ends-close o a n (Compare c x (sum_of s (product_of t (signs_of ss e)))) _ out (ap (λ d. max (depth x) d + 1) (sym (sums-depth s t ss e)))
whole-rises close e (level o a n (High b x y) s t ss) out = ends-close o a n (Between b x y (sum_of s (product_of t (signs_of ss e)))) _ out (ap (λ d. max (max (depth x) (depth y)) d + 1) (sym (sums-depth s t ss e)))
whole-rises close e (level o a n (Low b x) s t ss) out = tt
whole-rises close e (level o a n (Member b x xs) s t ss) out =
    outer-mono out _ _ (pred-mono o a n _ _ (below-eq _ _ (ap (λ d. max (depth x) (max (depths xs) d) + 1) (sym (sums-depth s t ss e))) _ (omega arith)))
whole-rises _ e (level o a n p s t ss) out = tt

tested-rises : (t : Token) (e : Tree) (o a : Option Tree) (n : ℕ) (out : Outer) → Rises (floor (state (Tested e) (level o a n First None None []) out)) (behind t (Tested e) (level o a n First None None []) out)
tested-rises and e o a n out = ends-conj o a n e _ out refl
tested-rises or e o a n out = ends-or o a n e _ out refl
tested-rises close e o a n out = ends-close o a n e _ out refl
tested-rises _ e o a n out = tt

named-rises : (t : Token) (x : List ℕ) (k : Level) (out : Outer) → Rises (floor (state (Named x) k out)) (named t x k out)
named-rises dot x k out = omega arith
named-rises (product y) x k out = whole-rises (product y) (Column x) k out
named-rises (sum y) x k out = whole-rises (sum y) (Column x) k out
named-rises (compare y) x k out = whole-rises (compare y) (Column x) k out
named-rises is x k out = whole-rises is (Column x) k out
named-rises not x k out = whole-rises not (Column x) k out
named-rises between x k out = whole-rises between (Column x) k out
named-rises in_ x k out = whole-rises in_ (Column x) k out
named-rises and x k out = whole-rises and (Column x) k out
named-rises or x k out = whole-rises or (Column x) k out
named-rises comma x k out = whole-rises comma (Column x) k out
named-rises close x k out = whole-rises close (Column x) k out
named-rises _ x k out = tt

-- ---- in an operand's place, and in the middle of a test

operand-below : (k : Level) → operand_up k ≤ level_up k 1
operand-below (level o a n p s t []) = omega arith
operand-below (level o a n p s t (x ∷ ss)) = term-mono o a n p s _ _ (product-mono t _ _ (signs-mono ss _ _ (omega arith)))

wanted-below : (k : Level) (out : Outer) → wanted_up k out ≤ outer_up out (level_up k 1)
wanted-below (level None None zero First None None []) ((Calling count, j) ∷ out) = outer-mono out _ _ (level-mono j _ _ (omega arith))
wanted-below k out = outer-mono out _ _ (operand-below k)

chain : (a b c : ℕ) → a ≤ b → b ≤ c → a ≤ c
chain a b c h g = omega arith

same : (a : ℕ) → a ≤ a
same a = omega arith

nf-not : (o a : Option Tree) (n : ℕ) → NotFresh (level o a (suc n) First None None [])
nf-not None None n = tt
nf-not None (Some a) n = tt
nf-not (Some o) a n = tt

nf-sign : (o a : Option Tree) (n : ℕ) (p : Place) (s : Option (Tree × Sum)) (t : Option (Tree × Product)) (x : Sum) (ss : List Sum) → NotFresh (level o a n p s t (x ∷ ss))
nf-sign None None zero First None None x ss = tt
nf-sign _ _ _ _ _ _ x ss = tt

signless : (o a : Option Tree) (n : ℕ) (p : Place) (s : Option (Tree × Sum)) (t : Option (Tree × Product)) (x : Sum) (ss : List Sum) (out : Outer)
    → wanted_up (level o a n p s t (x ∷ ss)) out ≤ outer_up out (level_up (level o a n p s t ss) 1)
signless o a n p s t x ss out = below-eq _ _ (other (level o a n p s t (x ∷ ss)) out (nf-sign o a n p s t x ss)) _ (same _)

negated-rises : (k : Level) (out : Outer) → Rises (wanted_up k out) (negated k out)
negated-rises (level o a n First None None []) out =
    wants _ (level o a (suc n) First None None []) out (nf-not o a n)
    (chain _ _ _ (wanted-below (level o a n First None None []) out) (outer-mono out _ _ (tree-mono o _ _ (tree-mono a _ _ (nots-mono n _ _ (omega arith))))))
negated-rises (level o a n First (Some y) t ss) out = tt
negated-rises (level o a n First None (Some y) ss) out = tt
negated-rises (level o a n First None None (y ∷ ss)) out = tt
negated-rises (level o a n _ s t ss) out = tt

number-rises : (x : ℕ) (k : Level) (out : Outer) → wanted_up k out ≤ floor (number_step x k out)
number-rises x (level o a n p s t []) out = wanted-below (level o a n p s t []) out
number-rises x (level o a n p s t (y ∷ ss)) out = signless o a n p s t y ss out

huge-rises : (k : Level) (out : Outer) → Rises (wanted_up k out) (huge_step k out)
huge-rises (level o a n p s t (minus ∷ ss)) out = signless o a n p s t minus ss out
huge-rises (level o a n p s t []) out = tt
huge-rises (level o a n p s t (plus ∷ ss)) out = tt

star-rises : (x : Product) (k : Level) (out : Outer) → Rises (wanted_up k out) (star_step x k out)
star-rises times (level None None zero First None None []) ((Calling count, k) ∷ out) = same _
star-rises _ _ _ = tt

call-rises : (x : Aggregate) (k : Level) (out : Outer) → wanted_up k out ≤ outer_up out (level_up k (call_up x))
call-rises count k out = wanted-below k out
call-rises _ k out = chain _ _ _ (wanted-below k out) (outer-mono out _ _ (level-mono k _ _ (omega arith)))

operand-rises : (t : Token) (k : Level) (out : Outer) → Rises (wanted_up k out) (operand t k out)
operand-rises not k out = negated-rises k out
operand-rises (sum x) (level o a n p s t ss) out = wants _ (level o a n p s t (x ∷ ss)) out (nf-sign o a n p s t x ss) (wanted-below (level o a n p s t ss) out)
operand-rises (number x) k out = number-rises x k out
operand-rises huge k out = huge-rises k out
operand-rises (text x) k out = wanted-below k out
operand-rises (truth x) k out = wanted-below k out
operand-rises (name w x) k out = wanted-below k out
operand-rises open_ k out = chain _ _ _ (wanted-below k out) (outer-mono out _ _ (level-mono k _ _ (omega arith)))
operand-rises (call x) k out = call-rises x k out
operand-rises (product x) k out = star-rises x k out
operand-rises _ k out = tt

at-call-rises : (t : Token) (x : Aggregate) (k : Level) (out : Outer) → Rises (outer_up out (level_up k (call_up x))) (at_call t x k out)
at-call-rises open_ count k out = same _
at-call-rises open_ total k out = same _
at-call-rises open_ least k out = same _
at-call-rises open_ greatest k out = same _
at-call-rises _ x k out = tt

pub step-rises : (x : State) (t : Token) (ts : Toks) → StateAt x ts → Rises (floor x) (step x t)
step-rises (state Operand k out) t ts h = operand-rises t k out
step-rises (state (Whole e) k out) t ts h = whole-rises t e k out
step-rises (state (Tested e) k out) t ts (us, vs, H, h, q) = by-pred (λ k. Rises (floor (state (Tested e) k out)) (behind t (Tested e) k out)) e k vs h (λ o a n. tested-rises t e o a n out)
step-rises (state (Named x) k out) t ts h = named-rises t x k out
step-rises (state (Dotted x) k out) (name w y) ts h = same _
step-rises (state (Dotted x) k out) _ ts h = tt
step-rises (state (AtIs e) k out) null ts h = same _
step-rises (state (AtIs e) k out) not ts h = same _
step-rises (state (AtIs e) k out) _ ts h = tt
step-rises (state (AtIsNot e) k out) null ts h = same _
step-rises (state (AtIsNot e) k out) _ ts h = tt
step-rises (state (AtNot e) k out) in_ ts h = same _
step-rises (state (AtNot e) k out) between ts (us, vs, H, h, q) =
    by-first (λ k. floor (state (AtNot e) k out) ≤ floor (state Operand (placed k (Low true e)) out)) e k (not ∷ []) vs h
    (λ o a n w. wants _ (level o a n (Low true e) None None []) out (nf-place o a n (Low true e) tt) (outer-mono out _ _ (pred-mono o a n _ _ (omega arith))))
step-rises (state (AtNot e) k out) _ ts h = tt
step-rises (state (AtIn b e) k out) open_ ts (us, vs, H, h, q) =
    by-first (λ k. floor (state (AtIn b e) k out) ≤ floor (state Operand (placed k (Member b e none)) out)) e k (negation b ++ in_ ∷ []) vs h
    (λ o a n w. wants _ (level o a n (Member b e none) None None []) out (nf-place o a n (Member b e none) tt) (outer-mono out _ _ (pred-mono o a n _ _ (omega arith))))
step-rises (state (AtIn b e) k out) _ ts h = tt
step-rises (state (AtCall x) k out) t ts h = at-call-rises t x k out
step-rises (state AtStar k out) close ts h = same _
step-rises (state AtStar k out) _ ts h = tt

-- ---- over whole runs

pub run-rises : (x y : State) (ts us : Toks) → StateAt x ts → run x us ≡ Some y → floor x ≤ floor y
run-rises x y ts [] h q = let P : Option State → Type 0 = λ r. Holds (λ z. floor x ≤ floor z) r in subst P q (same (floor x))
run-rises x y ts (t ∷ us) h q = go (λ z g r. run-rises z y (ts ++ t ∷ []) us g r) (step x t) (step-holds x t ts h) (step-rises x t ts h) q
  where
    go : ((z : State) → StateAt z (ts ++ t ∷ []) → run z us ≡ Some y → floor z ≤ floor y) → (r : Option State) → Holds (λ z. StateAt z (ts ++ t ∷ [])) r → Rises (floor x) r → (r >>= λ z. run z us) ≡ Some y → floor x ≤ floor y
    go f None g w q = absurd (none-some y q)
    go f (Some z) g w q = chain _ _ _ w (f z g q)

-- where an expr ends its depth is the floor of its level
some-same : {A : Type 0} (P : A → Type 0) (a b : A) → Some a ≡ Some b → P a → P b
some-same {A = A} P a b q h = let Q : Option A → Type 0 = Holds P in subst Q q h

ended-floor : (m : Mode) (k : Level) (ts : Toks) (e : Tree) → ModeAt m k ts → ended (state m k []) ≡ Some e → floor (state m k []) ≤ depth e
ended-floor (Whole d) (level o a n First s t ss) ts e h q = some-same (λ e. floor (state (Whole d) (level o a n First s t ss) []) ≤ depth e) _ e q (below-eq _ _ (ends-expr o a n (sum_of s (product_of t (signs_of ss d))) _ (sym (sums-depth s t ss d))) _ (same _))
ended-floor (Whole d) (level o a n (Right c x) s t ss) ts e h q = some-same (λ e. floor (state (Whole d) (level o a n (Right c x) s t ss) []) ≤ depth e) _ e q (below-eq _ _ (ends-expr o a n (Compare c x (sum_of s (product_of t (signs_of ss d)))) _ (ap (λ d. max (depth x) d + 1) (sym (sums-depth s t ss d)))) _ (same _))
ended-floor (Whole d) (level o a n (High b x y) s t ss) ts e h q = some-same (λ e. floor (state (Whole d) (level o a n (High b x y) s t ss) []) ≤ depth e) _ e q (below-eq _ _ (ends-expr o a n (Between b x y (sum_of s (product_of t (signs_of ss d)))) _ (ap (λ d. max (max (depth x) (depth y)) d + 1) (sym (sums-depth s t ss d)))) _ (same _))
ended-floor (Whole d) (level o a n (Low b x) s t ss) ts e h q = absurd (none-some e q)
ended-floor (Whole d) (level o a n (Member b x xs) s t ss) ts e h q = absurd (none-some e q)
ended-floor (Named z) (level o a n First s t ss) ts e h q = some-same (λ e. floor (state (Named z) (level o a n First s t ss) []) ≤ depth e) _ e q (below-eq _ _ (ends-expr o a n (sum_of s (product_of t (signs_of ss (Column z)))) _ (sym (sums-depth s t ss (Column z)))) _ (same _))
ended-floor (Named z) (level o a n (Right c x) s t ss) ts e h q = some-same (λ e. floor (state (Named z) (level o a n (Right c x) s t ss) []) ≤ depth e) _ e q (below-eq _ _ (ends-expr o a n (Compare c x (sum_of s (product_of t (signs_of ss (Column z))))) _ (ap (λ d. max (depth x) d + 1) (sym (sums-depth s t ss (Column z))))) _ (same _))
ended-floor (Named z) (level o a n (High b x y) s t ss) ts e h q = some-same (λ e. floor (state (Named z) (level o a n (High b x y) s t ss) []) ≤ depth e) _ e q (below-eq _ _ (ends-expr o a n (Between b x y (sum_of s (product_of t (signs_of ss (Column z))))) _ (ap (λ d. max (max (depth x) (depth y)) d + 1) (sym (sums-depth s t ss (Column z))))) _ (same _))
ended-floor (Named z) (level o a n (Low b x) s t ss) ts e h q = absurd (none-some e q)
ended-floor (Named z) (level o a n (Member b x xs) s t ss) ts e h q = absurd (none-some e q)
ended-floor (Tested d) k ts e h q = (by-pred (λ k. ended (state (Tested d) k []) ≡ Some e → floor (state (Tested d) k []) ≤ depth e) d k ts h
    (λ o a n q. some-same (λ e. floor (state (Tested d) (level o a n First None None []) []) ≤ depth e) _ e q (below-eq _ _ (ends-expr o a n d _ refl) _ (same _)))) q
ended-floor _ (level o a n p s t ss) ts e h q = absurd (none-some e q)

ended-equal : (m : Mode) (k : Level) (ts : Toks) (e : Tree) → ModeAt m k ts → ended (state m k []) ≡ Some e → floor (state m k []) ≡ depth e
ended-equal (Whole d) (level o a n First s t ss) ts e h q = some-same (λ e. floor (state (Whole d) (level o a n First s t ss) []) ≡ depth e) _ e q ((ends-expr o a n (sum_of s (product_of t (signs_of ss d))) _ (sym (sums-depth s t ss d))))
ended-equal (Whole d) (level o a n (Right c x) s t ss) ts e h q = some-same (λ e. floor (state (Whole d) (level o a n (Right c x) s t ss) []) ≡ depth e) _ e q ((ends-expr o a n (Compare c x (sum_of s (product_of t (signs_of ss d)))) _ (ap (λ d. max (depth x) d + 1) (sym (sums-depth s t ss d)))))
ended-equal (Whole d) (level o a n (High b x y) s t ss) ts e h q = some-same (λ e. floor (state (Whole d) (level o a n (High b x y) s t ss) []) ≡ depth e) _ e q ((ends-expr o a n (Between b x y (sum_of s (product_of t (signs_of ss d)))) _ (ap (λ d. max (max (depth x) (depth y)) d + 1) (sym (sums-depth s t ss d)))))
ended-equal (Whole d) (level o a n (Low b x) s t ss) ts e h q = absurd (none-some e q)
ended-equal (Whole d) (level o a n (Member b x xs) s t ss) ts e h q = absurd (none-some e q)
ended-equal (Named z) (level o a n First s t ss) ts e h q = some-same (λ e. floor (state (Named z) (level o a n First s t ss) []) ≡ depth e) _ e q ((ends-expr o a n (sum_of s (product_of t (signs_of ss (Column z)))) _ (sym (sums-depth s t ss (Column z)))))
ended-equal (Named z) (level o a n (Right c x) s t ss) ts e h q = some-same (λ e. floor (state (Named z) (level o a n (Right c x) s t ss) []) ≡ depth e) _ e q ((ends-expr o a n (Compare c x (sum_of s (product_of t (signs_of ss (Column z))))) _ (ap (λ d. max (depth x) d + 1) (sym (sums-depth s t ss (Column z))))))
ended-equal (Named z) (level o a n (High b x y) s t ss) ts e h q = some-same (λ e. floor (state (Named z) (level o a n (High b x y) s t ss) []) ≡ depth e) _ e q ((ends-expr o a n (Between b x y (sum_of s (product_of t (signs_of ss (Column z))))) _ (ap (λ d. max (max (depth x) (depth y)) d + 1) (sym (sums-depth s t ss (Column z))))))
ended-equal (Named z) (level o a n (Low b x) s t ss) ts e h q = absurd (none-some e q)
ended-equal (Named z) (level o a n (Member b x xs) s t ss) ts e h q = absurd (none-some e q)
ended-equal (Tested d) k ts e h q = (by-pred (λ k. ended (state (Tested d) k []) ≡ Some e → floor (state (Tested d) k []) ≡ depth e) d k ts h
    (λ o a n q. some-same (λ e. floor (state (Tested d) (level o a n First None None []) []) ≡ depth e) _ e q (ends-expr o a n d _ refl))) q
ended-equal _ (level o a n p s t ss) ts e h q = absurd (none-some e q)

ended-state : (x : State) (ts : Toks) (e : Tree) → StateAt x ts → ended x ≡ Some e → floor x ≤ depth e
ended-state (state m k []) ts e (us, vs, H, h, q) r = ended-floor m k vs e h r
ended-state (state m k (o ∷ out)) ts e h r = absurd (none-some e r)

-- what the machine read so far can't go on in a tree less deep than its floor
pub floor-holds : (limit : ℕ) (ts : Toks) (x : State) → run start ts ≡ Some x → Shallow limit ts → floor x ≤ limit
floor-holds limit ts x r (more, e, d, h) =
    let S : StateAt x ts = (let P : Option State → Type 0 = Holds (λ y. StateAt y ts) in subst P r (run-holds start [] ts start-holds)) in
    let (y, q, w) = bind_some (run x more) ended e (ap (λ z. z >>= ended) (sym (run-then start x ts more r)) ∙ reads-spelled (ts ++ more) e d) in
    let T : Holds (λ y. StateAt y (ts ++ more)) (run x more) = run-holds x ts more S in
    let U : StateAt y (ts ++ more) = (let P : Option State → Type 0 = Holds (λ y. StateAt y (ts ++ more)) in subst P q T) in
    chain _ _ _ (run-rises x y ts more S q) (chain _ _ _ (ended-state y (ts ++ more) e U w) h)

-- ---- and some text reaches the floor

abbrev FinishesAt : ℕ → State → Type 0
FinishesAt c x = (more : Toks) × (e : Tree) × ((run x more >>= ended) ≡ Some e) × (depth e ≤ c)

by-these : (c : ℕ) (x y : State) (ts : Toks) → run x ts ≡ Some y → FinishesAt c y → FinishesAt c x
by-these c x y ts q (more, e, h, g) = (ts ++ more, e, ap (λ r. r >>= ended) (run-then x y ts more q) ∙ h, g)

abbrev EndsAt : ℕ → Outer → Type 0
EndsAt c out = (m : Mode) (k : Level) (r : Tree × Level) → IsReading m → expr_at m k ≡ Some r → outer_up out (depth r.0) ≤ c → FinishesAt c (state m k out)

along : (a b c : ℕ) → a ≡ b → a ≤ c → b ≤ c
along a b c q h = omega (arith, q, h)

whole-at : (c : ℕ) (out : Outer) → EndsAt c out → (e : Tree) (k : Level) → floor (state (Whole e) k out) ≤ c → FinishesAt c (state (Whole e) k out)
whole-at c out f e (level o a n First s t ss) h = f (Whole e) (level o a n First s t ss) _ tt refl (along _ _ c (ap (λ d. outer_up out d) (ends-expr o a n (sum_of s (product_of t (signs_of ss e))) _ (sym (sums-depth s t ss e)))) h)
whole-at c out f e (level o a n (Right v x) s t ss) h = f (Whole e) (level o a n (Right v x) s t ss) _ tt refl (along _ _ c (ap (λ d. outer_up out d) (ends-expr o a n (Compare v x (sum_of s (product_of t (signs_of ss e)))) _ (ap (λ d. max (depth x) d + 1) (sym (sums-depth s t ss e))))) h)
whole-at c out f e (level o a n (High b x y) s t ss) h = f (Whole e) (level o a n (High b x y) s t ss) _ tt refl (along _ _ c (ap (λ d. outer_up out d) (ends-expr o a n (Between b x y (sum_of s (product_of t (signs_of ss e)))) _ (ap (λ d. max (max (depth x) (depth y)) d + 1) (sym (sums-depth s t ss e))))) h)
whole-at c out f e (level o a n (Low b x) s t ss) h =
    let g = sum_of s (product_of t (signs_of ss e)) in
    by-these c (state (Whole e) (level o a n (Low b x) s t ss) out) (state (Whole (Text [])) (level o a n (High b x g) None None []) out) (and ∷ text [] ∷ []) refl
    (f (Whole (Text [])) (level o a n (High b x g) None None []) _ tt refl
    (along _ _ c (ap (λ d. outer_up out d) (ends-expr o a n (Between b x g (Text [])) (max (depth x) (up_sum s (up_product t (up_signs ss (depth e)))) + 1) (low-deep x g _ (sums-depth s t ss e)))) h))
  where
    low-deep : (x g : Tree) (u : ℕ) → depth g ≡ u → max (depth x) u + 1 ≡ max (max (depth x) (depth g)) 1 + 1
    low-deep x g u q = omega (arith, q, depth-pos g)
whole-at c out f e (level o a n (Member b x xs) s t ss) h =
    let g = sum_of s (product_of t (signs_of ss e)) in
    by-these c (state (Whole e) (level o a n (Member b x xs) s t ss) out) (state (Tested (In b x (with xs g))) (level o a n First None None []) out) (close ∷ []) refl
    (f (Tested (In b x (with xs g))) (level o a n First None None []) _ tt refl
    (along _ _ c (ap (λ d. outer_up out d) (ends-expr o a n (In b x (with xs g)) _ (ap (λ d. max (depth x) (max (depths xs) d) + 1) (sym (sums-depth s t ss e))))) h))

deep-opened : (x : Opener) (e : Tree) → depth (opened_of x e) ≡ depth e + 1
deep-opened Bracket e = refl
deep-opened (Calling a) e = refl

ends-at : (c : ℕ) (out : Outer) → EndsAt c out
ends-at c [] m k r h q g = ([], r.0, ap (λ x. x >>= λ x. Some x.0) q, g)
ends-at c (x ∷ out) m k r h q g =
    by-these c (state m k (x ∷ out)) (state (Whole (opened_of x.0 r.0)) x.1 out) (close ∷ []) (step-then (state m k (x ∷ out)) (state (Whole (opened_of x.0 r.0)) x.1 out) close [] (closes x out m k r h q))
    (whole-at c out (λ m k r h q g. ends-at c out m k r h q g) (opened_of x.0 r.0) x.1 (along _ _ c (ap (λ d. outer_up out (level_up x.1 d)) (sym (deep-opened x.0 r.0))) g))

whole-floor : (c : ℕ) (e : Tree) (k : Level) (out : Outer) → floor (state (Whole e) k out) ≤ c → FinishesAt c (state (Whole e) k out)
whole-floor c e k out h = whole-at c out (ends-at c out) e k h

tested-floor : (c : ℕ) (e : Tree) (o a : Option Tree) (n : ℕ) (out : Outer) → floor (state (Tested e) (level o a n First None None []) out) ≤ c → FinishesAt c (state (Tested e) (level o a n First None None []) out)
tested-floor c e o a n out h = ends-at c out (Tested e) (level o a n First None None []) _ tt refl (along _ _ c (ap (λ d. outer_up out d) (ends-expr o a n e _ refl)) h)

plain-floor : (c : ℕ) (k : Level) (out : Outer) → outer_up out (operand_up k) ≤ c → FinishesAt c (state Operand k out)
plain-floor c (level o a n p s t []) out h =
    by-these c (state Operand (level o a n p s t []) out) (state (Whole (Text [])) (level o a n p s t []) out) (text [] ∷ []) refl (whole-floor c (Text []) (level o a n p s t []) out h)
plain-floor c (level o a n p s t (x ∷ ss)) out h =
    by-these c (state Operand (level o a n p s t (x ∷ ss)) out) (state (Whole (Number x 0)) (level o a n p s t ss) out) (number 0 ∷ []) refl (whole-floor c (Number x 0) (level o a n p s t ss) out h)

operand-floor : (c : ℕ) (k : Level) (out : Outer) → wanted_up k out ≤ c → FinishesAt c (state Operand k out)
operand-floor c (level None None zero First None None []) ((Calling count, k) ∷ out) h =
    by-these c (state Operand fresh ((Calling count, k) ∷ out)) (state (Whole CountAll) k out) (product times ∷ close ∷ []) refl (whole-floor c CountAll k out h)
operand-floor c k out h = plain-floor c k out h

call-floor : (c : ℕ) (x : Aggregate) (k : Level) (out : Outer) → outer_up out (level_up k (call_up x)) ≤ c → FinishesAt c (state (AtCall x) k out)
call-floor c count k out h = by-these c (state (AtCall count) k out) (state (Whole CountAll) k out) (open_ ∷ product times ∷ close ∷ []) refl (whole-floor c CountAll k out h)
call-floor c total k out h = by-these c (state (AtCall total) k out) (state (Whole (Text [])) fresh ((Calling total, k) ∷ out)) (open_ ∷ text [] ∷ []) refl (whole-floor c (Text []) fresh ((Calling total, k) ∷ out) h)
call-floor c least k out h = by-these c (state (AtCall least) k out) (state (Whole (Text [])) fresh ((Calling least, k) ∷ out)) (open_ ∷ text [] ∷ []) refl (whole-floor c (Text []) fresh ((Calling least, k) ∷ out) h)
call-floor c greatest k out h = by-these c (state (AtCall greatest) k out) (state (Whole (Text [])) fresh ((Calling greatest, k) ∷ out)) (open_ ∷ text [] ∷ []) refl (whole-floor c (Text []) fresh ((Calling greatest, k) ∷ out) h)

test-floor : (c d : ℕ) (o a : Option Tree) (n : ℕ) (p : Place) (out : Outer) → up_place p 1 ≡ d → outer_up out (from_pred o a n d) ≤ c → FinishesAt c (state (Whole (Text [])) (level o a n p None None []) out)
test-floor c d o a n p out q h = whole-floor c (Text []) (level o a n p None None []) out (along _ _ c (ap (λ d. outer_up out (from_pred o a n d)) (sym q)) h)

test-deep : (e : Tree) → max (depth e) 1 + 1 ≡ depth e + 1
test-deep e = omega (arith, depth-pos e)

member-deep : (e : Tree) → max (depth e) (max 0 1) + 1 ≡ depth e + 1
member-deep e = omega (arith, depth-pos e)

mode-floor : (c : ℕ) (m : Mode) (k : Level) (out : Outer) (vs : Toks) → ModeAt m k vs → floor (state m k out) ≤ c → FinishesAt c (state m k out)
mode-floor c Operand k out vs h g = operand-floor c k out g
mode-floor c (Whole e) k out vs h g = whole-floor c e k out g
mode-floor c (Tested e) k out vs h g = (by-pred (λ k. floor (state (Tested e) k out) ≤ c → FinishesAt c (state (Tested e) k out)) e k vs h (λ o a n g. tested-floor c e o a n out g)) g
mode-floor c (Named x) k out vs h g = by-these c (state (Named x) k out) (state (Whole (ColumnOf x [])) k out) (dot ∷ name Plain [] ∷ []) refl (whole-floor c (ColumnOf x []) k out g)
mode-floor c (Dotted x) k out vs h g = by-these c (state (Dotted x) k out) (state (Whole (ColumnOf x [])) k out) (name Plain [] ∷ []) refl (whole-floor c (ColumnOf x []) k out g)
mode-floor c (AtIs e) k out vs h g = (by-first (λ k. floor (state (AtIs e) k out) ≤ c → FinishesAt c (state (AtIs e) k out)) e k (is ∷ []) vs h
    (λ o a n w g. by-these c (state (AtIs e) (level o a n First None None []) out) (state (Tested (IsNull false e)) (level o a n First None None []) out) (null ∷ []) refl (tested-floor c (IsNull false e) o a n out g))) g
mode-floor c (AtIsNot e) k out vs h g = (by-first (λ k. floor (state (AtIsNot e) k out) ≤ c → FinishesAt c (state (AtIsNot e) k out)) e k (is ∷ not ∷ []) vs h
    (λ o a n w g. by-these c (state (AtIsNot e) (level o a n First None None []) out) (state (Tested (IsNull true e)) (level o a n First None None []) out) (null ∷ []) refl (tested-floor c (IsNull true e) o a n out g))) g
mode-floor c (AtNot e) k out vs h g = (by-first (λ k. floor (state (AtNot e) k out) ≤ c → FinishesAt c (state (AtNot e) k out)) e k (not ∷ []) vs h
    (λ o a n w g. by-these c (state (AtNot e) (level o a n First None None []) out) (state (Whole (Text [])) (level o a n (Low true e) None None []) out) (between ∷ text [] ∷ []) refl (test-floor c _ o a n (Low true e) out (test-deep e) g))) g
mode-floor c (AtIn b e) k out vs h g = (by-first (λ k. floor (state (AtIn b e) k out) ≤ c → FinishesAt c (state (AtIn b e) k out)) e k (negation b ++ in_ ∷ []) vs h
    (λ o a n w g. by-these c (state (AtIn b e) (level o a n First None None []) out) (state (Whole (Text [])) (level o a n (Member b e none) None None []) out) (open_ ∷ text [] ∷ []) refl (test-floor c _ o a n (Member b e none) out (member-deep e) g))) g
mode-floor c (AtCall x) k out vs h g = call-floor c x k out g
mode-floor c AtStar k out vs h g = by-these c (state AtStar k out) (state (Whole CountAll) k out) (close ∷ []) refl (whole-floor c CountAll k out g)

state-floor : (c : ℕ) (x : State) (ts : Toks) → StateAt x ts → floor x ≤ c → FinishesAt c x
state-floor c (state m k out) ts (us, vs, H, h, q) g = mode-floor c m k out vs h g

pub floor-reached : (limit : ℕ) (ts : Toks) (x : State) → run start ts ≡ Some x → floor x ≤ limit → Shallow limit ts
floor-reached limit ts x r h =
    let S : StateAt x ts = (let P : Option State → Type 0 = Holds (λ y. StateAt y ts) in subst P r (run-holds start [] ts start-holds)) in
    let (more, e, q, g) = state-floor limit x ts S h in
    (more, e, spelled-read (ts ++ more) e (ap (λ r. r >>= ended) (run-then start x ts more r) ∙ q), g)

-- the tree that ends is as deep as the floor
pub ended-depth : (ts : Toks) (x : State) (e : Tree) → run start ts ≡ Some x → ended x ≡ Some e → floor x ≡ depth e
ended-depth ts (state m k []) e r q =
    let (us, vs, H, h, w) = (let P : Option State → Type 0 = Holds (λ y. StateAt y ts) in subst P r (run-holds start [] ts start-holds)) in
    ended-equal m k vs e h q
ended-depth ts (state m k (o ∷ out)) e r q = absurd (none-some e q)

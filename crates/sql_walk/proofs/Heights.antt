-- Depths, and what they are in code.
use Rattle.std.proofs.Common.{◌≡◌, ◌<◌, ℕ, zero, suc, ◌+◌, max, List, [], ◌∷◌, length, refl, sym, ap, ◌∙◌, add-one, add-zero, arith, true, false, Option, Some, None, cond, drop, get_or}
use Rattle.std.proofs.lemmas.Bool.{false≢true}
use Rattle.std.proofs.lemmas.List.{drop_all}
use Rattle.std.proofs.Math.Seq.{drop-cons}
use Rattle.sql_grammar.specs.Syntax.{Aggregate, count, total, least, greatest}
use Rattle.sql_grammar.specs.Syntax.{Tree, Sum, Product}
use Rattle.sql_grammar.specs.Machine as m
use Rattle.sql_grammar.specs.Depth.{up_nots, up_signs, up_product, from_term, level_up, operand_up, outer_up, wanted_up, floor}
use Rattle.sql_expressions.specs.Shape.{turned, tree_at, place_of, left_sum, left_product, level_of, outer_of, opener_of, is_fresh}
use Rattle.sql_walk.specs.Heights.{is_counting, is_operand, last_up, up_within}
use Rattle.sql_expressions.specs.declared.level.Opener.{Opener}
use Rattle.sql_expressions.specs.declared.level.Level.{Level}

pub nots_up : (n d : ℕ) → up_nots n d ≡ d + n
nots_up zero d = sym (add-zero d)
nots_up (suc n) d = nots_up n (d + 1) ∙ omega arith

signs-up-any : (ss : List Sum) (d : ℕ) → up_signs ss d ≡ d + length ss
signs-up-any [] d = sym (add-zero d)
signs-up-any (x ∷ ss) d = signs-up-any ss (d + 1) ∙ omega arith

turned-long : (before xs : List Sum) → length (turned before xs) ≡ length before + length xs
turned-long before [] = sym (add-zero (length before))
turned-long before (x ∷ xs) = turned-long (x ∷ before) xs ∙ omega arith

pub signs_up : (xs : List Sum) (d : ℕ) → up_signs (turned [] xs) d ≡ d + length xs
signs_up xs d = signs-up-any (turned [] xs) d ∙ ap (λ n. d + n) (turned-long [] xs ∙ omega arith)

pub operand_is : (o a : Option Tree) (n : ℕ) (p : m.Place) (s : Option (Tree × Sum)) (t : Option (Tree × Product)) (ss : List Sum)
    → operand_up (m.level o a n p s t ss) ≡ from_term o a n p s (up_product t (max 1 (length ss)))
operand_is o a n p s t [] = refl
operand_is o a n p s t (x ∷ ss) = ap (λ d. from_term o a n p s (up_product t d)) (signs-up-any ss 1 ∙ omega arith)

pub within_up : (before : m.Outer) (xs : List (Opener × Level)) (d : ℕ) → outer_up (outer_of before xs) d ≡ outer_up before (up_within xs d)
within_up before [] d = refl
within_up before (x ∷ xs) d = within_up ((opener_of x.0, level_of x.1) ∷ before) xs d

pub wanted_plain : (k : m.Level) (out : m.Outer) → is_fresh k ≡ false → wanted_up k out ≡ outer_up out (operand_up k)
wanted_plain (m.level (Some o) a n p s t ss) out h = refl
wanted_plain (m.level None (Some a) n p s t ss) out h = refl
wanted_plain (m.level None None (suc n) p s t ss) out h = refl
wanted_plain (m.level None None zero (m.Right c a) s t ss) out h = refl
wanted_plain (m.level None None zero (m.Low b a) s t ss) out h = refl
wanted_plain (m.level None None zero (m.High b a d) s t ss) out h = refl
wanted_plain (m.level None None zero (m.Member b a d) s t ss) out h = refl
wanted_plain (m.level None None zero m.First (Some s) t ss) out h = refl
wanted_plain (m.level None None zero m.First None (Some t) ss) out h = refl
wanted_plain (m.level None None zero m.First None None (x ∷ ss)) out h = refl
wanted_plain (m.level None None zero m.First None None []) out h = absurd (false≢true (sym h))

pub floor_operand : (mode : m.Mode) (k : m.Level) (out : m.Outer) → is_operand mode ≡ true → floor (m.state mode k out) ≡ wanted_up k out
floor_operand m.Operand k out h = refl
floor_operand (m.Whole e) k out h = absurd (false≢true h)
floor_operand (m.Tested e) k out h = absurd (false≢true h)
floor_operand (m.Named e) k out h = absurd (false≢true h)
floor_operand (m.Dotted e) k out h = absurd (false≢true h)
floor_operand (m.AtIs e) k out h = absurd (false≢true h)
floor_operand (m.AtIsNot e) k out h = absurd (false≢true h)
floor_operand (m.AtNot e) k out h = absurd (false≢true h)
floor_operand (m.AtIn b e) k out h = absurd (false≢true h)
floor_operand (m.AtCall e) k out h = absurd (false≢true h)
floor_operand m.AtStar k out h = absurd (false≢true h)

pub floor_other : (mode : m.Mode) (k : m.Level) (out : m.Outer) → is_operand mode ≡ false → floor (m.state mode k out) ≡ outer_up out (level_up k (last_up mode))
floor_other m.Operand k out h = absurd (false≢true (sym h))
floor_other (m.Whole e) k out h = refl
floor_other (m.Tested e) k out h = refl
floor_other (m.Named e) k out h = refl
floor_other (m.Dotted e) k out h = refl
floor_other (m.AtIs e) k out h = refl
floor_other (m.AtIsNot e) k out h = refl
floor_other (m.AtNot e) k out h = refl
floor_other (m.AtIn b e) k out h = refl
floor_other (m.AtCall e) k out h = refl
floor_other m.AtStar k out h = refl

pub up_end : (xs : List (Opener × Level)) (i d : ℕ) → i ≡ length xs → up_within (drop i xs) d ≡ d
up_end xs i d q = ap (λ l. up_within l d) (drop_all i xs (omega (arith, q)))

pub up_next : (xs : List (Opener × Level)) (i : ℕ) (x : Opener × Level) (d : ℕ) → i < length xs → x ≡ get_or xs i x
    → up_within (drop i xs) d ≡ level_up (level_of x.1) (up_within (drop (i + 1) xs) d + 1)
up_next xs i x d h q =
    ap (λ l. up_within l d) (drop-cons xs i x h)
    ∙ ap (λ y. level_up (level_of y.1) (up_within (drop (suc i) xs) d + 1)) (sym q)
    ∙ ap (λ n. level_up (level_of x.1) (up_within (drop n xs) d + 1)) (sym (add-one i))

pub up_all : (xs : List (Opener × Level)) (d : ℕ) → outer_up (outer_of [] xs) d ≡ up_within xs d
up_all xs d = within_up [] xs d

counted : (a : Aggregate) (k : m.Level) (out : m.Outer) → wanted_up m.fresh ((m.Calling a, k) ∷ out) ≡ outer_up ((m.Calling a, k) ∷ out) (cond (is_counting ((m.Calling a, k) ∷ out)) 0 1)
counted count k out = refl
counted total k out = refl
counted least k out = refl
counted greatest k out = refl

-- behind `COUNT (` a star may stand
pub wanted_counts : (out : m.Outer) → wanted_up m.fresh out ≡ outer_up out (cond (is_counting out) 0 1)
wanted_counts [] = refl
wanted_counts ((m.Bracket, k) ∷ out) = refl
wanted_counts ((m.Calling a, k) ∷ out) = counted a k out

outer-last : (before : m.Outer) (xs : List (Opener × Level)) (n : ℕ) (x : Opener × Level) → length xs ≡ suc n → x ≡ get_or xs n x
    → (rest : m.Outer) × (outer_of before xs ≡ (opener_of x.0, level_of x.1) ∷ rest)
outer-last before [] n x h q = absurd (omega (arith, h))
outer-last before (y ∷ []) zero x h q = (before, ap (λ z. (opener_of z.0, level_of z.1) ∷ before) (sym q))
outer-last before (y ∷ []) (suc n) x h q = absurd (omega (arith, h))
outer-last before (y ∷ z ∷ xs) zero x h q = absurd (omega (arith, h))
outer-last before (y ∷ z ∷ xs) (suc n) x h q = outer-last ((opener_of y.0, level_of y.1) ∷ before) (z ∷ xs) n x (omega (arith, h)) q

same-first : (o : m.Opener) (k : m.Level) (rest : m.Outer) → is_counting ((o, k) ∷ rest) ≡ is_counting ((o, k) ∷ [])
same-first m.Bracket k rest = refl
same-first (m.Calling count) k rest = refl
same-first (m.Calling total) k rest = refl
same-first (m.Calling least) k rest = refl
same-first (m.Calling greatest) k rest = refl

pub counting_last : (xs : List (Opener × Level)) (n : ℕ) (x : Opener × Level) → length xs ≡ suc n → x ≡ get_or xs n x
    → is_counting (outer_of [] xs) ≡ is_counting ((opener_of x.0, level_of x.1) ∷ [])
counting_last xs n x h q = let (rest, e) = outer-last [] xs n x h q in ap (λ o. is_counting o) e ∙ same-first (opener_of x.0) (level_of x.1) rest

pub operand_level : (k : Level) → operand_up (level_of k)
    ≡ from_term (tree_at k.or) (tree_at k.and) (length k.nots.items) (place_of k.place) (left_sum k.sum) (up_product (left_product k.term) (max 1 (length (turned [] k.signs.items))))
operand_level k = operand_is (tree_at k.or) (tree_at k.and) (length k.nots.items) (place_of k.place) (left_sum k.sum) (left_product k.term) (turned [] k.signs.items)

-- What the loops over NOTs and signs need, and the stack of brackets.
use Rattle.std.proofs.Common.{◌≡◌, ℕ, zero, suc, ◌+◌, List, [], ◌∷◌, ◌++◌, length, refl, sym, ap, ◌∙◌, add-one, add-zero, arith, Bool, true, false, Option, Some, None, length-append, is_some, not, ◌&&◌, ◌==◌}
use Rattle.std.proofs.lemmas.Bool.{false≢true}
use Rattle.std.proofs.Math.Dec.{eqb-suc-zero}
use Rattle.sql_grammar.specs.Syntax.{Tree, Not, Sign, Sum, Product, times, over}
use Rattle.sql_grammar.specs.Machine.{nots_of, signs_of, Outer}
use Rattle.sql_grammar.specs.Machine as m
use Rattle.sql_expressions.specs.Shape.{turned, level_of, outer_of, opener_of, is_at_first, is_fresh}
use Rattle.sql_expressions.specs.declared.level.Opener.{Opener}
use Rattle.sql_expressions.specs.declared.level.Level.{Level}

pub nots_less : {A : Type 0} (xs : List A) (x : A) (e : Tree) → nots_of (length (xs ++ x ∷ [])) e ≡ nots_of (length xs) (Not e)
nots_less xs x e = ap (λ k. nots_of k e) (length-append xs (x ∷ []) ∙ add-one (length xs))

turned-append : (before xs ys : List Sum) → turned before (xs ++ ys) ≡ turned (turned before xs) ys
turned-append before [] ys = refl
turned-append before (x ∷ xs) ys = turned-append (x ∷ before) xs ys

pub signs_more : (xs : List Sum) (x : Sum) (e : Tree) → signs_of (turned [] (xs ++ x ∷ [])) e ≡ signs_of (turned [] xs) (Sign x e)
signs_more xs x e = ap (λ l. signs_of l e) (turned-append [] xs (x ∷ []))

pub turned_more : (xs : List Sum) (x : Sum) → turned [] (xs ++ x ∷ []) ≡ x ∷ turned [] xs
turned_more xs x = turned-append [] xs (x ∷ [])

outer-append : (before : Outer) (xs ys : List (Opener × Level)) → outer_of before (xs ++ ys) ≡ outer_of (outer_of before xs) ys
outer-append before [] ys = refl
outer-append before (x ∷ xs) ys = outer-append ((opener_of x.0, level_of x.1) ∷ before) xs ys

pub outer_more : (xs : List (Opener × Level)) (x : Opener × Level) → outer_of [] (xs ++ x ∷ []) ≡ (opener_of x.0, level_of x.1) ∷ outer_of [] xs
outer_more xs x = outer-append [] xs (x ∷ [])

turned-length : (before xs : List Sum) → length (turned before xs) ≡ length before + length xs
turned-length before [] = sym (add-zero (length before))
turned-length before (x ∷ xs) = turned-length (x ∷ before) xs ∙ omega arith

pub turned_length : (xs : List Sum) → length (turned [] xs) ≡ length xs
turned_length xs = turned-length [] xs ∙ omega arith

pub length_more : {A : Type 0} (xs : List A) (x : A) → length (xs ++ x ∷ []) ≡ suc (length xs)
length_more xs x = length-append xs (x ∷ []) ∙ add-one (length xs)

pub fresh_is : (k : m.Level) → is_fresh k ≡ true → k ≡ m.fresh
fresh_is (m.level None None zero m.First None None []) h = refl
fresh_is (m.level (Some o) a n p s t ss) h = absurd (false≢true h)
fresh_is (m.level None (Some a) n p s t ss) h = absurd (false≢true h)
fresh_is (m.level None None (suc n) p s t ss) h =
    absurd (false≢true (sym (ap (λ b. b && ((is_at_first p && not (is_some s)) && (not (is_some t) && (length ss == 0)))) (eqb-suc-zero n)) ∙ h))
fresh_is (m.level None None zero (m.Right c a) s t ss) h = absurd (false≢true h)
fresh_is (m.level None None zero (m.Low b a) s t ss) h = absurd (false≢true h)
fresh_is (m.level None None zero (m.High b a d) s t ss) h = absurd (false≢true h)
fresh_is (m.level None None zero (m.Member b a d) s t ss) h = absurd (false≢true h)
fresh_is (m.level None None zero m.First (Some s) t ss) h = absurd (false≢true h)
fresh_is (m.level None None zero m.First None (Some t) ss) h = absurd (false≢true h)
fresh_is (m.level None None zero m.First None None (x ∷ ss)) h = absurd (false≢true (sym (eqb-suc-zero (length ss)) ∙ h))

pub star_plain : (x : Product) (k : m.Level) (out : Outer) → is_fresh k ≡ false → m.star_step x k out ≡ None
star_plain over k out h = refl
star_plain times (m.level None None zero m.First None None []) out h = absurd (false≢true (sym h))
star_plain times (m.level (Some o) a n p s t ss) out h = refl
star_plain times (m.level None (Some a) n p s t ss) out h = refl
star_plain times (m.level None None (suc n) p s t ss) out h = refl
star_plain times (m.level None None zero (m.Right c a) s t ss) out h = refl
star_plain times (m.level None None zero (m.Low b a) s t ss) out h = refl
star_plain times (m.level None None zero (m.High b a d) s t ss) out h = refl
star_plain times (m.level None None zero (m.Member b a d) s t ss) out h = refl
star_plain times (m.level None None zero m.First (Some s) t ss) out h = refl
star_plain times (m.level None None zero m.First None (Some t) ss) out h = refl
star_plain times (m.level None None zero m.First None None (x ∷ ss)) out h = refl

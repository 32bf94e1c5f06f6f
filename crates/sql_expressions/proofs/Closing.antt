-- Where an expression, a list or a range ends.
use Rattle.std.proofs.Common.{◌≡◌, ℕ, List, [], ◌∷◌, length, refl, sym, ap, ◌∙◌, false, ◌==◌, Option, Some, None}
use Rattle.std.proofs.lemmas.Bool.{false≢true}
use Rattle.sql_grammar.specs.Syntax.{Tree}
use Rattle.sql_grammar.specs.Machine as m
use Rattle.sql_ast.specs.declared.expression.Expression.{Expression}
use Rattle.sql_expressions.specs.Shape.{closed_by, conjoined, is_low, is_member, level_of, outer_of, opener_of, pair_of, tree_at}
use Rattle.sql_expressions.specs.declared.level.Opener.{Opener}
use Rattle.sql_expressions.specs.declared.level.Level.{Level}

open-not : (mode : m.Mode) (k : m.Level) (x : m.Opener × m.Level) (before : m.Outer) (xs : List (Opener × Level))
    → m.ended (m.state mode k (outer_of (x ∷ before) xs)) ≡ None
open-not mode k x before [] = refl
open-not mode k x before (y ∷ xs) = open-not mode k (opener_of y.0, level_of y.1) (x ∷ before) xs

-- no expression ends within brackets
pub open_not : (mode : m.Mode) (k : m.Level) (xs : List (Opener × Level)) → (length xs == 0) ≡ false → m.ended (m.state mode k (outer_of [] xs)) ≡ None
open_not mode k [] h = absurd (false≢true (sym h))
open_not mode k (x ∷ xs) h = open-not mode k (opener_of x.0, level_of x.1) [] xs

-- outside of brackets an expression ends where one was read
pub ended_with : (x : Option Expression) (k : Level) (mode : m.Mode) (l : m.Level) → pair_of x k ≡ m.expr_at mode l → tree_at x ≡ m.ended (m.state mode l [])
ended_with None k mode l h = ap (λ r. m.◌>>=◌ r (λ x. Some x.0)) h
ended_with (Some e) k mode l h = ap (λ r. m.◌>>=◌ r (λ x. Some x.0)) h

abbrev pub place_in : m.Level → m.Place
place_in (m.level o a n p s t ss) = p

-- AND that isn't of BETWEEN
pub and_plain : (out : m.Outer) (e : Tree) (k : m.Level) → is_low (place_in k) ≡ false → m.and_in out (e, k) ≡ conjoined out (e, k)
and_plain out e (m.level o a n m.First s t ss) h = refl
and_plain out e (m.level o a n (m.Right c x) s t ss) h = refl
and_plain out e (m.level o a n (m.Low b x) s t ss) h = absurd (false≢true (sym h))
and_plain out e (m.level o a n (m.High b x y) s t ss) h = refl
and_plain out e (m.level o a n (m.Member b x xs) s t ss) h = refl

-- `)` that isn't a list's
pub close_plain : (out : m.Outer) (e : Tree) (k : m.Level) → is_member (place_in k) ≡ false → m.close_in out (e, k) ≡ closed_by out (e, k)
close_plain out e (m.level o a n m.First s t ss) h = refl
close_plain out e (m.level o a n (m.Right c x) s t ss) h = refl
close_plain out e (m.level o a n (m.Low b x) s t ss) h = refl
close_plain out e (m.level o a n (m.High b x y) s t ss) h = refl
close_plain out e (m.level o a n (m.Member b x xs) s t ss) h = absurd (false≢true (sym h))

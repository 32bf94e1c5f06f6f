-- Where an expression may end.
use Rattle.std.proofs.Common.{◌≡◌, List, [], ◌∷◌, length, refl, sym, ap, ◌∙◌, ◌&&◌, ◌==◌, None, is_some}
use Rattle.std.proofs.Math.Dec.{eqb-suc-zero}
use Rattle.sql_grammar.specs.Machine as m
use Rattle.sql_expressions.specs.Shape.{level_of, outer_of, opener_of, place_of}
use Rattle.sql_walk.specs.Ends.{ends_mode, ends_place}
use Rattle.sql_expressions.specs.declared.level.Opener.{Opener}
use Rattle.sql_expressions.specs.declared.level.Level.{Level}

abbrev place_in : m.Level → m.Place
place_in (m.level o a n p s t ss) = p

ends : (mode : m.Mode) (k : m.Level) → is_some (m.ended (m.state mode k [])) ≡ (ends_mode mode && ends_place (place_in k))
ends (m.Whole e) (m.level o a n m.First s t ss) = refl
ends (m.Whole e) (m.level o a n (m.Right c x) s t ss) = refl
ends (m.Whole e) (m.level o a n (m.Low c x) s t ss) = refl
ends (m.Whole e) (m.level o a n (m.High c x y) s t ss) = refl
ends (m.Whole e) (m.level o a n (m.Member c x y) s t ss) = refl
ends (m.Tested e) (m.level o a n m.First s t ss) = refl
ends (m.Tested e) (m.level o a n (m.Right c x) s t ss) = refl
ends (m.Tested e) (m.level o a n (m.Low c x) s t ss) = refl
ends (m.Tested e) (m.level o a n (m.High c x y) s t ss) = refl
ends (m.Tested e) (m.level o a n (m.Member c x y) s t ss) = refl
ends (m.Named e) (m.level o a n m.First s t ss) = refl
ends (m.Named e) (m.level o a n (m.Right c x) s t ss) = refl
ends (m.Named e) (m.level o a n (m.Low c x) s t ss) = refl
ends (m.Named e) (m.level o a n (m.High c x y) s t ss) = refl
ends (m.Named e) (m.level o a n (m.Member c x y) s t ss) = refl
ends m.Operand k = refl
ends (m.Dotted x) k = refl
ends (m.AtIs e) k = refl
ends (m.AtIsNot e) k = refl
ends (m.AtNot e) k = refl
ends (m.AtIn b e) k = refl
ends (m.AtCall a) k = refl
ends m.AtStar k = refl

open-not : (mode : m.Mode) (k : m.Level) (x : m.Opener × m.Level) (before : m.Outer) (xs : List (Opener × Level)) → m.ended (m.state mode k (outer_of (x ∷ before) xs)) ≡ None
open-not mode k x before [] = refl
open-not mode k x before (y ∷ xs) = open-not mode k (opener_of y.0, level_of y.1) (x ∷ before) xs

pub ends_here : (mode : m.Mode) (k : Level) (xs : List (Opener × Level))
    → is_some (m.ended (m.state mode (level_of k) (outer_of [] xs))) ≡ ((length xs == 0) && (ends_mode mode && ends_place (place_of k.place)))
ends_here mode k [] = ends mode (level_of k)
ends_here mode k (x ∷ xs) =
    ap (λ r. is_some r) (open-not mode (level_of k) (opener_of x.0, level_of x.1) [] xs)
    ∙ ap (λ b. b && (ends_mode mode && ends_place (place_of k.place))) (sym (eqb-suc-zero (length xs)))

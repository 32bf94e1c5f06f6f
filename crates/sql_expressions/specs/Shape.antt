-- What the contracts see of the machine in code.
use Rattle.std.specs.Prelude.{ℕ, Bool, true, false, not, ◌&&◌, ◌==◌, is_some, List, [], ◌∷◌, Option, Some, None, length}
use Rattle.sql_grammar.specs.Syntax.{Tree, Trees, none, with, Sum, Product}
use Rattle.sql_grammar.specs.Machine as m
use Rattle.sql_grammar.specs.declared.symbol.Symbol.{Symbol}
use Rattle.sql_grammar.specs.declared.symbol.Symbol.TheVariants as symbol
use Rattle.sql_ast.specs.declared.expression.Expression.{Expression}
use Rattle.sql_expressions.specs.View.{tree_of, trees_from}
use Rattle.sql_expressions.specs.declared.level.Level.{Level}
use Rattle.sql_expressions.specs.declared.level.Place.{Place}
use Rattle.sql_expressions.specs.declared.level.Place.TheVariants.{First, Right, Low, High, Member}
use Rattle.sql_expressions.specs.declared.level.Opener.{Opener}
use Rattle.sql_expressions.specs.declared.level.Opener.TheVariants.{Bracket, Calling}
use Rattle.sql_expressions.specs.declared.level.Mode.{Mode}
use Rattle.sql_expressions.specs.declared.level.Mode.TheVariants.{Operand, Whole, Tested, Named, Dotted, AtIs, AtIsNot, AtNot, AtIn, AtCall, AtStar}

abbrev pub tree_at : Option Expression → Option Tree
tree_at None = None
tree_at (Some e) = Some (tree_of e)

abbrev pub left_product : Option (Expression × Product) → Option (Tree × Product)
left_product None = None
left_product (Some x) = Some (tree_of x.0, x.1)

abbrev pub left_sum : Option (Expression × Sum) → Option (Tree × Sum)
left_sum None = None
left_sum (Some x) = Some (tree_of x.0, x.1)

abbrev pub place_of : Place → m.Place
place_of First = m.First
place_of (Right c e) = m.Right c (tree_of e)
place_of (Low b e) = m.Low b (tree_of e)
place_of (High b e f) = m.High b (tree_of e) (tree_of f)
place_of (Member b e es) = m.Member b (tree_of e) (trees_from none es)

-- the last first
abbrev pub turned : List Sum → List Sum → List Sum
turned before [] = before
turned before (x ∷ xs) = turned (x ∷ before) xs

abbrev pub level_of : Level → m.Level
level_of k = m.level (tree_at k.or) (tree_at k.and) (length k.nots.items) (place_of k.place) (left_sum k.sum) (left_product k.term) (turned [] k.signs.items)

abbrev pub mode_of : Mode → m.Mode
mode_of Operand = m.Operand
mode_of (Whole e) = m.Whole (tree_of e)
mode_of (Tested e) = m.Tested (tree_of e)
mode_of (Named x) = m.Named x
mode_of (Dotted x) = m.Dotted x
mode_of (AtIs e) = m.AtIs (tree_of e)
mode_of (AtIsNot e) = m.AtIsNot (tree_of e)
mode_of (AtNot e) = m.AtNot (tree_of e)
mode_of (AtIn b e) = m.AtIn b (tree_of e)
mode_of (AtCall x) = m.AtCall x
mode_of AtStar = m.AtStar

-- a part that was read whole, and the level without it
abbrev pub pair_of : Option Expression → Level → Option (Tree × m.Level)
pair_of None k = None
pair_of (Some e) k = Some (tree_of e, level_of k)

-- an operand is wanted, if the token was taken
abbrev pub went_of : Bool → Level → m.Outer → Option m.State
went_of true k out = Some (m.state m.Operand (level_of k) out)
went_of false k out = None

-- the state behind a token, if it was taken
abbrev pub next_of : Option Mode → Level → m.Outer → Option m.State
next_of None k out = None
next_of (Some mode) k out = Some (m.state (mode_of mode) (level_of k) out)

abbrev pub opener_of : Opener → m.Opener
opener_of Bracket = m.Bracket
opener_of (Calling x) = m.Calling x

-- the innermost stands last in the code, and first here
abbrev pub outer_of : m.Outer → List (Opener × Level) → m.Outer
outer_of before [] = before
outer_of before (x ∷ xs) = outer_of ((opener_of x.0, level_of x.1) ∷ before) xs

abbrev pub conjoined : m.Outer → Tree × m.Level → Option m.State
conjoined out x = m.◌>>=◌ (m.◌>>=◌ (m.◌>>=◌ (m.pred_in x) m.neg_in) m.conj_in) (m.behind_and out)

-- an operand that ends an expression
abbrev pub ended_by : Tree × m.Level → Option (Tree × m.Level)
ended_by x = m.◌>>=◌ (m.◌>>=◌ (m.◌>>=◌ (m.pred_in x) m.neg_in) m.conj_in) m.expr_in

abbrev pub closed_by : m.Outer → Tree × m.Level → Option m.State
closed_by out x = m.◌>>=◌ (ended_by x) (λ x. m.close_out out x.0)

-- nothing stands to the left
abbrev pub is_at_first : m.Place → Bool
is_at_first m.First = true
is_at_first _ = false

-- behind BETWEEN
abbrev pub is_low : m.Place → Bool
is_low (m.Low b a) = true
is_low _ = false

-- in the list of IN
abbrev pub is_member : m.Place → Bool
is_member (m.Member b a bs) = true
is_member _ = false

abbrev pub is_fresh : m.Level → Bool
is_fresh (m.level o a n p s t ss) =
    (not (is_some o) && (not (is_some a) && (n == 0))) && ((is_at_first p && not (is_some s)) && (not (is_some t) && (length ss == 0)))

abbrev pub is_dot : Symbol → Bool
is_dot symbol.Dot = true
is_dot _ = false

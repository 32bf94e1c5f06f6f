-- How deep a tree is, and how deep the trees are that a state can lead to.
use Rattle.std.specs.Prelude.{ℕ, zero, suc, ◌+◌, ◌≤◌, max, List, [], ◌∷◌, ◌++◌, Option, Some, None}
use Rattle.sql_grammar.specs.Syntax.{Sum, Product, Aggregate, count, Tree, Trees, none, with, Or, And, Not, Compare, IsNull, Between, In, Add, Multiply, Sign, Number, Text, Truth, Column, ColumnOf, Brackets, CountAll, Call, Token, Spells, expr}
use Rattle.sql_grammar.specs.Machine.{Place, First, Right, Low, High, Member, Level, level, Calling, Outer, Operand, Whole, Tested, Named, Dotted, AtIs, AtIsNot, AtNot, AtIn, AtCall, AtStar, State, state}

abbrev mutual
  pub depth : Tree → ℕ
  depth (Or a b) = max (depth a) (depth b) + 1
  depth (And a b) = max (depth a) (depth b) + 1
  depth (Not a) = depth a + 1
  depth (Compare c a b) = max (depth a) (depth b) + 1
  depth (IsNull n a) = depth a + 1
  depth (Between n a b c) = max (max (depth a) (depth b)) (depth c) + 1
  depth (In n a bs) = max (depth a) (depths bs) + 1
  depth (Add x a b) = max (depth a) (depth b) + 1
  depth (Multiply x a b) = max (depth a) (depth b) + 1
  depth (Sign x a) = depth a + 1
  depth (Number x n) = 1
  depth (Text t) = 1
  depth (Truth b) = 1
  depth (Column n) = 1
  depth (ColumnOf t n) = 1
  depth (Brackets a) = depth a + 1
  depth CountAll = 1
  depth (Call x a) = depth a + 1

  pub depths : Trees → ℕ
  depths none = 0
  depths (with bs b) = max (depths bs) (depth b)

-- some text that begins so is an expression that is not too deep
abbrev pub Shallow : ℕ → List Token → Type 0
Shallow limit ts = (more : List Token) × (e : Tree) × Spells expr (ts ++ more) e × (depth e ≤ limit)

-- ---- the least depth that an operand of depth d gives the whole

abbrev pub up_signs : List Sum → ℕ → ℕ
up_signs [] d = d
up_signs (x ∷ ss) d = up_signs ss (d + 1)

abbrev pub up_product : Option (Tree × Product) → ℕ → ℕ
up_product None d = d
up_product (Some x) d = max (depth x.0) d + 1

abbrev pub up_sum : Option (Tree × Sum) → ℕ → ℕ
up_sum None d = d
up_sum (Some x) d = max (depth x.0) d + 1

abbrev pub up_place : Place → ℕ → ℕ
up_place First d = d
up_place (Right c a) d = max (depth a) d + 1
up_place (Low n a) d = max (depth a) d + 1
up_place (High n a b) d = max (max (depth a) (depth b)) d + 1
up_place (Member n a bs) d = max (depth a) (max (depths bs) d) + 1

abbrev pub up_nots : ℕ → ℕ → ℕ
up_nots zero d = d
up_nots (suc n) d = up_nots n (d + 1)

abbrev pub up_tree : Option Tree → ℕ → ℕ
up_tree None d = d
up_tree (Some a) d = max (depth a) d + 1

abbrev pub from_pred : Option Tree → Option Tree → ℕ → ℕ → ℕ
from_pred o a n d = up_tree o (up_tree a (up_nots n d))

abbrev pub from_term : Option Tree → Option Tree → ℕ → Place → Option (Tree × Sum) → ℕ → ℕ
from_term o a n p s d = from_pred o a n (up_place p (up_sum s d))

abbrev pub level_up : Level → ℕ → ℕ
level_up (level o a n p s t ss) d = from_term o a n p s (up_product t (up_signs ss d))

abbrev pub outer_up : Outer → ℕ → ℕ
outer_up [] d = d
outer_up (x ∷ out) d = outer_up out (level_up x.1 (d + 1))

-- a number takes the sign directly before it
abbrev pub operand_up : Level → ℕ
operand_up (level o a n p s t []) = level_up (level o a n p s t []) 1
operand_up (level o a n p s t (x ∷ ss)) = level_up (level o a n p s t ss) 1

-- `COUNT (` may go on with `*`
abbrev pub wanted_up : Level → Outer → ℕ
wanted_up (level None None zero First None None []) ((Calling count, k) ∷ out) = outer_up out (level_up k 1)
wanted_up k out = outer_up out (operand_up k)

abbrev pub call_up : Aggregate → ℕ
call_up count = 1
call_up _ = 2

abbrev pub floor : State → ℕ
floor (state Operand k out) = wanted_up k out
floor (state (Whole e) k out) = outer_up out (level_up k (depth e))
floor (state (Tested e) k out) = outer_up out (level_up k (depth e))
floor (state (Named x) k out) = outer_up out (level_up k 1)
floor (state (Dotted x) k out) = outer_up out (level_up k 1)
floor (state (AtIs e) k out) = outer_up out (level_up k (depth e + 1))
floor (state (AtIsNot e) k out) = outer_up out (level_up k (depth e + 1))
floor (state (AtNot e) k out) = outer_up out (level_up k (depth e + 1))
floor (state (AtIn b e) k out) = outer_up out (level_up k (depth e + 1))
floor (state (AtCall x) k out) = outer_up out (level_up k (call_up x))
floor (state AtStar k out) = outer_up out (level_up k 1)

-- A machine that takes token after token.
use Rattle.std.specs.Prelude.{ℕ, zero, suc, ◌^◌, List, [], ◌∷◌, Bool, true, false, Option, Some, None}
use Rattle.sql_grammar.specs.Syntax.{Sum, plus, minus, Product, times, Comparison, Aggregate, count, Trees, none, with, Token, Tree, or, and, not, is, null, between, in_, dot, open_, close, comma, huge, compare, sum, product, call, number, text, truth, name, Or, And, Not, Compare, IsNull, Between, In, Add, Multiply, Sign, Number, Text, Truth, Column, ColumnOf, Brackets, CountAll, Call}

infixl 10 ◌>>=◌
abbrev pub ◌>>=◌ : {A B : Type 0} → Option A → (A → Option B) → Option B
None >>= f = None
(Some x) >>= f = f x

-- where in its pred a sum stands
pub data Place : Type 0 where
  First : Place
  Right : Comparison → Tree → Place
  Low : Bool → Tree → Place
  High : Bool → Tree → Tree → Place
  Member : Bool → Tree → Trees → Place

-- what stands to the left in one pair of brackets: behind OR, behind AND, the number of NOT, the place, behind + or -, behind * or /, signs (the last one first)
pub data Level : Type 0 where
  level : Option Tree → Option Tree → ℕ → Place → Option (Tree × Sum) → Option (Tree × Product) → List Sum → Level

pub data Opener : Type 0 where
  Bracket : Opener
  Calling : Aggregate → Opener

-- what was read last
pub data Mode : Type 0 where
  Operand : Mode  -- an operand is wanted
  Whole Tested : Tree → Mode  -- a whole operand, a whole pred
  Named : List ℕ → Mode
  Dotted : List ℕ → Mode
  AtIs AtIsNot AtNot : Tree → Mode
  AtIn : Bool → Tree → Mode
  AtCall : Aggregate → Mode
  AtStar : Mode

pub data State : Type 0 where
  state : Mode → Level → List (Opener × Level) → State

abbrev pub fresh : Level
fresh = level None None 0 First None None []

-- ---- a part that is read whole is put together with what stands to its left

abbrev pub signs_of : List Sum → Tree → Tree
signs_of [] e = e
signs_of (s ∷ ss) e = signs_of ss (Sign s e)

abbrev pub nots_of : ℕ → Tree → Tree
nots_of zero e = e
nots_of (suc n) e = nots_of n (Not e)

abbrev pub product_of : Option (Tree × Product) → Tree → Tree
product_of None e = e
product_of (Some p) e = Multiply p.1 p.0 e

abbrev pub sum_of : Option (Tree × Sum) → Tree → Tree
sum_of None e = e
sum_of (Some p) e = Add p.1 p.0 e

abbrev pub and_of : Option Tree → Tree → Tree
and_of None e = e
and_of (Some a) e = And a e

abbrev pub or_of : Option Tree → Tree → Tree
or_of None e = e
or_of (Some a) e = Or a e

abbrev pub pred_of : Place → Tree → Option Tree
pred_of First e = Some e
pred_of (Right c a) e = Some (Compare c a e)
pred_of (Low n a) e = None
pred_of (High n a b) e = Some (Between n a b e)
pred_of (Member n a bs) e = None

abbrev pub whole_of : Mode → Option Tree
whole_of (Whole e) = Some e
whole_of (Named n) = Some (Column n)
whole_of _ = None

-- the last factor, term, .. and the level without it
abbrev pub primary_at : Mode → Level → Option (Tree × Level)
primary_at m k = whole_of m >>= λ e. Some (e, k)

abbrev pub signs_in : Tree × Level → Option (Tree × Level)
signs_in (e, level o a n p s t ss) = Some (signs_of ss e, level o a n p s t [])

abbrev pub factor_at : Mode → Level → Option (Tree × Level)
factor_at m k = primary_at m k >>= signs_in

abbrev pub term_in : Tree × Level → Option (Tree × Level)
term_in (e, level o a n p s t ss) = Some (product_of t e, level o a n p s None ss)

abbrev pub term_at : Mode → Level → Option (Tree × Level)
term_at m k = factor_at m k >>= term_in

abbrev pub sum_in : Tree × Level → Option (Tree × Level)
sum_in (e, level o a n p s t ss) = Some (sum_of s e, level o a n p None t ss)

abbrev pub sum_at : Mode → Level → Option (Tree × Level)
sum_at m k = term_at m k >>= sum_in

abbrev pub pred_in : Tree × Level → Option (Tree × Level)
pred_in (e, level o a n p s t ss) = pred_of p e >>= λ e. Some (e, level o a n First s t ss)

-- the last sum, or a whole pred
abbrev pub operand_at : Mode → Level → Option (Tree × Level)
operand_at (Tested e) k = Some (e, k)
operand_at m k = sum_at m k

abbrev pub pred_at : Mode → Level → Option (Tree × Level)
pred_at m k = operand_at m k >>= pred_in

abbrev pub neg_in : Tree × Level → Option (Tree × Level)
neg_in (e, level o a n p s t ss) = Some (nots_of n e, level o a 0 p s t ss)

abbrev pub neg_at : Mode → Level → Option (Tree × Level)
neg_at m k = pred_at m k >>= neg_in

abbrev pub conj_in : Tree × Level → Option (Tree × Level)
conj_in (e, level o a n p s t ss) = Some (and_of a e, level o None n p s t ss)

abbrev pub conj_at : Mode → Level → Option (Tree × Level)
conj_at m k = neg_at m k >>= conj_in

abbrev pub expr_in : Tree × Level → Option (Tree × Level)
expr_in (e, level o a n p s t ss) = Some (or_of o e, level None a n p s t ss)

abbrev pub expr_at : Mode → Level → Option (Tree × Level)
expr_at m k = conj_at m k >>= expr_in

-- ---- one token

abbrev pub Outer : Type 0
Outer = List (Opener × Level)

abbrev pub behind_product : Product → Outer → Tree × Level → Option State
behind_product x out (e, level o a n p s t ss) = Some (state Operand (level o a n p s (Some (e, x)) ss) out)

abbrev pub behind_sum : Sum → Outer → Tree × Level → Option State
behind_sum x out (e, level o a n p s t ss) = Some (state Operand (level o a n p (Some (e, x)) t ss) out)

-- only the first sum of a pred can be tested
abbrev pub first_in : Tree × Level → Option (Tree × Level)
first_in (e, level o a n First s t ss) = Some (e, level o a n First s t ss)
first_in _ = None

abbrev pub first_at : Mode → Level → Option (Tree × Level)
first_at m k = sum_at m k >>= first_in

abbrev pub placed : Level → Place → Level
placed (level o a n p s t ss) q = level o a n q s t ss

abbrev pub behind_and : Outer → Tree × Level → Option State
behind_and out (e, level o a n p s t ss) = Some (state Operand (level o (Some e) n p s t ss) out)

abbrev pub behind_or : Outer → Tree × Level → Option State
behind_or out (e, level o a n p s t ss) = Some (state Operand (level (Some e) a n p s t ss) out)

-- AND in BETWEEN, or between two negs
abbrev pub and_in : Outer → Tree × Level → Option State
and_in out (e, level o a n (Low b x) s t ss) = Some (state Operand (level o a n (High b x e) s t ss) out)
and_in out x = pred_in x >>= neg_in >>= conj_in >>= behind_and out

abbrev pub more_in : Outer → Tree × Level → Option State
more_in out (e, level o a n (Member b x xs) s t ss) = Some (state Operand (level o a n (Member b x (with xs e)) s t ss) out)
more_in out _ = None

abbrev pub opened_of : Opener → Tree → Tree
opened_of Bracket e = Brackets e
opened_of (Calling a) e = Call a e

abbrev pub close_out : Outer → Tree → Option State
close_out [] e = None
close_out (x ∷ out) e = Some (state (Whole (opened_of x.0 e)) x.1 out)

abbrev pub close_in : Outer → Tree × Level → Option State
close_in out (e, level o a n (Member b x xs) s t ss) = Some (state (Tested (In b x (with xs e))) (level o a n First s t ss) out)
close_in out x = pred_in x >>= neg_in >>= conj_in >>= expr_in >>= λ x. close_out out x.0

-- a token behind an operand or a pred
abbrev pub behind : Token → Mode → Level → Outer → Option State
behind (product x) m k out = term_at m k >>= behind_product x out
behind (sum x) m k out = sum_at m k >>= behind_sum x out
behind (compare c) m k out = first_at m k >>= λ x. Some (state Operand (placed x.1 (Right c x.0)) out)
behind is m k out = first_at m k >>= λ x. Some (state (AtIs x.0) x.1 out)
behind not m k out = first_at m k >>= λ x. Some (state (AtNot x.0) x.1 out)
behind between m k out = first_at m k >>= λ x. Some (state Operand (placed x.1 (Low false x.0)) out)
behind in_ m k out = first_at m k >>= λ x. Some (state (AtIn false x.0) x.1 out)
behind and m k out = operand_at m k >>= and_in out
behind or m k out = expr_at m k >>= behind_or out
behind comma m k out = sum_at m k >>= more_in out
behind close m k out = operand_at m k >>= close_in out
behind _ m k out = None

abbrev pub negated : Level → Outer → Option State
negated (level o a n First None None []) out = Some (state Operand (level o a (suc n) First None None []) out)
negated _ out = None

abbrev pub signed_by : Sum → Level → Level
signed_by x (level o a n p s t ss) = level o a n p s t (x ∷ ss)

abbrev pub number_step : ℕ → Level → Outer → State
number_step x (level o a n p s t []) out = state (Whole (Number plus x)) (level o a n p s t []) out
number_step x (level o a n p s t (y ∷ ss)) out = state (Whole (Number y x)) (level o a n p s t ss) out

abbrev pub huge_step : Level → Outer → Option State
huge_step (level o a n p s t (minus ∷ ss)) out = Some (state (Whole (Number minus (2 ^ 63))) (level o a n p s t ss) out)
huge_step _ out = None

-- `*` directly behind `COUNT (`
abbrev pub star_step : Product → Level → Outer → Option State
star_step times (level None None zero First None None []) ((Calling count, k) ∷ out) = Some (state AtStar k out)
star_step _ _ _ = None

-- a token in an operand's place
abbrev pub operand : Token → Level → Outer → Option State
operand not k out = negated k out
operand (sum x) k out = Some (state Operand (signed_by x k) out)
operand (number x) k out = Some (number_step x k out)
operand huge k out = huge_step k out
operand (text x) k out = Some (state (Whole (Text x)) k out)
operand (truth x) k out = Some (state (Whole (Truth x)) k out)
operand (name w x) k out = Some (state (Named x) k out)
operand open_ k out = Some (state Operand fresh ((Bracket, k) ∷ out))
operand (call x) k out = Some (state (AtCall x) k out)
operand (product x) k out = star_step x k out
operand _ k out = None

abbrev pub named : Token → List ℕ → Level → Outer → Option State
named dot x k out = Some (state (Dotted x) k out)
named t x k out = behind t (Named x) k out

abbrev pub dotted : Token → List ℕ → Level → Outer → Option State
dotted (name w y) x k out = Some (state (Whole (ColumnOf x y)) k out)
dotted _ x k out = None

abbrev pub at_is : Token → Tree → Level → Outer → Option State
at_is null e k out = Some (state (Tested (IsNull false e)) k out)
at_is not e k out = Some (state (AtIsNot e) k out)
at_is _ e k out = None

abbrev pub at_is_not : Token → Tree → Level → Outer → Option State
at_is_not null e k out = Some (state (Tested (IsNull true e)) k out)
at_is_not _ e k out = None

abbrev pub at_not : Token → Tree → Level → Outer → Option State
at_not between e k out = Some (state Operand (placed k (Low true e)) out)
at_not in_ e k out = Some (state (AtIn true e) k out)
at_not _ e k out = None

abbrev pub at_in : Token → Bool → Tree → Level → Outer → Option State
at_in open_ b e k out = Some (state Operand (placed k (Member b e none)) out)
at_in _ b e k out = None

abbrev pub at_call : Token → Aggregate → Level → Outer → Option State
at_call open_ a k out = Some (state Operand fresh ((Calling a, k) ∷ out))
at_call _ a k out = None

abbrev pub at_star : Token → Level → Outer → Option State
at_star close k out = Some (state (Whole CountAll) k out)
at_star _ k out = None

abbrev pub step : State → Token → Option State
step (state Operand k out) t = operand t k out
step (state (Whole e) k out) t = behind t (Whole e) k out
step (state (Tested e) k out) t = behind t (Tested e) k out
step (state (Named x) k out) t = named t x k out
step (state (Dotted x) k out) t = dotted t x k out
step (state (AtIs e) k out) t = at_is t e k out
step (state (AtIsNot e) k out) t = at_is_not t e k out
step (state (AtNot e) k out) t = at_not t e k out
step (state (AtIn b e) k out) t = at_in t b e k out
step (state (AtCall a) k out) t = at_call t a k out
step (state AtStar k out) t = at_star t k out

abbrev pub run : State → List Token → Option State
run x [] = Some x
run x (t ∷ ts) = step x t >>= λ y. run y ts

-- the tree, where the text may end
abbrev pub ended : State → Option Tree
ended (state m k []) = expr_at m k >>= λ x. Some x.0
ended (state m k (o ∷ out)) = None

abbrev pub start : State
start = state Operand fresh []

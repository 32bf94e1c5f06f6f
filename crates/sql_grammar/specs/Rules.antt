-- Rules: how tokens and expressions make the parts of statements, and what each rule spells.
use Rattle.std.specs.Prelude.{◌≡◌, ◌≤◌, ℕ, List, [], ◌∷◌, ◌++◌, Option, Some, None, ◌⊎◌}
use Rattle.sql_grammar.specs.Classes.{Class}
use Rattle.sql_grammar.specs.declared.word.Class.TheVariants as class
use Rattle.sql_grammar.specs.Syntax.{Word, Sum, plus, minus, Product, times, over, Comparison, Tree, Token, or, and, not, is, null, between, in_, dot, open_, close, comma, huge, bad, compare, sum, product, call, number, text, truth, key, name, Spells, expr}
use Rattle.sql_grammar.specs.Depth.{depth}
use Rattle.sql_ast.specs.declared.expression.Comparison.TheVariants.{Equal, NotEqual, Less, LessEqual, Greater, GreaterEqual}

abbrev pub comparison_class : Comparison → Class
comparison_class Equal = class.Equal
comparison_class NotEqual = class.Compare
comparison_class Less = class.Compare
comparison_class LessEqual = class.Compare
comparison_class Greater = class.Compare
comparison_class GreaterEqual = class.Compare

abbrev pub sum_class : Sum → Class
sum_class plus = class.Plus
sum_class minus = class.Minus

abbrev pub product_class : Product → Class
product_class times = class.Star
product_class over = class.Slash

abbrev pub class_of : Token → Class
class_of or = class.Or
class_of and = class.And
class_of not = class.Not
class_of is = class.Is
class_of null = class.Null
class_of between = class.Between
class_of in_ = class.In
class_of dot = class.Dot
class_of open_ = class.Open
class_of close = class.Close
class_of comma = class.Comma
class_of huge = class.Huge
class_of bad = class.Bad
class_of (compare c) = comparison_class c
class_of (sum s) = sum_class s
class_of (product p) = product_class p
class_of (call a) = class.Call
class_of (number n) = class.Number
class_of (text t) = class.Text
class_of (truth b) = class.Truth
class_of (key k) = class.Key k
class_of (name w n) = class.Name w

-- what a rule spells: lists and pairs of names, numbers and expressions
pub data Parsed : Type 0 where
  nothing : Parsed
  named : List ℕ → Parsed
  counted : ℕ → Parsed
  tree : Tree → Parsed
  pair : Parsed → Parsed → Parsed
  left right : Parsed → Parsed
  present : Parsed → Parsed

-- what is kept of two rules, one behind the other
pub data Keeping : Type 0 where
  pairs firsts seconds directed : Keeping

pub data Rule : Type 0 where
  this : Class → Rule  -- a token of this class
  a_name : Rule  -- a name
  a_size : Rule  -- a number from 1 to 1000
  a_number : Rule
  an_expr : Rule  -- an expression
  order : Keeping → Rule → Rule → Rule  -- one and then the other
  silent : Rule → Rule  -- the rule, of which nothing is kept
  either : Rule → Rule → Rule  -- one or the other
  maybe : Rule → Rule  -- [ rule ]
  many : Rule → Rule  -- { rule }

abbrev pub and_then : Rule → Rule → Rule
and_then = order pairs

-- one and then the other, of which the second is kept
abbrev pub skip : Rule → Rule → Rule
skip = order seconds

-- one and then the other, of which the first is kept
abbrev pub keep : Rule → Rule → Rule
keep = order firsts

-- of [ASC | DESC]: whether it is DESC, so ASC says what its absence says
abbrev pub descent : Parsed → Parsed
descent (present (right x)) = present nothing
descent _ = nothing

abbrev pub kept : Keeping → Parsed → Parsed → Parsed
kept pairs v w = pair v w
kept firsts v w = v
kept seconds v w = w
kept directed v w = pair v (descent w)

-- an expression within the limit of depth, where there is one
abbrev pub IsWithin : Option ℕ → Tree → Type 0
IsWithin None e = Unit {0}
IsWithin (Some limit) e = depth e ≤ limit

-- tokens that are these, one behind the other
abbrev pub Many : (List Token → Parsed → Type 0) → List Token → Parsed → Type 0
Many One ts (pair x xs) = (us : List Token) × (ws : List Token) × One us x × Many One ws xs × (ts ≡ us ++ ws)
Many One ts nothing = ts ≡ []
Many One ts _ = ⊥

-- Spelled limit r ts v: the tokens ts are an r, which says v, and no expression in it is deeper than the limit
abbrev pub Spelled : Option ℕ → Rule → List Token → Parsed → Type 0
Spelled l (this c) ts v = (t : Token) × (class_of t ≡ c) × (ts ≡ t ∷ []) × (v ≡ nothing)
Spelled l a_name ts v = (w : Word) × (n : List ℕ) × (ts ≡ name w n ∷ []) × (v ≡ named n)
Spelled l a_size ts v = (n : ℕ) × (1 ≤ n) × (n ≤ 1000) × (ts ≡ number n ∷ []) × (v ≡ counted n)
Spelled l a_number ts v = (n : ℕ) × (ts ≡ number n ∷ []) × (v ≡ counted n)
Spelled l an_expr ts v = (e : Tree) × Spells expr ts e × IsWithin l e × (v ≡ tree e)
Spelled l (order k a b) ts v =
    (us : List Token) × (ws : List Token) × (x : Parsed) × (y : Parsed) × Spelled l a us x × Spelled l b ws y × (ts ≡ us ++ ws) × (v ≡ kept k x y)
Spelled l (silent a) ts v = (x : Parsed) × Spelled l a ts x × (v ≡ nothing)
Spelled l (either a b) ts v = ((x : Parsed) × Spelled l a ts x × (v ≡ left x)) ⊎ ((x : Parsed) × Spelled l b ts x × (v ≡ right x))
Spelled l (maybe a) ts v = ((ts ≡ []) × (v ≡ nothing)) ⊎ ((x : Parsed) × Spelled l a ts x × (v ≡ present x))
Spelled l (many a) ts v = Many (λ us x. Spelled l a us x) ts v

-- some tokens that begin so are an r
abbrev pub Begun : Option ℕ → Rule → List Token → Type 0
Begun l r ts = (more : List Token) × (v : Parsed) × Spelled l r (ts ++ more) v

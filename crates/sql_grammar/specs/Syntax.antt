-- Tokens, trees, and the grammar of expressions.
use Rattle.std.specs.Prelude.{ℕ, ◌^◌, List, [], ◌∷◌, ◌++◌, Bool, true, false}
pub use Rattle.sql_grammar.specs.declared.word.Key.{Key}
pub use Rattle.sql_grammar.specs.declared.word.Word.{Word}
pub use Rattle.sql_grammar.specs.declared.word.Word.TheVariants.{Plain}
pub use Rattle.sql_ast.specs.declared.expression.Sum.{Sum}
pub use Rattle.sql_ast.specs.declared.expression.Sum.TheVariants.{Plus as plus, Minus as minus}
pub use Rattle.sql_ast.specs.declared.expression.Product.{Product}
pub use Rattle.sql_ast.specs.declared.expression.Product.TheVariants.{Times as times, Over as over}
pub use Rattle.sql_ast.specs.declared.expression.Comparison.{Comparison}
pub use Rattle.sql_ast.specs.declared.expression.Comparison.TheVariants.{Equal as equal}
pub use Rattle.sql_ast.specs.declared.expression.Aggregate.{Aggregate}
pub use Rattle.sql_ast.specs.declared.expression.Aggregate.TheVariants.{Count as count, Sum as total, Min as least, Max as greatest}

pub data Token : Type 0 where
  or and not is null between in_ dot open_ close comma huge bad : Token
  compare : Comparison → Token
  sum : Sum → Token
  product : Product → Token
  call : Aggregate → Token
  number : ℕ → Token
  text : List ℕ → Token
  truth : Bool → Token
  key : Key → Token
  name : Word → List ℕ → Token

mutual
  pub data Tree : Type 0 where
    Or And : Tree → Tree → Tree
    Not : Tree → Tree
    Compare : Comparison → Tree → Tree → Tree
    IsNull : Bool → Tree → Tree
    Between : Bool → Tree → Tree → Tree → Tree
    In : Bool → Tree → Trees → Tree
    Add : Sum → Tree → Tree → Tree
    Multiply : Product → Tree → Tree → Tree
    Sign : Sum → Tree → Tree
    Number : Sum → ℕ → Tree
    Text : List ℕ → Tree
    Truth : Bool → Tree
    Column : List ℕ → Tree
    ColumnOf : List ℕ → List ℕ → Tree
    Brackets : Tree → Tree
    CountAll : Tree
    Call : Aggregate → Tree → Tree

  -- the last one first
  pub data Trees : Type 0 where
    none : Trees
    with : Trees → Tree → Trees

pub data Part : Type 0 where
  expr conj neg pred members sums term factor signed primary : Part

-- the tokens of NOT, where it is there
abbrev pub negation : Bool → List Token
negation true = not ∷ []
negation false = []

-- Spells p ts e: the tokens ts are a p of the grammar, whose tree is e
pub data Spells : Part → List Token → Tree → Type 0 where
  -- expr = conj { OR conj }
  expr-one : (ts : List Token) (e : Tree) → Spells conj ts e → Spells expr ts e
  expr-or : (ts us : List Token) (a b : Tree) → Spells expr ts a → Spells conj us b → Spells expr (ts ++ or ∷ us) (Or a b)
  -- conj = neg { AND neg }
  conj-one : (ts : List Token) (e : Tree) → Spells neg ts e → Spells conj ts e
  conj-and : (ts us : List Token) (a b : Tree) → Spells conj ts a → Spells neg us b → Spells conj (ts ++ and ∷ us) (And a b)
  -- neg = NOT neg | pred
  neg-one : (ts : List Token) (e : Tree) → Spells pred ts e → Spells neg ts e
  neg-not : (ts : List Token) (e : Tree) → Spells neg ts e → Spells neg (not ∷ ts) (Not e)
  -- pred = sum [ .. ]
  pred-one : (ts : List Token) (e : Tree) → Spells sums ts e → Spells pred ts e
  pred-compare : (c : Comparison) (ts us : List Token) (a b : Tree) → Spells sums ts a → Spells sums us b → Spells pred (ts ++ compare c ∷ us) (Compare c a b)
  pred-null : (n : Bool) (ts : List Token) (a : Tree) → Spells sums ts a → Spells pred (ts ++ is ∷ (negation n ++ null ∷ [])) (IsNull n a)
  pred-between : (n : Bool) (ts us vs : List Token) (a b c : Tree) → Spells sums ts a → Spells sums us b → Spells sums vs c
      → Spells pred (ts ++ negation n ++ between ∷ us ++ and ∷ vs) (Between n a b c)
  pred-in : (ts : List Token) (e : Tree) → Spells members ts e → Spells pred (ts ++ close ∷ []) e
  -- members = sum [NOT] IN "(" sum { "," sum }
  members-first : (n : Bool) (ts us : List Token) (a b : Tree) → Spells sums ts a → Spells sums us b
      → Spells members (ts ++ negation n ++ in_ ∷ open_ ∷ us) (In n a (with none b))
  members-more : (n : Bool) (ts us : List Token) (a b : Tree) (bs : Trees) → Spells members ts (In n a bs) → Spells sums us b
      → Spells members (ts ++ comma ∷ us) (In n a (with bs b))
  -- sum = term { ("+" | "-") term }
  sum-one : (ts : List Token) (e : Tree) → Spells term ts e → Spells sums ts e
  sum-more : (s : Sum) (ts us : List Token) (a b : Tree) → Spells sums ts a → Spells term us b → Spells sums (ts ++ sum s ∷ us) (Add s a b)
  -- term = factor { ("*" | "/") factor }
  term-one : (ts : List Token) (e : Tree) → Spells factor ts e → Spells term ts e
  term-more : (p : Product) (ts us : List Token) (a b : Tree) → Spells term ts a → Spells factor us b → Spells term (ts ++ product p ∷ us) (Multiply p a b)
  -- factor = number | signed;  signed = ("+" | "-") number | ("+" | "-") signed | primary
  factor-number : (n : ℕ) → Spells factor (number n ∷ []) (Number plus n)
  factor-signed : (ts : List Token) (e : Tree) → Spells signed ts e → Spells factor ts e
  signed-number : (s : Sum) (n : ℕ) → Spells signed (sum s ∷ number n ∷ []) (Number s n)
  signed-huge : Spells signed (sum minus ∷ huge ∷ []) (Number minus (2 ^ 63))
  signed-more : (s : Sum) (ts : List Token) (e : Tree) → Spells signed ts e → Spells signed (sum s ∷ ts) (Sign s e)
  signed-primary : (ts : List Token) (e : Tree) → Spells primary ts e → Spells signed ts e
  -- primary, but for numbers
  primary-text : (t : List ℕ) → Spells primary (text t ∷ []) (Text t)
  primary-truth : (b : Bool) → Spells primary (truth b ∷ []) (Truth b)
  primary-column : (w : Word) (n : List ℕ) → Spells primary (name w n ∷ []) (Column n)
  primary-column_of : (v w : Word) (t n : List ℕ) → Spells primary (name v t ∷ dot ∷ name w n ∷ []) (ColumnOf t n)
  primary-brackets : (ts : List Token) (e : Tree) → Spells expr ts e → Spells primary (open_ ∷ ts ++ close ∷ []) (Brackets e)
  primary-count_all : Spells primary (call count ∷ open_ ∷ product times ∷ close ∷ []) CountAll
  primary-call : (a : Aggregate) (ts : List Token) (e : Tree) → Spells expr ts e → Spells primary (call a ∷ open_ ∷ ts ++ close ∷ []) (Call a e)

-- some text that begins so is an expression
abbrev pub Viable : List Token → Type 0
Viable ts = (more : List Token) × (e : Tree) × Spells expr (ts ++ more) e

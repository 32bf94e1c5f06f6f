-- How tokens are read by a rule: one token is looked at, and the rule goes the one way that it can begin.
use Rattle.std.specs.Prelude.{ℕ, zero, suc, List, [], ◌∷◌, ◌++◌, Option, Some, None, Bool, true, false, not, ◌&&◌, ◌||◌, nat_le, length, if◌then◌else◌}
use Rattle.sql_grammar.specs.Classes.{Class, same, has, apart}
use Rattle.sql_grammar.specs.declared.word.Class.TheVariants as class
use Rattle.sql_grammar.specs.declared.word.Word.TheVariants as word
use Rattle.sql_grammar.specs.Syntax.{Tree, Token, number, name}
use Rattle.sql_grammar.specs.Machine.{State, start, step, ended}
use Rattle.sql_grammar.specs.Depth.{floor}
use Rattle.sql_grammar.specs.Rules.{Rule, this, a_name, a_size, a_number, an_expr, kept, order, silent, either, maybe, many, Parsed, nothing, named, counted, tree, pair, left, right, present, class_of}

-- what is read: what it says, with the tokens that are left; or the tokens from the first wrong one on, or from the
-- first one that goes too deep
pub data Outcome : Type 0 where
  took : Parsed → List Token → Outcome
  wrong deep : List Token → Outcome

abbrev pub bind : Outcome → (Parsed → List Token → Outcome) → Outcome
bind (took v ts) f = f v ts
bind (wrong ts) f = wrong ts
bind (deep ts) f = deep ts

-- ---- classes that a rule begins with

abbrev pub names_begin : List Class
names_begin =
    class.Name word.Plain ∷ class.Name word.Autocommit ∷ class.Name word.Cs ∷ class.Name word.Current
    ∷ class.Name word.Exclusive ∷ class.Name word.Index ∷ class.Name word.Isolation ∷ class.Name word.Key
    ∷ class.Name word.Lock ∷ class.Name word.Mode ∷ class.Name word.Off ∷ class.Name word.Rr ∷ class.Name word.Rs
    ∷ class.Name word.Share ∷ class.Name word.Ur ∷ class.Name word.Work ∷ []

abbrev pub expr_begins : List Class
expr_begins =
    class.Not ∷ class.Plus ∷ class.Minus ∷ class.Number ∷ class.Text ∷ class.Truth ∷ class.Call ∷ class.Open
    ∷ names_begin

abbrev pub is_nullable : Rule → Bool
is_nullable (this c) = false
is_nullable a_name = false
is_nullable a_size = false
is_nullable a_number = false
is_nullable an_expr = false
is_nullable (order k a b) = is_nullable a && is_nullable b
is_nullable (silent a) = is_nullable a
is_nullable (either a b) = is_nullable a || is_nullable b
is_nullable (maybe a) = true
is_nullable (many a) = true

-- and also those of what follows, where the rule may spell nothing
abbrev pub with_next : Bool → List Class → List Class
with_next true next = next
with_next false next = []

abbrev pub begins : Rule → List Class
begins (this c) = c ∷ []
begins a_name = names_begin
begins a_size = class.Number ∷ []
begins a_number = class.Number ∷ []
begins an_expr = expr_begins
begins (order k a b) = begins a ++ with_next (is_nullable a) (begins b)
begins (silent a) = begins a
begins (either a b) = begins a ++ begins b
begins (maybe a) = begins a
begins (many a) = begins a

-- the next token is of one of these classes
abbrev pub starts : List Class → List Token → Bool
starts cs [] = false
starts cs (t ∷ ts) = has (class_of t) cs

-- ---- expressions

abbrev pub finish : Option Tree → List Token → Outcome
finish (Some e) ts = took (tree e) ts
finish None ts = wrong ts

abbrev pub is_deep : Option ℕ → State → Bool
is_deep None x = false
is_deep (Some limit) x = not (nat_le (floor x) limit)

-- no operand goes on with these
abbrev pub stops : Class → Bool
stops class.Comma = true
stops class.Close = true
stops (class.Key k) = true
stops (class.Name w) = true
stops _ = false

abbrev pub if_stopped : Bool → Option Tree → Option Tree
if_stopped true r = r
if_stopped false r = None

-- a whole expression ends in front of a token that stops it; else the machine takes the token
abbrev pub walk_on : Option ℕ → Option Tree → List Token → (State → Outcome) → Option State → Outcome
walk_on l (Some e) ts go r = took (tree e) ts
walk_on l None ts go None = wrong ts
walk_on l None ts go (Some y) = if is_deep l y then deep ts else go y

-- the machine takes tokens as long as it can
abbrev pub walk : Option ℕ → State → List Token → Outcome
walk l x [] = finish (ended x) []
walk l x (t ∷ ts) = walk_on l (if_stopped (stops (class_of t)) (ended x)) (t ∷ ts) (λ y. walk l y ts) (step x t)

-- ---- rules

abbrev pub read_this : Class → List Token → Outcome
read_this c [] = wrong []
read_this c (t ∷ ts) = if same (class_of t) c then took nothing ts else wrong (t ∷ ts)

abbrev pub read_name : List Token → Outcome
read_name (name w n ∷ ts) = took (named n) ts
read_name ts = wrong ts

abbrev pub read_number : List Token → Outcome
read_number (number n ∷ ts) = took (counted n) ts
read_number ts = wrong ts

abbrev pub read_size : List Token → Outcome
read_size (number n ∷ ts) = if nat_le 1 n && nat_le n 1000 then took (counted n) ts else wrong (number n ∷ ts)
read_size ts = wrong ts

-- the first rule where it can begin, else the second
abbrev pub read_either : Bool → Outcome → Outcome → Outcome
read_either true x y = bind x (λ v ts. took (left v) ts)
read_either false x y = bind y (λ v ts. took (right v) ts)

abbrev pub read_maybe : Bool → Outcome → List Token → Outcome
read_maybe true x ts = bind x (λ v us. took (present v) us)
read_maybe false x ts = took nothing ts

-- as long as the rule can begin; there are fewer of it than tokens
abbrev pub read_many : (List Token → Outcome) → List Class → ℕ → List Token → Outcome
read_many f cs zero ts = wrong ts
read_many f cs (suc n) ts =
    if starts cs ts then bind (f ts) (λ v us. bind (read_many f cs n us) (λ vs rest. took (pair v vs) rest)) else took nothing ts

abbrev pub read : Option ℕ → Rule → List Token → Outcome
read l (this c) ts = read_this c ts
read l a_name ts = read_name ts
read l a_size ts = read_size ts
read l a_number ts = read_number ts
read l an_expr ts = walk l start ts
read l (order k a b) ts = bind (read l a ts) (λ v us. bind (read l b us) (λ w rest. took (kept k v w) rest))
read l (silent a) ts = bind (read l a ts) (λ v us. took nothing us)
read l (either a b) ts = read_either (starts (begins a) ts) (read l a ts) (read l b ts)
read l (maybe a) ts = read_maybe (starts (begins a) ts) (read l a ts) ts
read l (many a) ts = read_many (read l a) (begins a) (suc (length ts)) ts

-- ---- one look is enough

abbrev pub all_stop : List Class → Bool
all_stop [] = true
all_stop (c ∷ cs) = stops c && all_stop cs

-- one token decides at each choice of the rule, where these may follow it
abbrev pub is_plain : List Class → Rule → Bool
is_plain next (this c) = true
is_plain next a_name = true
is_plain next a_size = true
is_plain next a_number = true
is_plain next an_expr = all_stop next
is_plain next (order k a b) = is_plain (begins b ++ with_next (is_nullable b) next) a && is_plain next b
is_plain next (silent a) = is_plain next a
is_plain next (either a b) =
    (is_plain next a && is_plain next b) && (apart (begins a) (begins b) && (not (is_nullable a) && not (is_nullable b)))
is_plain next (maybe a) = is_plain next a && (apart (begins a) next && not (is_nullable a))
is_plain next (many a) = is_plain (begins a ++ next) a && (apart (begins a) next && not (is_nullable a))

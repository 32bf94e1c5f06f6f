-- One token of a walk.
use Rattle.std.proofs.Common.{◌≡◌, ℕ, List, ◌∷◌, refl, sym, ap, cond, ◌∙◌, Bool, true, false, ◌&&◌, Option, Some, None, is_some}
use Rattle.sql_lexer.specs.declared.token.TokenKind.{TokenKind}
use Rattle.sql_grammar.specs.Tokens.{symbol_of, text_of, token_from, token_of}
use Rattle.sql_grammar.specs.declared.symbol.Symbol.{Symbol}
use Rattle.sql_grammar.specs.declared.word.Class.{Class}
use Rattle.std.proofs.lemmas.Bool.{false≢true}
use Rattle.sql_grammar.specs.Syntax.{Token, Tree}
use Rattle.sql_grammar.specs.Rules.{class_of}
use Rattle.sql_grammar.specs.Machine.{State, step, ended}
use Rattle.sql_grammar.specs.Reading.{Outcome, wrong, deep, finish, walk, walk_on, stops, if_stopped, is_deep}

stop : (l : Option ℕ) (b : Bool) (r : Option Tree) (ts : List Token) (go : State → Outcome) (n : Option State)
    → (b && is_some r) ≡ true → walk_on l (if_stopped b r) ts go n ≡ finish r ts
stop l true (Some e) ts go n h = refl
stop l true None ts go n h = absurd (false≢true h)
stop l false r ts go n h = absurd (false≢true h)

on : (b : Bool) (r : Option Tree) → (b && is_some r) ≡ false → if_stopped b r ≡ None
on true (Some e) h = absurd (false≢true (sym h))
on true None h = refl
on false r h = refl

-- the expression ends in front of the token
pub walk_stops : (l : Option ℕ) (x : State) (t : Token) (ts : List Token)
    → (stops (class_of t) && is_some (ended x)) ≡ true → walk l x (t ∷ ts) ≡ finish (ended x) (t ∷ ts)
walk_stops l x t ts h = stop l (stops (class_of t)) (ended x) (t ∷ ts) (λ y. walk l y ts) (step x t) h

-- the token is looked at by the machine
goes-on : (l : Option ℕ) (x : State) (t : Token) (ts : List Token) (n : Option State)
    → (stops (class_of t) && is_some (ended x)) ≡ false → step x t ≡ n → walk l x (t ∷ ts) ≡ walk_on l None (t ∷ ts) (λ y. walk l y ts) n
goes-on l x t ts n h s =
    ap (λ r. walk_on l r (t ∷ ts) (λ y. walk l y ts) (step x t)) (on (stops (class_of t)) (ended x) h)
    ∙ ap (λ n. walk_on l None (t ∷ ts) (λ y. walk l y ts) n) s

pub walk_wrong : (l : Option ℕ) (x : State) (t : Token) (ts : List Token)
    → (stops (class_of t) && is_some (ended x)) ≡ false → step x t ≡ None → walk l x (t ∷ ts) ≡ wrong (t ∷ ts)
walk_wrong l x t ts h s = goes-on l x t ts None h s

pub walk_deep : (l : Option ℕ) (x y : State) (t : Token) (ts : List Token)
    → (stops (class_of t) && is_some (ended x)) ≡ false → step x t ≡ Some y → is_deep l y ≡ true → walk l x (t ∷ ts) ≡ deep (t ∷ ts)
walk_deep l x y t ts h s d = goes-on l x t ts (Some y) h s ∙ ap (λ b. cond b (deep (t ∷ ts)) (walk l y ts)) d

pub walk_goes : (l : Option ℕ) (x y : State) (t : Token) (ts : List Token)
    → (stops (class_of t) && is_some (ended x)) ≡ false → step x t ≡ Some y → is_deep l y ≡ false → walk l x (t ∷ ts) ≡ walk l y ts
walk_goes l x y t ts h s d = goes-on l x t ts (Some y) h s ∙ ap (λ b. cond b (deep (t ∷ ts)) (walk l y ts)) d

-- ---- the token in code

pub class_at : (x : Symbol) (k : TokenKind) (c : Class) → x ≡ symbol_of k → ((n : List ℕ) → class_of (token_from x n) ≡ c) → class_of (token_of k) ≡ c
class_at x k c q f = ap (λ y. class_of (token_from y (text_of k))) (sym q) ∙ f (text_of k)

pub token_at : (x : Symbol) (k : TokenKind) (n : List ℕ) → x ≡ symbol_of k → n ≡ text_of k → token_from x n ≡ token_of k
token_at x k n q p = ap (λ y. token_from y n) q ∙ ap (λ m. token_from (symbol_of k) m) p

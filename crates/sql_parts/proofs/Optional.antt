-- What may be absent.
use Rattle.std.proofs.Common.{◌≡◌, List, [], ◌∷◌, Bool, true, false, Some, sym, ap, subst, ◌∙◌}
use Rattle.sql_grammar.specs.Syntax.{Token}
use Rattle.sql_grammar.specs.declared.word.Class.{Class}
use Rattle.sql_grammar.specs.Rules.{Rule, this, skip, maybe, many, Parsed, nothing, pair}
use Rattle.sql_grammar.specs.Reading.{Outcome, took, wrong, deep, bind, starts, begins, read}
use Rattle.sql_grammar.specs.Grammar.{comma, listed}
use Rattle.sql_tokens.specs.Reading.{reading, Passes}
use Rattle.sql_tokens.proofs.Orders.{present_ok, absent_ok}
use Rattle.sql_parts.specs.Options.{flag, list_said}
use Rattle.sql_parts.specs.Lists.{all_said}

pub passes_flag : (c : Class) (b : Bool) (ts rest : List Token) → Passes c b ts rest → reading (maybe (this c)) ts ≡ took (flag b) rest
passes_flag c true ts rest h = present_ok (this c) ts rest nothing h.0 h.1
passes_flag c false ts rest h = absent_ok (this c) ts h.0 ∙ ap (λ l. took nothing l) (sym h.1)

-- ---- a list of at least one part says something

abbrev IsPair : Outcome → Type 0
IsPair (took (pair v w) rest) = Unit {0}
IsPair (took _ rest) = ⊥
IsPair (wrong rest) = Unit {0}
IsPair (deep rest) = Unit {0}

bind-pair : (o : Outcome) (f : Parsed → List Token → Outcome) → ((v : Parsed) (rest : List Token) → IsPair (f v rest)) → IsPair (bind o f)
bind-pair (took v rest) f h = h v rest
bind-pair (wrong rest) f h = tt
bind-pair (deep rest) f h = tt

listed-pair : (a : Rule) (ts : List Token) → IsPair (read (Some 200) (listed a) ts)
listed-pair a ts =
    bind-pair (read (Some 200) a ts) (λ v us. bind (read (Some 200) (many (skip comma a)) us) (λ w rest. took (pair v w) rest))
    (λ v us. bind-pair (read (Some 200) (many (skip comma a)) us) (λ w rest. took (pair v w) rest) (λ w rest. tt))

skip-pair : (a b : Rule) → ((ts : List Token) → IsPair (read (Some 200) b ts)) → (ts : List Token) → IsPair (read (Some 200) (skip a b) ts)
skip-pair a b h ts =
    bind-pair (read (Some 200) a ts) (λ v us. bind (read (Some 200) b us) (λ w rest. took w rest))
    (λ v us. pair-again (read (Some 200) b us) (h us))
  where
    pair-again : (o : Outcome) → IsPair o → IsPair (bind o (λ w rest. took w rest))
    pair-again (took v rest) h = h
    pair-again (wrong rest) h = tt
    pair-again (deep rest) h = tt

pub listed_present : {A : Type 0} (says : A → Parsed) (a b c : Rule) (xs : List A) (ts rest : List Token) → starts (begins (skip a (skip b (listed c)))) ts ≡ true
    → reading (skip a (skip b (listed c))) ts ≡ took (all_said says xs) rest → reading (maybe (skip a (skip b (listed c)))) ts ≡ took (list_said says xs) rest
unfolding reading
listed_present says a b c [] ts rest s h =
    let P : Outcome → Type 0 = λ o. IsPair o in
    absurd (subst P h (skip-pair a (skip b (listed c)) (λ ts. skip-pair b (listed c) (λ ts. listed-pair c ts) ts) ts))
listed_present says a b c (x ∷ xs) ts rest s h = present_ok (skip a (skip b (listed c))) ts rest (all_said says (x ∷ xs)) s h

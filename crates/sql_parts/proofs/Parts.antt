-- Lists, part by part.
use Rattle.std.proofs.Common.{◌≡◌, ◌<◌, List, length, [], ◌∷◌, ◌++◌, true, false, Some, refl, sym, ap, ◌∙◌, arith}
use Rattle.sql_grammar.specs.Syntax.{Token}
use Rattle.sql_grammar.specs.Rules.{Rule, skip, many, Parsed, pair}
use Rattle.sql_grammar.specs.Reading.{Outcome, took, wrong, deep, bind, starts, begins, is_nullable, read}
use Rattle.sql_grammar.specs.Grammar.{comma, listed}
use Rattle.sql_tokens.specs.Reading.{reading, Fails}
use Rattle.sql_tokens.specs.declared.failing.Failing.{Failing}
use Rattle.sql_parts.specs.Lists.{in_front, all_said, led}
use Rattle.sql_parts.proofs.Unrolled.{many_next, many_ends, shorter}
use Rattle.sql_tokens.proofs.Orders.{fails_on, fails_as}

front-snoc : {A : Type 0} (says : A → Parsed) (xs : List A) (x : A) (v : Parsed) → in_front says (xs ++ x ∷ []) v ≡ in_front says xs (pair (says x) v)
front-snoc says [] x v = refl
front-snoc says (y ∷ xs) x v = ap (λ w. pair (says y) w) (front-snoc says xs x v)

led-snoc : {A : Type 0} (says : A → Parsed) (xs : List A) (x : A) (o : Outcome)
    → led says xs (bind o (λ vs rest. took (pair (says x) vs) rest)) ≡ led says (xs ++ x ∷ []) o
unfolding led
led-snoc says xs x (took v rest) = ap (λ w. took w rest) (sym (front-snoc says xs x v))
led-snoc says xs x (wrong rest) = refl
led-snoc says xs x (deep rest) = refl

-- nothing is read yet
pub led_begins : {A : Type 0} (says : A → Parsed) (o : Outcome) → o ≡ led says [] o
unfolding led
led_begins says (took v rest) = refl
led_begins says (wrong rest) = refl
led_begins says (deep rest) = refl

pub led_next : {A : Type 0} (says : A → Parsed) (whole : Outcome) (a : Rule) (xs : List A) (x : A) (ts rest : List Token) → is_nullable a ≡ false
    → whole ≡ led says xs (reading (many a) ts) → starts (begins a) ts ≡ true → reading a ts ≡ took (says x) rest
    → whole ≡ led says (xs ++ x ∷ []) (reading (many a) rest)
unfolding reading
led_next says whole a xs x ts rest n h s p =
    h
    ∙ ap (λ o. led says xs o) (many_next (Some 200) (omega arith) a n ts s ∙ ap (λ o. bind o (λ v us. bind (read (Some 200) (many a) us) (λ vs rest. took (pair v vs) rest))) p)
    ∙ led-snoc says xs x (read (Some 200) (many a) rest)

pub led_ends : {A : Type 0} (says : A → Parsed) (whole : Outcome) (a : Rule) (xs : List A) (ts : List Token)
    → whole ≡ led says xs (reading (many a) ts) → starts (begins a) ts ≡ false → whole ≡ took (all_said says xs) ts
unfolding reading led
led_ends says whole a xs ts h s = h ∙ ap (λ o. led says xs o) (many_ends (Some 200) a ts s)

pub led_fails : {A : Type 0} (says : A → Parsed) (whole : Outcome) (a : Rule) (xs : List A) (ts rest : List Token) (e : Failing) → is_nullable a ≡ false
    → whole ≡ led says xs (reading (many a) ts) → starts (begins a) ts ≡ true → Fails e (reading a ts) rest → Fails e whole rest
unfolding reading led
led_fails says whole a xs ts rest e n h s p =
    fails_as e whole (led says xs (read (Some 200) (many a) ts)) rest h
    (fails_on e (read (Some 200) (many a) ts) (λ v rest. took (in_front says xs v) rest) rest
    (fails_as e (read (Some 200) (many a) ts) (bind (read (Some 200) a ts) (λ v us. bind (read (Some 200) (many a) us) (λ vs rest. took (pair v vs) rest))) rest
    (many_next (Some 200) (omega arith) a n ts s)
    (fails_on e (read (Some 200) a ts) (λ v us. bind (read (Some 200) (many a) us) (λ vs rest. took (pair v vs) rest)) rest p)))

pub reading_shortens : (a : Rule) (ts rest : List Token) (v : Parsed) → is_nullable a ≡ false → reading a ts ≡ took v rest → length rest < length ts
unfolding reading
reading_shortens a ts rest v n q = shorter (Some 200) (omega arith) a n ts rest v q

pub listed_begins : {A : Type 0} (says : A → Parsed) (a : Rule) (x : A) (ts us : List Token) → reading a ts ≡ took (says x) us
    → reading (listed a) ts ≡ led says (x ∷ []) (reading (many (skip comma a)) us)
unfolding reading led
listed_begins says a x ts us p = ap (λ o. bind o (λ v us. bind (read (Some 200) (many (skip comma a)) us) (λ w rest. took (pair v w) rest))) p

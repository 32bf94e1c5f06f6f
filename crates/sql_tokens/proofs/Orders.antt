-- What is read by a rule, from what is read by its parts.
use Rattle.std.proofs.Common.{◌≡◌, List, true, false, Some, sym, ap, subst, ◌∙◌}
use Rattle.sql_grammar.specs.Syntax.{Token}
use Rattle.sql_grammar.specs.Rules.{Rule, order, silent, either, maybe, Keeping, pairs, firsts, seconds, kept, Parsed, nothing, pair, left, right, present}
use Rattle.sql_grammar.specs.Reading.{Outcome, took, bind, starts, begins, read, read_either, read_maybe}
use Rattle.std.specs.Prelude.{Result, Ok, Err, IsErrAnd}
use Rattle.sql_tokens.specs.Reading.{reading, Fails, Tells}
use Rattle.sql_tokens.specs.declared.failing.Failing.{Failing}
use Rattle.sql_tokens.specs.declared.failing.Failing.TheVariants as failing

-- ---- one rule behind another

pub order_ok : (k : Keeping) (a b : Rule) (ts us rest : List Token) (v w : Parsed)
    → reading a ts ≡ took v us → reading b us ≡ took w rest → reading (order k a b) ts ≡ took (kept k v w) rest
unfolding reading
order_ok k a b ts us rest v w p q = ap (λ o. bind o (λ v us. bind (read (Some 200) b us) (λ w rest. took (kept k v w) rest))) p ∙ ap (λ o. bind o (λ w rest. took (kept k v w) rest)) q

pub skip_ok : (a b : Rule) (ts us rest : List Token) (v w : Parsed) → reading a ts ≡ took v us → reading b us ≡ took w rest → reading (order seconds a b) ts ≡ took w rest
skip_ok a b ts us rest v w p q = order_ok seconds a b ts us rest v w p q

pub keep_ok : (a b : Rule) (ts us rest : List Token) (v w : Parsed) → reading a ts ≡ took v us → reading b us ≡ took w rest → reading (order firsts a b) ts ≡ took v rest
keep_ok a b ts us rest v w p q = order_ok firsts a b ts us rest v w p q

pub pair_ok : (a b : Rule) (ts us rest : List Token) (v w : Parsed) → reading a ts ≡ took v us → reading b us ≡ took w rest
    → reading (order pairs a b) ts ≡ took (pair v w) rest
pair_ok a b ts us rest v w p q = order_ok pairs a b ts us rest v w p q

pub silent_ok : (a : Rule) (ts rest : List Token) (v : Parsed) → reading a ts ≡ took v rest → reading (silent a) ts ≡ took nothing rest
unfolding reading
silent_ok a ts rest v p = ap (λ o. bind o (λ v us. took nothing us)) p

pub left_ok : (a b : Rule) (ts rest : List Token) (v : Parsed) → starts (begins a) ts ≡ true → reading a ts ≡ took v rest → reading (either a b) ts ≡ took (left v) rest
unfolding reading
left_ok a b ts rest v s p = ap (λ c. read_either c (read (Some 200) a ts) (read (Some 200) b ts)) s ∙ ap (λ o. bind o (λ v us. took (left v) us)) p

pub right_ok : (a b : Rule) (ts rest : List Token) (v : Parsed) → starts (begins a) ts ≡ false → reading b ts ≡ took v rest → reading (either a b) ts ≡ took (right v) rest
unfolding reading
right_ok a b ts rest v s p = ap (λ c. read_either c (read (Some 200) a ts) (read (Some 200) b ts)) s ∙ ap (λ o. bind o (λ v us. took (right v) us)) p

pub present_ok : (a : Rule) (ts rest : List Token) (v : Parsed) → starts (begins a) ts ≡ true → reading a ts ≡ took v rest → reading (maybe a) ts ≡ took (present v) rest
unfolding reading
present_ok a ts rest v s p = ap (λ c. read_maybe c (read (Some 200) a ts) ts) s ∙ ap (λ o. bind o (λ v us. took (present v) us)) p

pub absent_ok : (a : Rule) (ts : List Token) → starts (begins a) ts ≡ false → reading (maybe a) ts ≡ took nothing ts
unfolding reading
absent_ok a ts s = ap (λ c. read_maybe c (read (Some 200) a ts) ts) s

-- ---- failures

pub fails_on : (e : Failing) (o : Outcome) (f : Parsed → List Token → Outcome) (rest : List Token) → Fails e o rest → Fails e (bind o f) rest
fails_on failing.Wrong o f rest h = ap (λ o. bind o f) h
fails_on failing.Deep o f rest h = ap (λ o. bind o f) h
fails_on failing.Memory o f rest h = tt

pub fails_as : (e : Failing) (o p : Outcome) (rest : List Token) → o ≡ p → Fails e p rest → Fails e o rest
fails_as failing.Wrong o p rest q h = q ∙ h
fails_as failing.Deep o p rest q h = q ∙ h
fails_as failing.Memory o p rest q h = tt

pub order_first : (k : Keeping) (a b : Rule) (ts rest : List Token) (e : Failing) → Fails e (reading a ts) rest → Fails e (reading (order k a b) ts) rest
unfolding reading
order_first k a b ts rest e h = fails_on e (read (Some 200) a ts) (λ v us. bind (read (Some 200) b us) (λ w rest. took (kept k v w) rest)) rest h

pub order_second : (k : Keeping) (a b : Rule) (ts us rest : List Token) (v : Parsed) (e : Failing)
    → reading a ts ≡ took v us → Fails e (reading b us) rest → Fails e (reading (order k a b) ts) rest
unfolding reading
order_second k a b ts us rest v e p h =
    fails_as e (read (Some 200) (order k a b) ts) (bind (read (Some 200) b us) (λ w rest. took (kept k v w) rest)) rest
    (ap (λ o. bind o (λ v us. bind (read (Some 200) b us) (λ w rest. took (kept k v w) rest))) p)
    (fails_on e (read (Some 200) b us) (λ w rest. took (kept k v w) rest) rest h)

pub silent_fails : (a : Rule) (ts rest : List Token) (e : Failing) → Fails e (reading a ts) rest → Fails e (reading (silent a) ts) rest
unfolding reading
silent_fails a ts rest e h = fails_on e (read (Some 200) a ts) (λ v us. took nothing us) rest h

pub left_fails : (a b : Rule) (ts rest : List Token) (e : Failing) → starts (begins a) ts ≡ true → Fails e (reading a ts) rest → Fails e (reading (either a b) ts) rest
unfolding reading
left_fails a b ts rest e s h =
    fails_as e (read (Some 200) (either a b) ts) (bind (read (Some 200) a ts) (λ v us. took (left v) us)) rest
    (ap (λ c. read_either c (read (Some 200) a ts) (read (Some 200) b ts)) s) (fails_on e (read (Some 200) a ts) (λ v us. took (left v) us) rest h)

pub right_fails : (a b : Rule) (ts rest : List Token) (e : Failing) → starts (begins a) ts ≡ false → Fails e (reading b ts) rest → Fails e (reading (either a b) ts) rest
unfolding reading
right_fails a b ts rest e s h =
    fails_as e (read (Some 200) (either a b) ts) (bind (read (Some 200) b ts) (λ v us. took (right v) us)) rest
    (ap (λ c. read_either c (read (Some 200) a ts) (read (Some 200) b ts)) s) (fails_on e (read (Some 200) b ts) (λ v us. took (right v) us) rest h)

pub present_fails : (a : Rule) (ts rest : List Token) (e : Failing) → starts (begins a) ts ≡ true → Fails e (reading a ts) rest → Fails e (reading (maybe a) ts) rest
unfolding reading
present_fails a ts rest e s h =
    fails_as e (read (Some 200) (maybe a) ts) (bind (read (Some 200) a ts) (λ v us. took (present v) us)) rest
    (ap (λ c. read_maybe c (read (Some 200) a ts) ts) s) (fails_on e (read (Some 200) a ts) (λ v us. took (present v) us) rest h)

-- ---- answers

pub failed : {A : Type 0} (says : A → Parsed) (o : Outcome) (result : Result A Failing) (e : Failing) (rest : List Token)
    → IsErrAnd result (λ f. f ≡ e) → Fails e o rest → Tells says o result rest
failed says o (Err f) e rest h g = let P : Failing → Type 0 = λ f. Fails f o rest in subst P (sym h) g
failed says o (Ok x) e rest h g = absurd h

pub told_as : {A : Type 0} (says : A → Parsed) (o p : Outcome) (result : Result A Failing) (rest : List Token) → o ≡ p → Tells says p result rest → Tells says o result rest
told_as says o p (Ok x) rest q h = q ∙ h
told_as says o p (Err e) rest q h = fails_as e o p rest q h

-- for rules one behind the other
pub ruleset sequences = (failed, skip_ok, keep_ok, pair_ok, order_first, order_second)

-- for rules one in place of the other
pub ruleset choices = (failed, left_ok, left_fails, right_ok, right_fails)

-- for rules that may be absent
pub ruleset options = (failed, present_ok, present_fails, absent_ok)

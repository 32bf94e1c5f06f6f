-- The verdict of a whole text.
use Rattle.std.proofs.Common.{◌≡◌, ◌<◌, ℕ, zero, suc, List, [], ◌∷◌, ◌++◌, Bool, true, false, Option, None, refl, sym, ap, subst, ◌∙◌, append_assoc, append-nil, arith, nat_le, not, ◌&&◌, cond, length, length-append}
use Rattle.std.proofs.lemmas.Bool.{and_parts, false≢true, not-true}
use Rattle.sql_grammar.specs.Syntax.{Token, number, name}
use Rattle.sql_grammar.specs.Machine.{start}
use Rattle.sql_grammar.specs.Rules.{Rule, this, a_name, a_size, a_number, an_expr, order, silent, either, maybe, many, kept, Parsed, nothing, named, counted, pair, left, right, present, class_of}
use Rattle.sql_grammar.specs.Classes.{Class, same, apart}
use Rattle.sql_grammar.specs.Grammar.{statement}
use Rattle.sql_grammar.specs.Reading.{Outcome, took, wrong, deep, bind, starts, begins, is_nullable, with_next, is_plain, read_this, read_name, read_number, read_size, read_either, read_maybe, read_many, read}
use Rattle.sql_grammar.specs.Verdict.{IsStatement, Viable, at_end, whole, IsDeepAt, Fault, IsVerdict}
use Rattle.sql_grammar.proofs.Sound.{Toks}
use Rattle.sql_grammar.proofs.Walking.{IsShallow, rest_of, moved, Local, Ends, passed, stays, walk-local, Same, same-self, walk-same}
use Rattle.sql_grammar.proofs.Telling.{Tells, tells}
use Rattle.sql_grammar.proofs.Exact.{opens, Opens, reads}
use Rattle.sql_grammar.proofs.Plain.{statement-plain}

-- ---- what is left is an end

tells-ends : (l : Option ℕ) (r : Rule) (ts : Toks) (o : Outcome) → Tells l r ts o → Ends ts o
tells-ends l r ts (took v rest) (us, q, A) = (us, q)
tells-ends l r ts (wrong rest) (us, q, A) = (us, q)
tells-ends l r ts (deep rest) (us, t, more, p, q, A, B) = (us, q ∙ ap (λ z. us ++ z) (sym p))

read-ends : (l : Option ℕ) → IsShallow l start → (r : Rule) (ts : Toks) → Ends ts (read l r ts)
read-ends l h r ts = tells-ends l r ts (read l r ts) (tells l h r ts)

-- ---- one look

abbrev Twin : Token → Toks → Toks → (Toks → Outcome) → Type 0
Twin t rest rest' f = (us : Toks) → Local t rest rest' (f (us ++ t ∷ rest)) (f (us ++ t ∷ rest'))

bind-twin : (t : Token) (rest rest' : Toks) (f : Parsed → Toks → Outcome) → ((v : Parsed) (ts : Toks) → Ends ts (f v ts)) → ((v : Parsed) → Twin t rest rest' (f v))
    → (o p : Outcome) → Local t rest rest' o p → Local t rest rest' (bind o f) (bind p f)
bind-twin t rest rest' f E T (took v ts) p L xs q =
    let (ws, w) = E v ts in
    let W : ts ≡ (ws ++ xs) ++ t ∷ rest = w ∙ ap (λ z. ws ++ z) q ∙ sym (append_assoc ws xs (t ∷ rest)) in
    ap (λ o. bind o f) (L (ws ++ xs) W) ∙ T v (ws ++ xs) xs (ap (λ z. rest_of (f v z)) (sym W) ∙ q) ∙ ap (λ z. moved (f v z) (xs ++ t ∷ rest')) (sym W)
bind-twin t rest rest' f E T (wrong ts) p L xs q = ap (λ o. bind o f) (L xs q)
bind-twin t rest rest' f E T (deep ts) p L xs q = ap (λ o. bind o f) (L xs q)

bind-ends : (o : Outcome) (f : Parsed → Toks → Outcome) (ts : Toks) → Ends ts o → ((v : Parsed) (us : Toks) → Ends us (f v us)) → Ends ts (bind o f)
bind-ends (took v us) f ts (ws, q) E = let (zs, p) = E v us in (ws ++ zs, q ∙ ap (λ z. ws ++ z) p ∙ sym (append_assoc ws zs (rest_of (f v us))))
bind-ends (wrong us) f ts h E = h
bind-ends (deep us) f ts h E = h

took-twin : (t : Token) (rest rest' : Toks) (g : Parsed → Parsed) (v : Parsed) → Twin t rest rest' (λ us. took (g v) us)
took-twin t rest rest' g v us = stays t rest rest' us (took (g v) (us ++ t ∷ rest)) (took (g v) (us ++ t ∷ rest')) refl refl

took-ends : (g : Parsed → Parsed) (v : Parsed) (ts : Toks) → Ends ts (took (g v) ts)
took-ends g v ts = ([], refl)

this-twin : (c : Class) (t : Token) (rest rest' : Toks) → Twin t rest rest' (read_this c)
this-twin c t rest rest' [] = go (same (class_of t) c)
  where
    go : (b : Bool) → Local t rest rest' (cond b (took nothing rest) (wrong (t ∷ rest))) (cond b (took nothing rest') (wrong (t ∷ rest')))
    go true = passed t rest rest' (took nothing rest) (took nothing rest') ([], refl)
    go false = stays t rest rest' [] (wrong (t ∷ rest)) (wrong (t ∷ rest')) refl refl
this-twin c t rest rest' (u ∷ us) = go (same (class_of u) c)
  where
    go : (b : Bool) → Local t rest rest' (cond b (took nothing (us ++ t ∷ rest)) (wrong (u ∷ us ++ t ∷ rest))) (cond b (took nothing (us ++ t ∷ rest')) (wrong (u ∷ us ++ t ∷ rest')))
    go true = stays t rest rest' us (took nothing (us ++ t ∷ rest)) (took nothing (us ++ t ∷ rest')) refl refl
    go false = stays t rest rest' (u ∷ us) (wrong (u ∷ us ++ t ∷ rest)) (wrong (u ∷ us ++ t ∷ rest')) refl refl

name-twin : (t : Token) (rest rest' : Toks) → Twin t rest rest' read_name
name-twin (name w n) rest rest' [] = passed (name w n) rest rest' (took (named n) rest) (took (named n) rest') ([], refl)
name-twin t rest rest' [] = stays t rest rest' [] (wrong (t ∷ rest)) (wrong (t ∷ rest')) refl refl
name-twin t rest rest' (name w n ∷ us) = stays t rest rest' us (took (named n) (us ++ t ∷ rest)) (took (named n) (us ++ t ∷ rest')) refl refl
name-twin t rest rest' (u ∷ us) = stays t rest rest' (u ∷ us) (wrong (u ∷ us ++ t ∷ rest)) (wrong (u ∷ us ++ t ∷ rest')) refl refl

number-twin : (t : Token) (rest rest' : Toks) → Twin t rest rest' read_number
number-twin (number n) rest rest' [] = passed (number n) rest rest' (took (counted n) rest) (took (counted n) rest') ([], refl)
number-twin t rest rest' [] = stays t rest rest' [] (wrong (t ∷ rest)) (wrong (t ∷ rest')) refl refl
number-twin t rest rest' (number n ∷ us) = stays t rest rest' us (took (counted n) (us ++ t ∷ rest)) (took (counted n) (us ++ t ∷ rest')) refl refl
number-twin t rest rest' (u ∷ us) = stays t rest rest' (u ∷ us) (wrong (u ∷ us ++ t ∷ rest)) (wrong (u ∷ us ++ t ∷ rest')) refl refl

size-twin : (t : Token) (rest rest' : Toks) → Twin t rest rest' read_size
size-twin (number n) rest rest' [] = go (nat_le 1 n && nat_le n 1000)
  where
    go : (b : Bool) → Local (number n) rest rest' (cond b (took (counted n) rest) (wrong (number n ∷ rest))) (cond b (took (counted n) rest') (wrong (number n ∷ rest')))
    go true = passed (number n) rest rest' (took (counted n) rest) (took (counted n) rest') ([], refl)
    go false = stays (number n) rest rest' [] (wrong (number n ∷ rest)) (wrong (number n ∷ rest')) refl refl
size-twin t rest rest' [] = stays t rest rest' [] (wrong (t ∷ rest)) (wrong (t ∷ rest')) refl refl
size-twin t rest rest' (number n ∷ us) = go (nat_le 1 n && nat_le n 1000)
  where
    go : (b : Bool) → Local t rest rest' (cond b (took (counted n) (us ++ t ∷ rest)) (wrong (number n ∷ us ++ t ∷ rest))) (cond b (took (counted n) (us ++ t ∷ rest')) (wrong (number n ∷ us ++ t ∷ rest')))
    go true = stays t rest rest' us (took (counted n) (us ++ t ∷ rest)) (took (counted n) (us ++ t ∷ rest')) refl refl
    go false = stays t rest rest' (number n ∷ us) (wrong (number n ∷ us ++ t ∷ rest)) (wrong (number n ∷ us ++ t ∷ rest')) refl refl
size-twin t rest rest' (u ∷ us) = stays t rest rest' (u ∷ us) (wrong (u ∷ us ++ t ∷ rest)) (wrong (u ∷ us ++ t ∷ rest')) refl refl

starts-twin : (cs : List Class) (t : Token) (rest rest' us : Toks) → starts cs (us ++ t ∷ rest) ≡ starts cs (us ++ t ∷ rest')
starts-twin cs t rest rest' [] = refl
starts-twin cs t rest rest' (u ∷ us) = refl

many-ends : (f : Toks → Outcome) → ((us : Toks) → Ends us (f us)) → (cs : List Class) (n : ℕ) (ts : Toks) → Ends ts (read_many f cs n ts)
many-ends f E cs zero ts = ([], refl)
many-ends f E cs (suc n) ts = go (λ us. many-ends f E cs n us) (starts cs ts)
  where
    go : ((us : Toks) → Ends us (read_many f cs n us)) → (b : Bool) → Ends ts (cond b (bind (f ts) (λ v us. bind (read_many f cs n us) (λ vs rest. took (pair v vs) rest))) (took nothing ts))
    go M true = bind-ends (f ts) (λ v us. bind (read_many f cs n us) (λ vs rest. took (pair v vs) rest)) ts (E ts)
        (λ v us. bind-ends (read_many f cs n us) (λ vs rest. took (pair v vs) rest) us (M us) (λ vs rest. took-ends (pair v) vs rest))
    go M false = ([], refl)

-- a rule that is taken takes a token
abbrev Shrinks : (Toks → Outcome) → Type 0
Shrinks f = (ts us : Toks) (v : Parsed) → f ts ≡ took v us → length us < length ts

many-twin : (f : Toks → Outcome) → ((us : Toks) → Ends us (f us)) → Shrinks f → (cs : List Class) (t : Token) (rest rest' : Toks) → Twin t rest rest' f
    → (n m : ℕ) (us : Toks) → length (us ++ t ∷ rest) < n → length (us ++ t ∷ rest') < m
    → Local t rest rest' (read_many f cs n (us ++ t ∷ rest)) (read_many f cs m (us ++ t ∷ rest'))
many-twin f E S cs t rest rest' T zero m us g h = absurd (omega (arith, g))
many-twin f E S cs t rest rest' T (suc n) zero us g h = absurd (omega (arith, h))
many-twin f E S cs t rest rest' T (suc n) (suc m) us g h = go (λ us g h. many-twin f E S cs t rest rest' T n m us g h) (starts cs (us ++ t ∷ rest)) (starts cs (us ++ t ∷ rest')) (starts-twin cs t rest rest' us)
  where
    more : ℕ → Parsed → Toks → Outcome
    more k v us = bind (read_many f cs k us) (λ vs rest. took (pair v vs) rest)

    Again : Type 0
    Again = (us : Toks) → length (us ++ t ∷ rest) < n → length (us ++ t ∷ rest') < m → Local t rest rest' (read_many f cs n (us ++ t ∷ rest)) (read_many f cs m (us ++ t ∷ rest'))

    one : Again → (o : Outcome) → f (us ++ t ∷ rest) ≡ o → Local t rest rest' o (f (us ++ t ∷ rest'))
        → Local t rest rest' (bind o (λ v us. bind (read_many f cs n us) (λ vs rest. took (pair v vs) rest))) (bind (f (us ++ t ∷ rest')) (λ v us. bind (read_many f cs m us) (λ vs rest. took (pair v vs) rest)))
    one A (took v ts) e L xs q =
        let (ws, w) = bind-ends (read_many f cs n ts) (λ vs rest. took (pair v vs) rest) ts (many-ends f E cs n ts) (λ vs rest. took-ends (pair v) vs rest) in
        let W : ts ≡ (ws ++ xs) ++ t ∷ rest = w ∙ ap (λ z. ws ++ z) q ∙ sym (append_assoc ws xs (t ∷ rest)) in
        let L' = L (ws ++ xs) W in
        let s = S (us ++ t ∷ rest) ts v e in
        let s' = S (us ++ t ∷ rest') ((ws ++ xs) ++ t ∷ rest') v L' in
        let less : length ((ws ++ xs) ++ t ∷ rest) < n = (let P : ℕ → Type 0 = λ k. k < n in subst P (ap (λ z. length z) W) (omega (arith, s, g))) in
        let B = bind-twin t rest rest' (λ vs rest. took (pair v vs) rest) (λ vs us. took-ends (pair v) vs us) (λ vs. took-twin t rest rest' (pair v) vs)
        (read_many f cs n ((ws ++ xs) ++ t ∷ rest)) (read_many f cs m ((ws ++ xs) ++ t ∷ rest')) (A (ws ++ xs) less (omega (arith, s', h))) in
        ap (λ o. bind o (λ v us. bind (read_many f cs m us) (λ vs rest. took (pair v vs) rest))) L'
        ∙ B xs (ap (λ z. rest_of (bind (read_many f cs n z) (λ vs rest. took (pair v vs) rest))) (sym W) ∙ q)
        ∙ ap (λ z. moved (bind (read_many f cs n z) (λ vs rest. took (pair v vs) rest)) (xs ++ t ∷ rest')) (sym W)
    one A (wrong ts) e L xs q = ap (λ o. bind o (λ v us. bind (read_many f cs m us) (λ vs rest. took (pair v vs) rest))) (L xs q)
    one A (deep ts) e L xs q = ap (λ o. bind o (λ v us. bind (read_many f cs m us) (λ vs rest. took (pair v vs) rest))) (L xs q)

    same-way : Again → (b : Bool)
        → Local t rest rest' (cond b (bind (f (us ++ t ∷ rest)) (λ v us. bind (read_many f cs n us) (λ vs rest. took (pair v vs) rest))) (took nothing (us ++ t ∷ rest)))
        (cond b (bind (f (us ++ t ∷ rest')) (λ v us. bind (read_many f cs m us) (λ vs rest. took (pair v vs) rest))) (took nothing (us ++ t ∷ rest')))
    same-way A true = one A (f (us ++ t ∷ rest)) refl (T us)
    same-way A false = stays t rest rest' us (took nothing (us ++ t ∷ rest)) (took nothing (us ++ t ∷ rest')) refl refl

    go : Again → (b c : Bool) → b ≡ c
        → Local t rest rest' (cond b (bind (f (us ++ t ∷ rest)) (λ v us. bind (read_many f cs n us) (λ vs rest. took (pair v vs) rest))) (took nothing (us ++ t ∷ rest)))
        (cond c (bind (f (us ++ t ∷ rest')) (λ v us. bind (read_many f cs m us) (λ vs rest. took (pair v vs) rest))) (took nothing (us ++ t ∷ rest')))
    go A b c e = let P : Bool → Type 0 = λ c. Local t rest rest' (cond b (bind (f (us ++ t ∷ rest)) (λ v us. bind (read_many f cs n us) (λ vs rest. took (pair v vs) rest))) (took nothing (us ++ t ∷ rest)))
        (cond c (bind (f (us ++ t ∷ rest')) (λ v us. bind (read_many f cs m us) (λ vs rest. took (pair v vs) rest))) (took nothing (us ++ t ∷ rest'))) in subst P e (same-way A b)

read-shrinks : (l : Option ℕ) → IsShallow l start → (r : Rule) → is_nullable r ≡ false → Shrinks (read l r)
read-shrinks l h r z ts us v e =
    let P : Outcome → Type 0 = λ o. Tells l r ts o in
    let (ws, q, A) : Tells l r ts (took v us) = subst P e (tells l h r ts) in
    go ws q (opens l r ws v A)
  where
    go : (ws : Toks) → ts ≡ ws ++ us → Opens r ws → length us < length ts
    go [] q O = absurd (false≢true (sym z ∙ O))
    go (w ∷ ws) q O = omega (arith, ap (λ z. length z) q, length-append ws us)

pub read-twin : (l : Option ℕ) → IsShallow l start → (next : List Class) (r : Rule) → is_plain next r ≡ true → (t : Token) (rest rest' : Toks) → Twin t rest rest' (read l r)
read-twin l h next (this c) p t rest rest' = this-twin c t rest rest'
read-twin l h next a_name p t rest rest' = name-twin t rest rest'
read-twin l h next a_size p t rest rest' = size-twin t rest rest'
read-twin l h next a_number p t rest rest' = number-twin t rest rest'
read-twin l h next an_expr p t rest rest' = λ us. walk-local l t rest rest' us start
read-twin l h next (order k a b) p t rest rest' =
    let (pa, pb) = and_parts (is_plain (begins b ++ with_next (is_nullable b) next) a) (is_plain next b) p in
    let A = read-twin l h (begins b ++ with_next (is_nullable b) next) a pa t rest rest' in
    let B = read-twin l h next b pb t rest rest' in
    λ us. bind-twin t rest rest' (λ v us. bind (read l b us) (λ w rest. took (kept k v w) rest))
    (λ v us. bind-ends (read l b us) (λ w rest. took (kept k v w) rest) us (read-ends l h b us) (λ w rest. took-ends (kept k v) w rest))
    (λ v us. bind-twin t rest rest' (λ w rest. took (kept k v w) rest) (λ w us. took-ends (kept k v) w us) (λ w. took-twin t rest rest' (kept k v) w) (read l b (us ++ t ∷ rest)) (read l b (us ++ t ∷ rest')) (B us))
    (read l a (us ++ t ∷ rest)) (read l a (us ++ t ∷ rest')) (A us)
read-twin l h next (silent a) p t rest rest' =
    let A = read-twin l h next a p t rest rest' in
    λ us. bind-twin t rest rest' (λ v us. took nothing us) (λ v us. ([], refl)) (λ v. took-twin t rest rest' (λ v. nothing) v) (read l a (us ++ t ∷ rest)) (read l a (us ++ t ∷ rest')) (A us)
read-twin l h next (either a b) p t rest rest' =
    let (hab, hn) = and_parts (is_plain next a && is_plain next b) (apart (begins a) (begins b) && (not (is_nullable a) && not (is_nullable b))) p in
    let (pa, pb) = and_parts (is_plain next a) (is_plain next b) hab in
    let A = read-twin l h next a pa t rest rest' in
    let B = read-twin l h next b pb t rest rest' in
    λ us. go us (A us) (B us) (starts (begins a) (us ++ t ∷ rest)) (starts (begins a) (us ++ t ∷ rest')) (starts-twin (begins a) t rest rest' us)
  where
    same-way : (us : Toks) → Local t rest rest' (read l a (us ++ t ∷ rest)) (read l a (us ++ t ∷ rest')) → Local t rest rest' (read l b (us ++ t ∷ rest)) (read l b (us ++ t ∷ rest')) → (c : Bool)
        → Local t rest rest' (read_either c (read l a (us ++ t ∷ rest)) (read l b (us ++ t ∷ rest))) (read_either c (read l a (us ++ t ∷ rest')) (read l b (us ++ t ∷ rest')))
    same-way us A B true = bind-twin t rest rest' (λ v ts. took (left v) ts) (λ v us. ([], refl)) (λ v. took-twin t rest rest' left v) (read l a (us ++ t ∷ rest)) (read l a (us ++ t ∷ rest')) A
    same-way us A B false = bind-twin t rest rest' (λ v ts. took (right v) ts) (λ v us. ([], refl)) (λ v. took-twin t rest rest' right v) (read l b (us ++ t ∷ rest)) (read l b (us ++ t ∷ rest')) B

    go : (us : Toks) → Local t rest rest' (read l a (us ++ t ∷ rest)) (read l a (us ++ t ∷ rest')) → Local t rest rest' (read l b (us ++ t ∷ rest)) (read l b (us ++ t ∷ rest')) → (b' c : Bool) → b' ≡ c
        → Local t rest rest' (read_either b' (read l a (us ++ t ∷ rest)) (read l b (us ++ t ∷ rest))) (read_either c (read l a (us ++ t ∷ rest')) (read l b (us ++ t ∷ rest')))
    go us A B b' c e = let P : Bool → Type 0 = λ c. Local t rest rest' (read_either b' (read l a (us ++ t ∷ rest)) (read l b (us ++ t ∷ rest))) (read_either c (read l a (us ++ t ∷ rest')) (read l b (us ++ t ∷ rest'))) in
        subst P e (same-way us A B b')
read-twin l h next (maybe a) p t rest rest' =
    let (pa, hn) = and_parts (is_plain next a) (apart (begins a) next && not (is_nullable a)) p in
    let A = read-twin l h next a pa t rest rest' in
    λ us. go us (A us) (starts (begins a) (us ++ t ∷ rest)) (starts (begins a) (us ++ t ∷ rest')) (starts-twin (begins a) t rest rest' us)
  where
    same-way : (us : Toks) → Local t rest rest' (read l a (us ++ t ∷ rest)) (read l a (us ++ t ∷ rest')) → (c : Bool)
        → Local t rest rest' (read_maybe c (read l a (us ++ t ∷ rest)) (us ++ t ∷ rest)) (read_maybe c (read l a (us ++ t ∷ rest')) (us ++ t ∷ rest'))
    same-way us A true = bind-twin t rest rest' (λ v us. took (present v) us) (λ v us. ([], refl)) (λ v. took-twin t rest rest' present v) (read l a (us ++ t ∷ rest)) (read l a (us ++ t ∷ rest')) A
    same-way us A false = stays t rest rest' us (took nothing (us ++ t ∷ rest)) (took nothing (us ++ t ∷ rest')) refl refl

    go : (us : Toks) → Local t rest rest' (read l a (us ++ t ∷ rest)) (read l a (us ++ t ∷ rest')) → (b c : Bool) → b ≡ c
        → Local t rest rest' (read_maybe b (read l a (us ++ t ∷ rest)) (us ++ t ∷ rest)) (read_maybe c (read l a (us ++ t ∷ rest')) (us ++ t ∷ rest'))
    go us A b c e = let P : Bool → Type 0 = λ c. Local t rest rest' (read_maybe b (read l a (us ++ t ∷ rest)) (us ++ t ∷ rest)) (read_maybe c (read l a (us ++ t ∷ rest')) (us ++ t ∷ rest')) in subst P e (same-way us A b)
read-twin l h next (many a) p t rest rest' =
    let (pa, hn) = and_parts (is_plain (begins a ++ next) a) (apart (begins a) next && not (is_nullable a)) p in
    let (hp, hz) = and_parts (apart (begins a) next) (not (is_nullable a)) hn in
    let A = read-twin l h (begins a ++ next) a pa t rest rest' in
    λ us. many-twin (read l a) (λ us. read-ends l h a us) (read-shrinks l h a (not-true (is_nullable a) hz)) (begins a) t rest rest' A
    (suc (length (us ++ t ∷ rest))) (suc (length (us ++ t ∷ rest'))) us (omega arith) (omega arith)

-- ---- without the limit

bind-same : (f g : Parsed → Toks → Outcome) → ((v : Parsed) (ts : Toks) → Same (f v ts) (g v ts)) → (o p : Outcome) → Same o p → Same (bind o f) (bind p g)
bind-same f g F (took v ts) p q = let P : Outcome → Type 0 = λ p. Same (f v ts) (bind p g) in subst P (sym q) (F v ts)
bind-same f g F (wrong ts) p q = ap (λ o. bind o g) q
bind-same f g F (deep ts) p q = tt

many-same : (f g : Toks → Outcome) → ((us : Toks) → Same (f us) (g us)) → (cs : List Class) (n : ℕ) (ts : Toks) → Same (read_many f cs n ts) (read_many g cs n ts)
many-same f g F cs zero ts = refl
many-same f g F cs (suc n) ts = go (λ us. many-same f g F cs n us) (starts cs ts)
  where
    go : ((us : Toks) → Same (read_many f cs n us) (read_many g cs n us)) → (b : Bool)
        → Same (cond b (bind (f ts) (λ v us. bind (read_many f cs n us) (λ vs rest. took (pair v vs) rest))) (took nothing ts)) (cond b (bind (g ts) (λ v us. bind (read_many g cs n us) (λ vs rest. took (pair v vs) rest))) (took nothing ts))
    go M true = bind-same (λ v us. bind (read_many f cs n us) (λ vs rest. took (pair v vs) rest)) (λ v us. bind (read_many g cs n us) (λ vs rest. took (pair v vs) rest))
        (λ v us. bind-same (λ vs rest. took (pair v vs) rest) (λ vs rest. took (pair v vs) rest) (λ vs rest. refl) (read_many f cs n us) (read_many g cs n us) (M us)) (f ts) (g ts) (F ts)
    go M false = refl

pub read-same : (l : Option ℕ) (r : Rule) (ts : Toks) → Same (read l r ts) (read None r ts)
read-same l (this c) ts = same-self (read_this c ts)
read-same l a_name ts = same-self (read_name ts)
read-same l a_size ts = same-self (read_size ts)
read-same l a_number ts = same-self (read_number ts)
read-same l an_expr ts = walk-same l start ts
read-same l (order k a b) ts = bind-same (λ v us. bind (read l b us) (λ w rest. took (kept k v w) rest)) (λ v us. bind (read None b us) (λ w rest. took (kept k v w) rest))
    (λ v us. bind-same (λ w rest. took (kept k v w) rest) (λ w rest. took (kept k v w) rest) (λ w rest. refl) (read l b us) (read None b us) (read-same l b us)) (read l a ts) (read None a ts) (read-same l a ts)
read-same l (silent a) ts = bind-same (λ v us. took nothing us) (λ v us. took nothing us) (λ v us. refl) (read l a ts) (read None a ts) (read-same l a ts)
read-same l (either a b) ts = go (read-same l a ts) (read-same l b ts) (starts (begins a) ts)
  where
    go : Same (read l a ts) (read None a ts) → Same (read l b ts) (read None b ts) → (c : Bool) → Same (read_either c (read l a ts) (read l b ts)) (read_either c (read None a ts) (read None b ts))
    go A B true = bind-same (λ v us. took (left v) us) (λ v us. took (left v) us) (λ v us. refl) (read l a ts) (read None a ts) A
    go A B false = bind-same (λ v us. took (right v) us) (λ v us. took (right v) us) (λ v us. refl) (read l b ts) (read None b ts) B
read-same l (maybe a) ts = go (read-same l a ts) (starts (begins a) ts)
  where
    go : Same (read l a ts) (read None a ts) → (c : Bool) → Same (read_maybe c (read l a ts) ts) (read_maybe c (read None a ts) ts)
    go A true = bind-same (λ v us. took (present v) us) (λ v us. took (present v) us) (λ v us. refl) (read l a ts) (read None a ts) A
    go A false = refl
read-same l (many a) ts = many-same (read l a) (read None a) (λ us. read-same l a us) (begins a) (suc (length ts)) ts

-- ---- the whole text

pub one-statement : (l : Option ℕ) (ts : Toks) (v : Parsed) → IsStatement l ts v → whole l ts ≡ took v []
one-statement l ts v h = ap (λ z. bind (read l statement z) at_end) (sym (append-nil ts)) ∙ ap (λ o. bind o at_end) (reads l [] statement statement-plain ts v [] h tt)

abbrev pub IsDone : Outcome → Type 0
IsDone (took v []) = Unit {0}
IsDone (took v (t ∷ ts)) = ⊥
IsDone (wrong ts) = ⊥
IsDone (deep ts) = ⊥

done-as : (v : Parsed) (o : Outcome) → took v [] ≡ o → IsDone o
done-as v o q = let P : Outcome → Type 0 = λ o. IsDone o in subst P q tt

-- a text that was read up to t, and not through it, is no statement however it goes on behind t
not-begun : (l : Option ℕ) → IsShallow l start → (us : Toks) (t : Token) (rest : Toks) (o : Outcome) → read l statement (us ++ t ∷ rest) ≡ o → rest_of o ≡ t ∷ rest → Viable l (us ++ t ∷ []) → ⊥
not-begun l h us t rest o e q (more, v, A) =
    clash o (sym (reads l [] statement statement-plain (us ++ t ∷ [] ++ more) v [] A tt) ∙ ap (λ z. read l statement z) (append-nil (us ++ t ∷ [] ++ more) ∙ append_assoc us (t ∷ []) more)
    ∙ read-twin l h [] statement statement-plain t rest more us [] (ap (λ o. rest_of o) e ∙ q) ∙ ap (λ o. moved o (t ∷ more)) e)
  where
    clash : (o : Outcome) → took v [] ≡ moved o (t ∷ more) → ⊥
    clash (took w ts) q = done-as v (took w (t ∷ more)) q
    clash (wrong ts) q = done-as v (wrong (t ∷ more)) q
    clash (deep ts) q = done-as v (deep (t ∷ more)) q

spelled-as : (l : Option ℕ) (ts us : Toks) (v : Parsed) → ts ≡ us → IsStatement l ts v → IsStatement l us v
spelled-as l ts us v q h = let P : Toks → Type 0 = λ z. IsStatement l z v in subst P q h

read-at : (l : Option ℕ) (ts us : Toks) (o : Outcome) → ts ≡ us → read l statement ts ≡ o → read l statement us ≡ o
read-at l ts us o q e = ap (λ z. read l statement z) (sym q) ∙ e

verdict-of : (l : Option ℕ) → IsShallow l start → (ts : Toks) (o : Outcome) → read l statement ts ≡ o → Tells l statement ts o → Same o (read None statement ts) → IsVerdict l ts (bind o at_end)
verdict-of l h ts (took v []) e (us, q, A) s = spelled-as l us ts v (sym (append-nil us) ∙ sym q) A
verdict-of l h ts (took v (t ∷ rest)) e (us, q, A) s = record {
  front = us;
  cut = q;
  viable = ([], v, spelled-as l us (us ++ []) v (sym (append-nil us)) A);
  is = not-begun None tt us t rest (took v (t ∷ rest)) (read-at None ts (us ++ t ∷ rest) (took v (t ∷ rest)) q s) refl;
}
verdict-of l h ts (wrong []) e (us, q, A) s = record {
  front = us;
  cut = q;
  viable = A;
  is = λ v B. done-as v (wrong []) (sym (reads None [] statement statement-plain us v [] B tt) ∙ read-at None ts (us ++ []) (wrong []) q s);
}
verdict-of l h ts (wrong (t ∷ rest)) e (us, q, A) s = record {
  front = us;
  cut = q;
  viable = A;
  is = not-begun None tt us t rest (wrong (t ∷ rest)) (read-at None ts (us ++ t ∷ rest) (wrong (t ∷ rest)) q s) refl;
}
verdict-of l h ts (deep rest) e (us, t, more, p, q, A, B) s =
    let P : Toks → Type 0 = λ z. Fault l ts z (IsDeepAt l) in
    subst P (sym p) (record {
      front = us;
      cut = q;
      viable = A;
      is = (B, not-begun l h us t more (deep rest) (read-at l ts (us ++ t ∷ more) (deep rest) q e) p);
    })

pub verdict : (l : Option ℕ) → IsShallow l start → (ts : Toks) → IsVerdict l ts (whole l ts)
verdict l h ts = verdict-of l h ts (read l statement ts) refl (tells l h statement ts) (read-same l statement ts)

pub took-value : (v w : Parsed) → took v [] ≡ took w [] → v ≡ w
took-value v w q = let P : Outcome → Type 0 = λ o. elim o [ took u ts ↦ v ≡ u | wrong ts ↦ ⊥ | deep ts ↦ ⊥ ] in subst P q refl

-- What is spelled is read, where one look is enough; and what was not looked at makes no difference.
use Rattle.std.proofs.Common.{◌≡◌, ◌<◌, ℕ, zero, suc, List, [], ◌∷◌, ◌++◌, Bool, true, false, Option, refl, sym, ap, subst, ◌∙◌, append_assoc, arith, nat_le, not, ◌&&◌, ◌||◌, cond, length, length-append, inl, inr}
use Rattle.std.proofs.lemmas.Bool.{le-leb, and_parts, and_from, false≢true, not-true, or_cases}
use Rattle.sql_grammar.specs.Syntax.{Token, number, name}
use Rattle.sql_grammar.specs.Rules.{Rule, this, a_name, a_size, a_number, an_expr, order, silent, either, maybe, many, Keeping, kept, Parsed, nothing, named, counted, tree, pair, left, right, present, class_of, Many, Spelled}
use Rattle.sql_grammar.specs.Classes.{Class, same, has, apart}
use Rattle.sql_grammar.specs.Reading.{took, wrong, bind, starts, begins, is_nullable, with_next, stops, all_stop, is_plain, read_this, read_either, read_maybe, read_many, read}
use Rattle.sql_grammar.proofs.Classes.{same-one, same-self, has-here, has-left, has-right, apart-not}
use Rattle.sql_grammar.proofs.Sound.{Toks}
use Rattle.sql_grammar.proofs.Walking.{Stopped, expr-reads, expr-begins, BeginsExpr, name-begins}

-- ---- what a rule spells begins with one of its classes, or is nothing

abbrev pub Opens : Rule → Toks → Type 0
Opens r [] = is_nullable r ≡ true
Opens r (t ∷ ts) = has (class_of t) (begins r) ≡ true

opens-as : (r : Rule) (ts us : Toks) → ts ≡ us → Opens r us → Opens r ts
opens-as r ts us q h = let P : Toks → Type 0 = λ z. Opens r z in subst P (sym q) h

expr-opens : (ts : Toks) → BeginsExpr ts → Opens an_expr ts
expr-opens [] h = absurd h
expr-opens (t ∷ ts) h = h

order-opens : (k : Keeping) (a b : Rule) (us ws : Toks) → Opens a us → Opens b ws → Opens (order k a b) (us ++ ws)
order-opens k a b [] [] h g = and_from (is_nullable a) (is_nullable b) h g
order-opens k a b [] (t ∷ ws) h g =
    has-right (class_of t) (begins a) (with_next (is_nullable a) (begins b)) (let P : Bool → Type 0 = λ n. has (class_of t) (with_next n (begins b)) ≡ true in subst P (sym h) g)
order-opens k a b (t ∷ us) ws h g = has-left (class_of t) (begins a) (with_next (is_nullable a) (begins b)) h

many-opens : (l : Option ℕ) (a : Rule) → ((us : Toks) (x : Parsed) → Spelled l a us x → Opens a us) → (ts : Toks) (v : Parsed) → Many (λ us x. Spelled l a us x) ts v → Opens (many a) ts
many-opens l a f ts nothing h = opens-as (many a) ts [] h refl
many-opens l a f ts (pair x xs) (us, ws, A, B, q) = opens-as (many a) ts (us ++ ws) q (go us (f us x A) ws (many-opens l a f ws xs B))
  where
    go : (us : Toks) → Opens a us → (ws : Toks) → Opens (many a) ws → Opens (many a) (us ++ ws)
    go [] h ws g = g
    go (t ∷ us) h ws g = h
many-opens l a f ts (named n) h = absurd h
many-opens l a f ts (counted n) h = absurd h
many-opens l a f ts (tree n) h = absurd h
many-opens l a f ts (left n) h = absurd h
many-opens l a f ts (right n) h = absurd h
many-opens l a f ts (present n) h = absurd h

pub opens : (l : Option ℕ) (r : Rule) (ts : Toks) (v : Parsed) → Spelled l r ts v → Opens r ts
opens l (this c) ts v (t, q, p, w) = opens-as (this c) ts (t ∷ []) p (let P : Class → Type 0 = λ d. has (class_of t) (d ∷ []) ≡ true in subst P q (has-here (class_of t) []))
opens l a_name ts v (w, n, q, p) = opens-as a_name ts (name w n ∷ []) q (name-begins w)
opens l a_size ts v (n, x, y, q, p) = opens-as a_size ts (number n ∷ []) q refl
opens l a_number ts v (n, q, p) = opens-as a_number ts (number n ∷ []) q refl
opens l an_expr ts v (e, d, w, q) = expr-opens ts (expr-begins ts e d)
opens l (order k a b) ts v (us, ws, x, y, A, B, q, p) = opens-as (order k a b) ts (us ++ ws) q (order-opens k a b us ws (opens l a us x A) (opens l b ws y B))
opens l (silent a) ts v (x, A, q) = go ts (opens l a ts x A)
  where
    go : (ts : Toks) → Opens a ts → Opens (silent a) ts
    go [] h = h
    go (t ∷ ts) h = h
opens l (either a b) ts v (inl (x, A, q)) = go ts (opens l a ts x A)
  where
    go : (ts : Toks) → Opens a ts → Opens (either a b) ts
    go [] h = ap (λ n. n || is_nullable b) h
    go (t ∷ ts) h = has-left (class_of t) (begins a) (begins b) h
opens l (either a b) ts v (inr (x, B, q)) = go ts (opens l b ts x B)
  where
    or-true : (n : Bool) → (n || true) ≡ true
    or-true true = refl
    or-true false = refl

    go : (ts : Toks) → Opens b ts → Opens (either a b) ts
    go [] h = ap (λ n. is_nullable a || n) h ∙ or-true (is_nullable a)
    go (t ∷ ts) h = has-right (class_of t) (begins a) (begins b) h
opens l (maybe a) ts v (inl (q, p)) = opens-as (maybe a) ts [] q refl
opens l (maybe a) ts v (inr (x, A, q)) = go ts (opens l a ts x A)
  where
    go : (ts : Toks) → Opens a ts → Opens (maybe a) ts
    go [] h = refl
    go (t ∷ ts) h = h
opens l (many a) ts v h = many-opens l a (λ us x A. opens l a us x A) ts v h

-- ---- what may follow

abbrev pub Follows : List Class → Toks → Type 0
Follows cs [] = Unit {0}
Follows cs (t ∷ ts) = has (class_of t) cs ≡ true

follow-seam : (b : Rule) (next : List Class) (ws rest : Toks) → Opens b ws → Follows next rest → Follows (begins b ++ with_next (is_nullable b) next) (ws ++ rest)
follow-seam b next [] [] h g = tt
follow-seam b next [] (t ∷ rest) h g =
    has-right (class_of t) (begins b) (with_next (is_nullable b) next) (let P : Bool → Type 0 = λ n. has (class_of t) (with_next n next) ≡ true in subst P (sym h) g)
follow-seam b next (t ∷ ws) rest h g = has-left (class_of t) (begins b) (with_next (is_nullable b) next) h

follow-many : (a : Rule) (next : List Class) (ws rest : Toks) → Opens (many a) ws → Follows next rest → Follows (begins a ++ next) (ws ++ rest)
follow-many a next [] [] h g = tt
follow-many a next [] (t ∷ rest) h g = has-right (class_of t) (begins a) next g
follow-many a next (t ∷ ws) rest h g = has-left (class_of t) (begins a) next h

stops-all : (c : Class) (cs : List Class) → all_stop cs ≡ true → has c cs ≡ true → stops c ≡ true
stops-all c [] h g = absurd (false≢true g)
stops-all c (d ∷ ds) h g =
    let (x, y) = and_parts (stops d) (all_stop ds) h in
    elim (or_cases (same c d) (has c ds) g) [ inl p ↦ (let P : Class → Type 0 = λ e. stops e ≡ true in subst P (sym (one c d p)) x) | inr p ↦ stops-all c ds y p ]
  where
    one : (c d : Class) → same c d ≡ true → c ≡ d
    one c d p = same-one c d p

follow-stops : (next : List Class) (rest : Toks) → all_stop next ≡ true → Follows next rest → Stopped rest
follow-stops next [] h g = tt
follow-stops next (t ∷ rest) h g = stops-all (class_of t) next h g

-- ---- where a rule starts

starts-opens : (a : Rule) (us rest : Toks) → is_nullable a ≡ false → Opens a us → starts (begins a) (us ++ rest) ≡ true
starts-opens a [] rest n h = absurd (false≢true (sym n ∙ h))
starts-opens a (t ∷ us) rest n h = h

starts-other : (a b : Rule) (us rest : Toks) → apart (begins a) (begins b) ≡ true → is_nullable b ≡ false → Opens b us → starts (begins a) (us ++ rest) ≡ false
starts-other a b [] rest p n h = absurd (false≢true (sym n ∙ h))
starts-other a b (t ∷ us) rest p n h = go (has (class_of t) (begins a)) refl
  where
    go : (c : Bool) → has (class_of t) (begins a) ≡ c → c ≡ false
    go false q = refl
    go true q = absurd (false≢true (sym (apart-not (class_of t) (begins a) (begins b) p q) ∙ h))

starts-not : (a : Rule) (next : List Class) (rest : Toks) → apart (begins a) next ≡ true → Follows next rest → starts (begins a) rest ≡ false
starts-not a next [] p h = refl
starts-not a next (t ∷ rest) p h = go (has (class_of t) (begins a)) refl
  where
    go : (c : Bool) → has (class_of t) (begins a) ≡ c → c ≡ false
    go false q = refl
    go true q = absurd (false≢true (sym (apart-not (class_of t) (begins a) next p q) ∙ h))

-- ---- what is spelled is read

abbrev Reads : Option ℕ → List Class → Rule → Type 0
Reads l next r = (us : Toks) (v : Parsed) (rest : Toks) → Spelled l r us v → Follows next rest → read l r (us ++ rest) ≡ took v rest

by-front : (l : Option ℕ) (r : Rule) (ts us rest : Toks) → ts ≡ us → read l r (ts ++ rest) ≡ read l r (us ++ rest)
by-front l r ts us rest q = ap (λ z. read l r (z ++ rest)) q

this-reads : (l : Option ℕ) (c : Class) (t : Token) (rest : Toks) → class_of t ≡ c → read_this c (t ∷ rest) ≡ took nothing rest
this-reads l c t rest q = ap (λ b. cond b (took nothing rest) (wrong (t ∷ rest))) (let P : Class → Type 0 = λ d. same (class_of t) d ≡ true in subst P q (same-self (class_of t)))

longer-by : (us ws : Toks) (a : Rule) (m : ℕ) → is_nullable a ≡ false → Opens a us → length (us ++ ws) < suc m → length ws < m
longer-by [] ws a m n h g = absurd (false≢true (sym n ∙ h))
longer-by (t ∷ us) ws a m n h g = omega (arith, g, length-append us ws)

many-reads : (l : Option ℕ) (next : List Class) (a : Rule) → Reads l (begins a ++ next) a → is_nullable a ≡ false → apart (begins a) next ≡ true
    → (n : ℕ) (ts : Toks) (v : Parsed) (rest : Toks) → length ts < n → Many (λ us x. Spelled l a us x) ts v → Follows next rest
    → read_many (read l a) (begins a) n (ts ++ rest) ≡ took v rest
many-reads l next a R z p zero ts v rest g h f = absurd (omega (arith, g))
many-reads l next a R z p (suc n) ts nothing rest g h f =
    ap (λ y. read_many (read l a) (begins a) (suc n) (y ++ rest)) h
    ∙ ap (λ b. cond b (bind (read l a rest) (λ v us. bind (read_many (read l a) (begins a) n us) (λ vs rest. took (pair v vs) rest))) (took nothing rest)) (starts-not a next rest p f)
many-reads l next a R z p (suc n) ts (pair x xs) rest g (us, ws, A, B, q) f =
    let O = opens l a us x A in
    ap (λ y. read_many (read l a) (begins a) (suc n) (y ++ rest)) q
    ∙ ap (λ y. read_many (read l a) (begins a) (suc n) y) (append_assoc us ws rest)
    ∙ ap (λ b. cond b (bind (read l a (us ++ (ws ++ rest))) (λ v us. bind (read_many (read l a) (begins a) n us) (λ vs rest. took (pair v vs) rest))) (took nothing (us ++ (ws ++ rest))))
    (starts-opens a us (ws ++ rest) z O)
    ∙ ap (λ o. bind o (λ v us. bind (read_many (read l a) (begins a) n us) (λ vs rest. took (pair v vs) rest)))
    (R us x (ws ++ rest) A (follow-many a next ws rest (many-opens l a (λ us x A. opens l a us x A) ws xs B) f))
    ∙ ap (λ o. bind o (λ vs rest. took (pair x vs) rest))
    (many-reads l next a R z p n ws xs rest (longer-by us ws a n z O (let P : ℕ → Type 0 = λ k. k < suc n in subst P (ap (λ y. length y) q) g)) B f)
many-reads l next a R z p (suc n) ts (named k) rest g h f = absurd h
many-reads l next a R z p (suc n) ts (counted k) rest g h f = absurd h
many-reads l next a R z p (suc n) ts (tree k) rest g h f = absurd h
many-reads l next a R z p (suc n) ts (left k) rest g h f = absurd h
many-reads l next a R z p (suc n) ts (right k) rest g h f = absurd h
many-reads l next a R z p (suc n) ts (present k) rest g h f = absurd h

pub reads : (l : Option ℕ) (next : List Class) (r : Rule) → is_plain next r ≡ true → Reads l next r
reads l next (this c) h us v rest (t, q, p, w) f =
    by-front l (this c) us (t ∷ []) rest p ∙ this-reads l c t rest q ∙ ap (λ v. took v rest) (sym w)
reads l next a_name h us v rest (w, n, q, p) f = by-front l a_name us (name w n ∷ []) rest q ∙ ap (λ v. took v rest) (sym p)
reads l next a_size h us v rest (n, x, y, q, p) f =
    by-front l a_size us (number n ∷ []) rest q
    ∙ ap (λ b. cond b (took (counted n) rest) (wrong (number n ∷ rest))) (and_from (nat_le 1 n) (nat_le n 1000) (le-leb 1 n x) (le-leb n 1000 y)) ∙ ap (λ v. took v rest) (sym p)
reads l next a_number h us v rest (n, q, p) f = by-front l a_number us (number n ∷ []) rest q ∙ ap (λ v. took v rest) (sym p)
reads l next an_expr h us v rest (e, d, w, q) f = expr-reads l us rest e d w (follow-stops next rest h f) ∙ ap (λ v. took v rest) (sym q)
reads l next (order k a b) h us v rest (us1, ws, x, y, A, B, q, p) f =
    let (ha, hb) = and_parts (is_plain (begins b ++ with_next (is_nullable b) next) a) (is_plain next b) h in
    by-front l (order k a b) us (us1 ++ ws) rest q
    ∙ ap (λ z. read l (order k a b) z) (append_assoc us1 ws rest)
    ∙ ap (λ o. bind o (λ v us. bind (read l b us) (λ w rest. took (kept k v w) rest)))
    (reads l (begins b ++ with_next (is_nullable b) next) a ha us1 x (ws ++ rest) A (follow-seam b next ws rest (opens l b ws y B) f))
    ∙ ap (λ o. bind o (λ w rest. took (kept k x w) rest)) (reads l next b hb ws y rest B f)
    ∙ ap (λ v. took v rest) (sym p)
reads l next (silent a) h us v rest (x, A, q) f = ap (λ o. bind o (λ v us. took nothing us)) (reads l next a h us x rest A f) ∙ ap (λ v. took v rest) (sym q)
reads l next (either a b) h us v rest (inl (x, A, q)) f =
    let (hab, hn) = and_parts (is_plain next a && is_plain next b) (apart (begins a) (begins b) && (not (is_nullable a) && not (is_nullable b))) h in
    let (ha, hb) = and_parts (is_plain next a) (is_plain next b) hab in
    let (hp, hz) = and_parts (apart (begins a) (begins b)) (not (is_nullable a) && not (is_nullable b)) hn in
    let (za, zb) = and_parts (not (is_nullable a)) (not (is_nullable b)) hz in
    ap (λ c. read_either c (read l a (us ++ rest)) (read l b (us ++ rest))) (starts-opens a us rest (not-true (is_nullable a) za) (opens l a us x A))
    ∙ ap (λ o. bind o (λ v ts. took (left v) ts)) (reads l next a ha us x rest A f) ∙ ap (λ v. took v rest) (sym q)
reads l next (either a b) h us v rest (inr (x, B, q)) f =
    let (hab, hn) = and_parts (is_plain next a && is_plain next b) (apart (begins a) (begins b) && (not (is_nullable a) && not (is_nullable b))) h in
    let (ha, hb) = and_parts (is_plain next a) (is_plain next b) hab in
    let (hp, hz) = and_parts (apart (begins a) (begins b)) (not (is_nullable a) && not (is_nullable b)) hn in
    let (za, zb) = and_parts (not (is_nullable a)) (not (is_nullable b)) hz in
    ap (λ c. read_either c (read l a (us ++ rest)) (read l b (us ++ rest))) (starts-other a b us rest hp (not-true (is_nullable b) zb) (opens l b us x B))
    ∙ ap (λ o. bind o (λ v ts. took (right v) ts)) (reads l next b hb us x rest B f) ∙ ap (λ v. took v rest) (sym q)
reads l next (maybe a) h us v rest (inl (q, p)) f =
    let (ha, hn) = and_parts (is_plain next a) (apart (begins a) next && not (is_nullable a)) h in
    let (hp, hz) = and_parts (apart (begins a) next) (not (is_nullable a)) hn in
    by-front l (maybe a) us [] rest q
    ∙ ap (λ c. read_maybe c (read l a rest) rest) (starts-not a next rest hp f) ∙ ap (λ v. took v rest) (sym p)
reads l next (maybe a) h us v rest (inr (x, A, q)) f =
    let (ha, hn) = and_parts (is_plain next a) (apart (begins a) next && not (is_nullable a)) h in
    let (hp, hz) = and_parts (apart (begins a) next) (not (is_nullable a)) hn in
    ap (λ c. read_maybe c (read l a (us ++ rest)) (us ++ rest)) (starts-opens a us rest (not-true (is_nullable a) hz) (opens l a us x A))
    ∙ ap (λ o. bind o (λ v us. took (present v) us)) (reads l next a ha us x rest A f) ∙ ap (λ v. took v rest) (sym q)
reads l next (many a) h us v rest M f =
    let (ha, hn) = and_parts (is_plain (begins a ++ next) a) (apart (begins a) next && not (is_nullable a)) h in
    let (hp, hz) = and_parts (apart (begins a) next) (not (is_nullable a)) hn in
    many-reads l next a (reads l (begins a ++ next) a ha) (not-true (is_nullable a) hz) hp (suc (length (us ++ rest))) us v rest (omega (arith, length-append us rest)) M f

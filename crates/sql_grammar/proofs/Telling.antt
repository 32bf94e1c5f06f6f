-- What is read by a rule is spelled so, and what is read up to a wrong token can go on.
use Rattle.std.proofs.Common.{◌≡◌, ℕ, zero, suc, List, [], ◌∷◌, ◌++◌, Bool, true, false, Option, Some, None, refl, sym, ap, subst, ◌∙◌, append_assoc, arith, nat_le, ◌&&◌, cond, length, inl, inr}
use Rattle.std.proofs.lemmas.Bool.{leb-true, and_parts}
use Rattle.sql_grammar.specs.Syntax.{Sum, plus, minus, Product, times, over, Comparison, Aggregate, count, Tree, Token, or, and, is, null, between, in_, dot, open_, close, comma, huge, bad, compare, sum, product, call, number, text, truth, key, name, Spells, expr, Text, expr-one, conj-one, neg-one, pred-one, sum-one, term-one, factor-signed, signed-primary, primary-text}
use Rattle.sql_grammar.specs.Syntax as s
use Rattle.sql_grammar.specs.Machine.{start}
use Rattle.sql_grammar.specs.Rules.{Rule, this, a_name, a_size, a_number, an_expr, order, silent, either, maybe, many, kept, Parsed, nothing, named, counted, tree, pair, left, right, present, class_of, IsWithin, Many, Spelled, Begun}
use Rattle.sql_grammar.specs.Classes.{Class, same}
use Rattle.sql_grammar.specs.declared.word.Class.TheVariants as class
use Rattle.sql_grammar.specs.declared.word.Word.TheVariants as word
use Rattle.sql_ast.specs.declared.expression.Comparison.TheVariants.{Equal, Less}
use Rattle.sql_grammar.specs.Reading.{Outcome, took, wrong, deep, bind, walk, starts, begins, read_this, read_name, read_number, read_size, read_either, read_maybe, read_many, read}
use Rattle.sql_grammar.proofs.Classes.{same-one}
use Rattle.sql_grammar.proofs.Sound.{Toks}
use Rattle.sql_grammar.proofs.Walking.{IsShallow, CanBe, expr-told}
use Rattle.sql_grammar.proofs.Walking as walking

-- ---- each rule spells something

a-token : (c : Class) → (t : Token) × (class_of t ≡ c)
a-token class.Or = (or, refl)
a-token class.And = (and, refl)
a-token class.Not = (s.not, refl)
a-token class.Is = (is, refl)
a-token class.Null = (null, refl)
a-token class.Between = (between, refl)
a-token class.In = (in_, refl)
a-token class.Dot = (dot, refl)
a-token class.Open = (open_, refl)
a-token class.Close = (close, refl)
a-token class.Comma = (comma, refl)
a-token class.Equal = (compare Equal, refl)
a-token class.Compare = (compare Less, refl)
a-token class.Plus = (sum plus, refl)
a-token class.Minus = (sum minus, refl)
a-token class.Star = (product times, refl)
a-token class.Slash = (product over, refl)
a-token class.Call = (call count, refl)
a-token class.Number = (number 0, refl)
a-token class.Huge = (huge, refl)
a-token class.Text = (text [], refl)
a-token class.Truth = (truth true, refl)
a-token class.Bad = (bad, refl)
a-token (class.Key k) = (key k, refl)
a-token (class.Name w) = (name w [], refl)

text-within : (l : Option ℕ) → IsShallow l start → IsWithin l (Text [])
text-within None h = tt
text-within (Some n) h = h

text-spelled : Spells expr (text [] ∷ []) (Text [])
text-spelled = expr-one _ _ (conj-one _ _ (neg-one _ _ (pred-one _ _ (sum-one _ _ (term-one _ _ (factor-signed _ _ (signed-primary _ _ (primary-text []))))))))

an-example : (l : Option ℕ) → IsShallow l start → (r : Rule) → (ts : Toks) × (v : Parsed) × Spelled l r ts v
an-example l h (this c) = let (t, q) = a-token c in (t ∷ [], nothing, (t, q, refl, refl))
an-example l h a_name = (name word.Plain [] ∷ [], named [], (word.Plain, [], refl, refl))
an-example l h a_size = (number 1 ∷ [], counted 1, (1, omega arith, omega arith, refl, refl))
an-example l h a_number = (number 0 ∷ [], counted 0, (0, refl, refl))
an-example l h an_expr = (text [] ∷ [], tree (Text []), (Text [], text-spelled, text-within l h, refl))
an-example l h (order k a b) =
    let (us, x, A) = an-example l h a in
    let (ws, y, B) = an-example l h b in
    (us ++ ws, kept k x y, (us, ws, x, y, A, B, refl, refl))
an-example l h (silent a) = let (us, x, A) = an-example l h a in (us, nothing, (x, A, refl))
an-example l h (either a b) = let (us, x, A) = an-example l h a in (us, left x, inl (x, A, refl))
an-example l h (maybe a) = ([], nothing, inl (refl, refl))
an-example l h (many a) = ([], nothing, refl)

-- ---- without the limit

many-map : (P Q : Toks → Parsed → Type 0) → ((us : Toks) (x : Parsed) → P us x → Q us x) → (ts : Toks) (v : Parsed) → Many P ts v → Many Q ts v
many-map P Q f ts nothing h = h
many-map P Q f ts (pair x xs) (us, ws, A, B, q) = (us, ws, f us x A, many-map P Q f ws xs B, q)
many-map P Q f ts (named n) h = h
many-map P Q f ts (counted n) h = h
many-map P Q f ts (tree n) h = h
many-map P Q f ts (left n) h = h
many-map P Q f ts (right n) h = h
many-map P Q f ts (present n) h = h

pub loosen : (l : Option ℕ) (r : Rule) (ts : Toks) (v : Parsed) → Spelled l r ts v → Spelled None r ts v
loosen l (this c) ts v h = h
loosen l a_name ts v h = h
loosen l a_size ts v h = h
loosen l a_number ts v h = h
loosen l an_expr ts v (e, d, w, q) = (e, d, tt, q)
loosen l (order k a b) ts v (us, ws, x, y, A, B, q, p) = (us, ws, x, y, loosen l a us x A, loosen l b ws y B, q, p)
loosen l (silent a) ts v (x, A, q) = (x, loosen l a ts x A, q)
loosen l (either a b) ts v (inl (x, A, q)) = inl (x, loosen l a ts x A, q)
loosen l (either a b) ts v (inr (x, A, q)) = inr (x, loosen l b ts x A, q)
loosen l (maybe a) ts v (inl h) = inl h
loosen l (maybe a) ts v (inr (x, A, q)) = inr (x, loosen l a ts x A, q)
loosen l (many a) ts v h = many-map (λ us x. Spelled l a us x) (λ us x. Spelled None a us x) (λ us x A. loosen l a us x A) ts v h

-- ---- what a reading tells

abbrev pub Tells : Option ℕ → Rule → Toks → Outcome → Type 0
Tells l r ts (took v rest) = (us : Toks) × (ts ≡ us ++ rest) × Spelled l r us v
Tells l r ts (wrong rest) = (us : Toks) × (ts ≡ us ++ rest) × Begun l r us
Tells l r ts (deep rest) = (us : Toks) × (t : Token) × (more : Toks) × (rest ≡ t ∷ more) × (ts ≡ us ++ t ∷ more) × Begun l r us × Begun None r (us ++ t ∷ [])

spelled-as : (l : Option ℕ) (r : Rule) (ts us : Toks) (v : Parsed) → ts ≡ us → Spelled l r ts v → Spelled l r us v
spelled-as l r ts us v q h = let P : Toks → Type 0 = λ z. Spelled l r z v in subst P q h

begun-nothing : (l : Option ℕ) → IsShallow l start → (r : Rule) → Begun l r []
begun-nothing l h r = let (us, v, A) = an-example l h r in (us, v, A)

this-tells : (l : Option ℕ) → IsShallow l start → (c : Class) (ts : Toks) → Tells l (this c) ts (read_this c ts)
this-tells l h c [] = ([], refl, begun-nothing l h (this c))
this-tells l h c (t ∷ ts) = go (same (class_of t) c) refl
  where
    go : (b : Bool) → same (class_of t) c ≡ b → Tells l (this c) (t ∷ ts) (cond b (took nothing ts) (wrong (t ∷ ts)))
    go true q = (t ∷ [], refl, (t, same-one (class_of t) c q, refl, refl))
    go false q = ([], refl, begun-nothing l h (this c))

name-tells : (l : Option ℕ) → IsShallow l start → (ts : Toks) → Tells l a_name ts (read_name ts)
name-tells l h (name w n ∷ ts) = (name w n ∷ [], refl, (w, n, refl, refl))
name-tells l h [] = ([], refl, begun-nothing l h a_name)
name-tells l h (_ ∷ ts) = ([], refl, begun-nothing l h a_name)

number-tells : (l : Option ℕ) → IsShallow l start → (ts : Toks) → Tells l a_number ts (read_number ts)
number-tells l h (number n ∷ ts) = (number n ∷ [], refl, (n, refl, refl))
number-tells l h [] = ([], refl, begun-nothing l h a_number)
number-tells l h (_ ∷ ts) = ([], refl, begun-nothing l h a_number)

size-tells : (l : Option ℕ) → IsShallow l start → (ts : Toks) → Tells l a_size ts (read_size ts)
size-tells l h (number n ∷ ts) = go (nat_le 1 n && nat_le n 1000) refl
  where
    go : (b : Bool) → (nat_le 1 n && nat_le n 1000) ≡ b → Tells l a_size (number n ∷ ts) (cond b (took (counted n) ts) (wrong (number n ∷ ts)))
    go true q = let (x, y) = and_parts (nat_le 1 n) (nat_le n 1000) q in (number n ∷ [], refl, (n, leb-true 1 n x, leb-true n 1000 y, refl, refl))
    go false q = ([], refl, begun-nothing l h a_size)
size-tells l h [] = ([], refl, begun-nothing l h a_size)
size-tells l h (_ ∷ ts) = ([], refl, begun-nothing l h a_size)

expr-tells : (l : Option ℕ) (ts : Toks) (o : Outcome) → walking.Told l [] ts o → Tells l an_expr ts o
expr-tells l ts (took v rest) (ws, e, q, p, d, w) = (ws, q, (e, d, w, p))
expr-tells l ts (wrong rest) (ws, q, (more, e, d, w)) = (ws, q, (more, tree e, (e, d, w, refl)))
expr-tells l ts (deep rest) (ws, t, us, p, q, (more, e, d, w), (more', e', d', w')) = (ws, t, us, p, q, (more, tree e, (e, d, w, refl)), (more', tree e', (e', d', tt, refl)))

-- a rule over another one, which spells the same
over-tells : (l : Option ℕ) (a r : Rule) (f : Parsed → Parsed) (ts : Toks) → ((k : Option ℕ) (us : Toks) (x : Parsed) → Spelled k a us x → Spelled k r us (f x))
    → (o : Outcome) → Tells l a ts o → Tells l r ts (bind o (λ v us. took (f v) us))
over-tells l a r f ts g (took v rest) (us, q, A) = (us, q, g l us v A)
over-tells l a r f ts g (wrong rest) (us, q, (more, v, A)) = (us, q, (more, f v, g l (us ++ more) v A))
over-tells l a r f ts g (deep rest) (us, t, ws, p, q, (more, v, A), (more', v', A')) =
    (us, t, ws, p, q, (more, f v, g l (us ++ more) v A), (more', f v', g None (us ++ t ∷ [] ++ more') v' A'))

-- one rule behind another, with what both together spell
abbrev Joins : Rule → Rule → Rule → (Parsed → Parsed → Parsed) → Type 0
Joins a b r f = (k : Option ℕ) (us ws : Toks) (x y : Parsed) → Spelled k a us x → Spelled k b ws y → Spelled k r (us ++ ws) (f x y)

behind-tells : (l : Option ℕ) (a b r : Rule) (f : Parsed → Parsed → Parsed) → Joins a b r f → (ts us rest : Toks) (x : Parsed) → ts ≡ us ++ rest → Spelled l a us x
    → (o : Outcome) → Tells l b rest o → Tells l r ts (bind o (λ w left_over. took (f x w) left_over))
behind-tells l a b r f J ts us rest x q A (took w more) (ws, p, B) = (us ++ ws, q ∙ ap (λ z. us ++ z) p ∙ sym (append_assoc us ws more), J l us ws x w A B)
behind-tells l a b r f J ts us rest x q A (wrong more) (ws, p, (vs, w, B)) = (
  us ++ ws,
  q ∙ ap (λ z. us ++ z) p ∙ sym (append_assoc us ws more),
  (vs, f x w, spelled-as l r (us ++ (ws ++ vs)) (us ++ ws ++ vs) (f x w) (sym (append_assoc us ws vs)) (J l us (ws ++ vs) x w A B)),
)
behind-tells l a b r f J ts us rest x q A (deep more) (ws, t, vs, m, p, (zs, w, B), (zs', w', B')) = (
  us ++ ws,
  t,
  vs,
  m,
  q ∙ ap (λ z. us ++ z) p ∙ sym (append_assoc us ws (t ∷ vs)),
  (zs, f x w, spelled-as l r (us ++ (ws ++ zs)) (us ++ ws ++ zs) (f x w) (sym (append_assoc us ws zs)) (J l us (ws ++ zs) x w A B)),
  (
    zs',
    f x w',
    spelled-as None r (us ++ (ws ++ t ∷ [] ++ zs')) (us ++ ws ++ t ∷ [] ++ zs') (f x w')
        (sym (append_assoc us (ws ++ t ∷ []) zs') ∙ ap (λ z. z ++ zs') (sym (append_assoc us ws (t ∷ []))))
        (J None us (ws ++ t ∷ [] ++ zs') x w' (loosen l a us x A) B'),
  ),
)

order-tells : (l : Option ℕ) → IsShallow l start → (a b r : Rule) (f : Parsed → Parsed → Parsed) → Joins a b r f → (ts : Toks) (next : Toks → Outcome)
    → ((us : Toks) → Tells l b us (next us)) → (o : Outcome) → Tells l a ts o
    → Tells l r ts (bind o (λ v us. bind (next us) (λ w rest. took (f v w) rest)))
order-tells l h a b r f J ts next g (took v rest) (us, q, A) = behind-tells l a b r f J ts us rest v q A (next rest) (g rest)
order-tells l h a b r f J ts next g (wrong rest) (us, q, (more, v, A)) =
    let (ws, y, B) = an-example l h b in
    (us, q, (more ++ ws, f v y, spelled-as l r (us ++ more ++ ws) (us ++ (more ++ ws)) (f v y) (append_assoc us more ws) (J l (us ++ more) ws v y A B)))
order-tells l h a b r f J ts next g (deep rest) (us, t, vs, p, q, (more, v, A), (more', v', A')) =
    let (ws, y, B) = an-example l h b in (
      us,
      t,
      vs,
      p,
      q,
      (more ++ ws, f v y, spelled-as l r (us ++ more ++ ws) (us ++ (more ++ ws)) (f v y) (append_assoc us more ws) (J l (us ++ more) ws v y A B)),
      (
        more' ++ ws,
        f v' y,
        spelled-as None r (us ++ t ∷ [] ++ more' ++ ws) (us ++ t ∷ [] ++ (more' ++ ws)) (f v' y) (append_assoc (us ++ t ∷ []) more' ws)
            (J None (us ++ t ∷ [] ++ more') ws v' y A' (loosen l b ws y B)),
      ),
    )

many-tells : (l : Option ℕ) → IsShallow l start → (a : Rule) (f : Toks → Outcome) → ((us : Toks) → Tells l a us (f us)) → (cs : List Class) (n : ℕ) (ts : Toks)
    → Tells l (many a) ts (read_many f cs n ts)
many-tells l h a f g cs zero ts = ([], refl, ([], nothing, refl))
many-tells l h a f g cs (suc n) ts = on (λ us. many-tells l h a f g cs n us) (starts cs ts)
  where
    on : ((us : Toks) → Tells l (many a) us (read_many f cs n us)) → (b : Bool)
        → Tells l (many a) ts (cond b (bind (f ts) (λ v us. bind (read_many f cs n us) (λ vs rest. took (pair v vs) rest))) (took nothing ts))
    on k true = order-tells l h a (many a) (many a) pair (λ c us ws x y A B. (us, ws, A, B, refl)) ts (read_many f cs n) k (f ts) (g ts)
    on k false = ([], refl, refl)

pub tells : (l : Option ℕ) → IsShallow l start → (r : Rule) (ts : Toks) → Tells l r ts (read l r ts)
tells l h (this c) ts = this-tells l h c ts
tells l h a_name ts = name-tells l h ts
tells l h a_size ts = size-tells l h ts
tells l h a_number ts = number-tells l h ts
tells l h an_expr ts = expr-tells l ts (walk l start ts) (expr-told l ts h)
tells l h (order k a b) ts =
    order-tells l h a b (order k a b) (kept k) (λ c us ws x y A B. (us, ws, x, y, A, B, refl, refl)) ts (read l b) (λ us. tells l h b us) (read l a ts) (tells l h a ts)
tells l h (silent a) ts = over-tells l a (silent a) (λ v. nothing) ts (λ k us x A. (x, A, refl)) (read l a ts) (tells l h a ts)
tells l h (either a b) ts = go (tells l h a ts) (tells l h b ts) (starts (begins a) ts)
  where
    go : Tells l a ts (read l a ts) → Tells l b ts (read l b ts) → (c : Bool) → Tells l (either a b) ts (read_either c (read l a ts) (read l b ts))
    go A B true = over-tells l a (either a b) left ts (λ k us x A. inl (x, A, refl)) (read l a ts) A
    go A B false = over-tells l b (either a b) right ts (λ k us x A. inr (x, A, refl)) (read l b ts) B
tells l h (maybe a) ts = go (tells l h a ts) (starts (begins a) ts)
  where
    go : Tells l a ts (read l a ts) → (c : Bool) → Tells l (maybe a) ts (read_maybe c (read l a ts) ts)
    go A true = over-tells l a (maybe a) present ts (λ k us x A. inr (x, A, refl)) (read l a ts) A
    go A false = ([], refl, inl (refl, refl))
tells l h (many a) ts = many-tells l h a (read l a) (λ us. tells l h a us) (begins a) (suc (length ts)) ts

-- An expression is read as far as it goes, and by one look at each token.
use Rattle.std.proofs.Common.{◌≡◌, ◌≤◌, ℕ, [], ◌∷◌, ◌++◌, Bool, true, false, Option, Some, None, refl, sym, ap, subst, ◌∙◌, append_assoc, append-nil, nat_le, cond}
use Rattle.std.proofs.lemmas.Option.{none-some}
use Rattle.std.proofs.lemmas.List.{append_cancel_right}
use Rattle.std.proofs.lemmas.Bool.{leb-true, le-leb, not-true, not-false, not_from_true, false≢true}
use Rattle.sql_grammar.specs.Syntax.{Sum, plus, minus, Product, times, over, Comparison, Aggregate, count, Tree, Token, or, and, is, null, between, in_, dot, open_, close, comma, huge, bad, compare, sum, product, call, number, text, truth, key, name, Spells, expr, Viable}
use Rattle.sql_grammar.specs.Syntax as s
use Rattle.sql_grammar.specs.Machine.{State, start, step, run, ended, state, level, Whole, Tested, Named, First, Right, Low, High, Member, ◌>>=◌}
use Rattle.sql_grammar.specs.Depth.{floor}
use Rattle.sql_grammar.specs.Rules.{tree, IsWithin, class_of}
use Rattle.sql_grammar.specs.Classes.{has}
use Rattle.sql_grammar.specs.declared.word.Class.TheVariants as class
use Rattle.sql_grammar.specs.declared.word.Word.{Word}
use Rattle.sql_grammar.specs.declared.word.Word.TheVariants as word
use Rattle.sql_ast.specs.declared.expression.Comparison.TheVariants.{Equal, NotEqual, Less, LessEqual, Greater, GreaterEqual}
use Rattle.sql_grammar.specs.Reading.{Outcome, took, wrong, deep, finish, is_deep, walk, walk_on, if_stopped, stops, expr_begins, names_begin}
use Rattle.sql_grammar.proofs.Complete.{reads-spelled, bind_some, run-then}
use Rattle.sql_grammar.proofs.Viable.{viable-some}
use Rattle.sql_grammar.proofs.Sound.{Toks, spelled-read}
use Rattle.sql_grammar.proofs.Depths.{floor-holds, floor-reached, ended-depth}

-- ---- the limit

abbrev pub IsShallow : Option ℕ → State → Type 0
IsShallow None x = Unit {0}
IsShallow (Some limit) x = floor x ≤ limit

not-deep : (l : Option ℕ) (x : State) → is_deep l x ≡ false → IsShallow l x
not-deep None x h = tt
not-deep (Some n) x h = leb-true (floor x) n (not-false (nat_le (floor x) n) h)

too-deep : (l : Option ℕ) (x : State) → is_deep l x ≡ true → IsShallow l x → ⊥
too-deep None x h s = false≢true h
too-deep (Some n) x h s = false≢true (sym (not-true (nat_le (floor x) n) h) ∙ le-leb (floor x) n s)

shallow-not : (l : Option ℕ) (x : State) → IsShallow l x → is_deep l x ≡ false
shallow-not None x s = refl
shallow-not (Some n) x s = not_from_true (nat_le (floor x) n) (le-leb (floor x) n s)

-- some expression that begins so is within the limit
abbrev pub CanBe : Option ℕ → Toks → Type 0
CanBe l ts = (more : Toks) × (e : Tree) × Spells expr (ts ++ more) e × IsWithin l e

can-be : (l : Option ℕ) (ts : Toks) (x : State) → run start ts ≡ Some x → IsShallow l x → CanBe l ts
can-be None ts x r s = let (more, e, d) = viable-some ts x r in (more, e, d, tt)
can-be (Some n) ts x r s = floor-reached n ts x r s

shallow-be : (l : Option ℕ) (ts : Toks) (x : State) → run start ts ≡ Some x → CanBe l ts → IsShallow l x
shallow-be None ts x r c = tt
shallow-be (Some n) ts x r c = floor-holds n ts x r c

ended-within : (l : Option ℕ) (ts : Toks) (x : State) (e : Tree) → run start ts ≡ Some x → ended x ≡ Some e → IsShallow l x → IsWithin l e
ended-within None ts x e r q s = tt
ended-within (Some n) ts x e r q s = let P : ℕ → Type 0 = λ d. d ≤ n in subst P (ended-depth ts x e r q) s

-- ---- what a reading tells

abbrev pub Told : Option ℕ → Toks → Toks → Outcome → Type 0
Told l us ts (took v rest) = (ws : Toks) × (e : Tree) × (ts ≡ ws ++ rest) × (v ≡ tree e) × Spells expr (us ++ ws) e × IsWithin l e
Told l us ts (wrong rest) = (ws : Toks) × (ts ≡ ws ++ rest) × CanBe l (us ++ ws)
Told l us ts (deep rest) = (ws : Toks) × (t : Token) × (more : Toks) × (rest ≡ t ∷ more) × (ts ≡ ws ++ t ∷ more) × CanBe l (us ++ ws) × CanBe None (us ++ ws ++ t ∷ [])

can-as : (l : Option ℕ) (ts us : Toks) → ts ≡ us → CanBe l ts → CanBe l us
can-as l ts us q h = let P : Toks → Type 0 = λ z. CanBe l z in subst P q h

spells-as : (ts us : Toks) (e : Tree) → ts ≡ us → Spells expr ts e → Spells expr us e
spells-as ts us e q h = let P : Toks → Type 0 = λ z. Spells expr z e in subst P q h

finish-told : (l : Option ℕ) (us : Toks) (x : State) (ts : Toks) → run start us ≡ Some x → IsShallow l x → (r : Option Tree) → ended x ≡ r → Told l us ts (finish r ts)
finish-told l us x ts r s (Some e) q =
    ([], e, refl, refl, spells-as us (us ++ []) e (sym (append-nil us)) (spelled-read us e (ap (λ z. z >>= ended) r ∙ q)), ended-within l us x e r q s)
finish-told l us x ts r s None q = ([], refl, can-as l us (us ++ []) (sym (append-nil us)) (can-be l us x r s))

further : (l : Option ℕ) (us : Toks) (t : Token) (ts : Toks) (o : Outcome) → Told l (us ++ t ∷ []) ts o → Told l us (t ∷ ts) o
further l us t ts (took v rest) (ws, e, q, p, d, w) = (t ∷ ws, e, ap (λ z. t ∷ z) q, p, spells-as (us ++ t ∷ [] ++ ws) (us ++ t ∷ ws) e (append_assoc us (t ∷ []) ws) d, w)
further l us t ts (wrong rest) (ws, q, c) = (t ∷ ws, ap (λ z. t ∷ z) q, can-as l (us ++ t ∷ [] ++ ws) (us ++ t ∷ ws) (append_assoc us (t ∷ []) ws) c)
further l us t ts (deep rest) (ws, u, more, p, q, c, d) = (
  t ∷ ws,
  u,
  more,
  p,
  ap (λ z. t ∷ z) q,
  can-as l (us ++ t ∷ [] ++ ws) (us ++ t ∷ ws) (append_assoc us (t ∷ []) ws) c,
  can-as None (us ++ t ∷ [] ++ ws ++ u ∷ []) (us ++ t ∷ ws ++ u ∷ []) (ap (λ z. z ++ u ∷ []) (append_assoc us (t ∷ []) ws)) d,
)

run-one : (us : Toks) (x y : State) (t : Token) → run start us ≡ Some x → step x t ≡ Some y → run start (us ++ t ∷ []) ≡ Some y
run-one us x y t r q = run-then start x us (t ∷ []) r ∙ ap (λ z. z >>= λ y. Some y) q

walk-told : (l : Option ℕ) (us : Toks) (x : State) (ts : Toks) → run start us ≡ Some x → IsShallow l x → Told l us ts (walk l x ts)
walk-told l us x [] r s = finish-told l us x [] r s (ended x) refl
walk-told l us x (t ∷ ts) r s = stop (stops (class_of t)) (λ y q w. walk-told l (us ++ t ∷ []) y ts q w)
  where
    on : (y : State) → step x t ≡ Some y → ((y : State) → run start (us ++ t ∷ []) ≡ Some y → IsShallow l y → Told l (us ++ t ∷ []) ts (walk l y ts))
        → (b : Bool) → is_deep l y ≡ b → Told l us (t ∷ ts) (cond b (deep (t ∷ ts)) (walk l y ts))
    on y q f true w = (
      [],
      t,
      ts,
      refl,
      refl,
      can-as l us (us ++ []) (sym (append-nil us)) (can-be l us x r s),
      can-as None (us ++ t ∷ []) (us ++ [] ++ t ∷ []) (ap (λ z. z ++ t ∷ []) (sym (append-nil us))) (can-be None (us ++ t ∷ []) y (run-one us x y t r q) tt),
    )
    on y q f false w = further l us t ts (walk l y ts) (f y (run-one us x y t r q) (not-deep l y w))

    go : ((y : State) → run start (us ++ t ∷ []) ≡ Some y → IsShallow l y → Told l (us ++ t ∷ []) ts (walk l y ts))
        → (y : Option State) → step x t ≡ y → Told l us (t ∷ ts) (walk_on l None (t ∷ ts) (λ y. walk l y ts) y)
    go f None q = ([], refl, can-as l us (us ++ []) (sym (append-nil us)) (can-be l us x r s))
    go f (Some y) q = on y q f (is_deep l y) refl

    whole : ((y : State) → run start (us ++ t ∷ []) ≡ Some y → IsShallow l y → Told l (us ++ t ∷ []) ts (walk l y ts))
        → (e : Option Tree) → ended x ≡ e → Told l us (t ∷ ts) (walk_on l e (t ∷ ts) (λ y. walk l y ts) (step x t))
    whole f (Some e) q = finish-told l us x (t ∷ ts) r s (Some e) q
    whole f None q = go f (step x t) refl

    stop : (b : Bool) → ((y : State) → run start (us ++ t ∷ []) ≡ Some y → IsShallow l y → Told l (us ++ t ∷ []) ts (walk l y ts))
        → Told l us (t ∷ ts) (walk_on l (if_stopped b (ended x)) (t ∷ ts) (λ y. walk l y ts) (step x t))
    stop true f = whole f (ended x) refl
    stop false f = go f (step x t) refl

pub expr-told : (l : Option ℕ) (ts : Toks) → IsShallow l start → Told l [] ts (walk l start ts)
expr-told l ts s = walk-told l [] start ts refl s

-- ---- behind a whole expression the machine takes no token that stops it

stop-behind : (t : Token) → stops (class_of t) ≡ true → (x : State) (e : Tree) → ended x ≡ Some e → step x t ≡ None
stop-behind (key k) h (state (Whole e) k' []) f q = refl
stop-behind (key k) h (state (Named e) k' []) f q = refl
stop-behind (key k) h (state (Tested e) k' []) f q = refl
stop-behind (name w n) h (state (Whole e) k' []) f q = refl
stop-behind (name w n) h (state (Named e) k' []) f q = refl
stop-behind (name w n) h (state (Tested e) k' []) f q = refl
stop-behind comma h (state (Whole e) (level o a n First s t ss) []) f q = refl
stop-behind comma h (state (Whole e) (level o a n (Right c x) s t ss) []) f q = refl
stop-behind comma h (state (Whole e) (level o a n (Low b x) s t ss) []) f q = refl
stop-behind comma h (state (Whole e) (level o a n (High b x y) s t ss) []) f q = refl
stop-behind comma h (state (Whole e) (level o a n (Member b x y) s t ss) []) f q = absurd (none-some f q)
stop-behind comma h (state (Named e) (level o a n First s t ss) []) f q = refl
stop-behind comma h (state (Named e) (level o a n (Right c x) s t ss) []) f q = refl
stop-behind comma h (state (Named e) (level o a n (Low b x) s t ss) []) f q = refl
stop-behind comma h (state (Named e) (level o a n (High b x y) s t ss) []) f q = refl
stop-behind comma h (state (Named e) (level o a n (Member b x y) s t ss) []) f q = absurd (none-some f q)
stop-behind comma h (state (Tested e) (level o a n p s t ss) []) f q = refl
stop-behind close h (state (Whole e) (level o a n First s t ss) []) f q = refl
stop-behind close h (state (Whole e) (level o a n (Right c x) s t ss) []) f q = refl
stop-behind close h (state (Whole e) (level o a n (Low b x) s t ss) []) f q = refl
stop-behind close h (state (Whole e) (level o a n (High b x y) s t ss) []) f q = refl
stop-behind close h (state (Whole e) (level o a n (Member b x y) s t ss) []) f q = absurd (none-some f q)
stop-behind close h (state (Named e) (level o a n First s t ss) []) f q = refl
stop-behind close h (state (Named e) (level o a n (Right c x) s t ss) []) f q = refl
stop-behind close h (state (Named e) (level o a n (Low b x) s t ss) []) f q = refl
stop-behind close h (state (Named e) (level o a n (High b x y) s t ss) []) f q = refl
stop-behind close h (state (Named e) (level o a n (Member b x y) s t ss) []) f q = absurd (none-some f q)
stop-behind close h (state (Tested e) (level o a n First s t ss) []) f q = refl
stop-behind close h (state (Tested e) (level o a n (Right c x) s t ss) []) f q = refl
stop-behind close h (state (Tested e) (level o a n (Low b x) s t ss) []) f q = refl
stop-behind close h (state (Tested e) (level o a n (High b x y) s t ss) []) f q = refl
stop-behind close h (state (Tested e) (level o a n (Member b x y) s t ss) []) f q = absurd (none-some f q)
stop-behind (compare Equal) h x f q = absurd (false≢true h)
stop-behind (compare NotEqual) h x f q = absurd (false≢true h)
stop-behind (compare Less) h x f q = absurd (false≢true h)
stop-behind (compare LessEqual) h x f q = absurd (false≢true h)
stop-behind (compare Greater) h x f q = absurd (false≢true h)
stop-behind (compare GreaterEqual) h x f q = absurd (false≢true h)
stop-behind (sum plus) h x f q = absurd (false≢true h)
stop-behind (sum minus) h x f q = absurd (false≢true h)
stop-behind (product times) h x f q = absurd (false≢true h)
stop-behind (product over) h x f q = absurd (false≢true h)
stop-behind or h x f q = absurd (false≢true h)
stop-behind and h x f q = absurd (false≢true h)
stop-behind s.not h x f q = absurd (false≢true h)
stop-behind is h x f q = absurd (false≢true h)
stop-behind null h x f q = absurd (false≢true h)
stop-behind between h x f q = absurd (false≢true h)
stop-behind in_ h x f q = absurd (false≢true h)
stop-behind dot h x f q = absurd (false≢true h)
stop-behind open_ h x f q = absurd (false≢true h)
stop-behind huge h x f q = absurd (false≢true h)
stop-behind bad h x f q = absurd (false≢true h)
stop-behind (call a) h x f q = absurd (false≢true h)
stop-behind (number n) h x f q = absurd (false≢true h)
stop-behind (text n) h x f q = absurd (false≢true h)
stop-behind (truth n) h x f q = absurd (false≢true h)
stop-behind t h (state _ (level o a n p s b ss) []) f q = absurd (none-some f q)
stop-behind t h (state m k (o ∷ out)) f q = absurd (none-some f q)

-- a stop, or no token
abbrev pub Stopped : Toks → Type 0
Stopped [] = Unit {0}
Stopped (t ∷ ts) = stops (class_of t) ≡ true

finish-stopped : (l : Option ℕ) (x : State) (e : Tree) (rest : Toks) → ended x ≡ Some e → Stopped rest → walk l x rest ≡ took (tree e) rest
finish-stopped l x e [] q h = ap (λ r. finish r []) q
finish-stopped l x e (t ∷ ts) q h =
    ap (λ b. walk_on l (if_stopped b (ended x)) (t ∷ ts) (λ y. walk l y ts) (step x t)) h ∙ ap (λ r. walk_on l r (t ∷ ts) (λ y. walk l y ts) (step x t)) q

-- the tokens of the rest of an expression are taken
walk-reads : (l : Option ℕ) (us ws rest : Toks) (x : State) (e : Tree) → run start us ≡ Some x → Spells expr (us ++ ws) e → IsWithin l e → Stopped rest
    → walk l x (ws ++ rest) ≡ took (tree e) rest
walk-reads l us [] rest x e r d w h =
    finish-stopped l x e rest (sym (ap (λ z. z >>= ended) r) ∙ reads-spelled us e (spells-as (us ++ []) us e (append-nil us) d)) h
walk-reads l us (t ∷ ws) rest x e r d w h =
    go (λ y q. walk-reads l (us ++ t ∷ []) ws rest y e q (spells-as (us ++ t ∷ ws) (us ++ t ∷ [] ++ ws) e (sym (append_assoc us (t ∷ []) ws)) d) w h) (step x t) refl
  where
    all : (run x (t ∷ ws) >>= ended) ≡ Some e
    all = ap (λ z. z >>= ended) (sym (run-then start x us (t ∷ ws) r)) ∙ reads-spelled (us ++ t ∷ ws) e d

    shallow : (y : State) → run start (us ++ t ∷ []) ≡ Some y → is_deep l y ≡ false
    shallow y q = shallow-not l y (shallow-be l (us ++ t ∷ []) y q (ws, e, spells-as (us ++ t ∷ ws) (us ++ t ∷ [] ++ ws) e (sym (append_assoc us (t ∷ []) ws)) d, w))

    goes : (step x t ≡ None) → ⊥
    goes q = none-some e (sym (ap (λ z. z >>= (λ y. run y ws) >>= ended) q) ∙ all)

    on : (b : Bool) → stops (class_of t) ≡ b → (r : Option Tree) → ended x ≡ r → if_stopped b r ≡ None
    on true p (Some d) q = absurd (goes (stop-behind t p x d q))
    on true p None q = refl
    on false p r q = refl

    go : ((y : State) → run start (us ++ t ∷ []) ≡ Some y → walk l y (ws ++ rest) ≡ took (tree e) rest)
        → (y : Option State) → step x t ≡ y → walk_on l (if_stopped (stops (class_of t)) (ended x)) (t ∷ ws ++ rest) (λ y. walk l y (ws ++ rest)) y ≡ took (tree e) rest
    go f None q = absurd (goes q)
    go f (Some y) q =
        ap (λ r. walk_on l r (t ∷ ws ++ rest) (λ y. walk l y (ws ++ rest)) (Some y)) (on (stops (class_of t)) refl (ended x) refl)
        ∙ ap (λ b. cond b (deep (t ∷ ws ++ rest)) (walk l y (ws ++ rest))) (shallow y (run-one us x y t r q)) ∙ f y (run-one us x y t r q)

pub expr-reads : (l : Option ℕ) (us rest : Toks) (e : Tree) → Spells expr us e → IsWithin l e → Stopped rest → walk l start (us ++ rest) ≡ took (tree e) rest
expr-reads l us rest e d w h = walk-reads l [] us rest start e refl d w h

-- ---- an expression begins with one of these

names-all : (w : Word) → has (class.Name w) names_begin ≡ true
names-all word.Plain = refl
names-all word.Autocommit = refl
names-all word.Cs = refl
names-all word.Current = refl
names-all word.Exclusive = refl
names-all word.Index = refl
names-all word.Isolation = refl
names-all word.Key = refl
names-all word.Lock = refl
names-all word.Mode = refl
names-all word.Off = refl
names-all word.Rr = refl
names-all word.Rs = refl
names-all word.Share = refl
names-all word.Ur = refl
names-all word.Work = refl

pub name-begins : (w : Word) → has (class.Name w) names_begin ≡ true
name-begins w = names-all w

first-token : (t : Token) (y : State) → step start t ≡ Some y → has (class_of t) expr_begins ≡ true
first-token s.not y h = refl
first-token (sum plus) y h = refl
first-token (sum minus) y h = refl
first-token (number n) y h = refl
first-token (text n) y h = refl
first-token (truth n) y h = refl
first-token (name w n) y h = names-all w
first-token open_ y h = refl
first-token (call n) y h = refl
first-token (product times) y h = absurd (none-some y h)
first-token (product over) y h = absurd (none-some y h)
first-token _ y h = absurd (none-some y h)

abbrev pub BeginsExpr : Toks → Type 0
BeginsExpr [] = ⊥
BeginsExpr (t ∷ ts) = has (class_of t) expr_begins ≡ true

pub expr-begins : (us : Toks) (e : Tree) → Spells expr us e → BeginsExpr us
expr-begins [] e d = none-some e (reads-spelled [] e d)
expr-begins (t ∷ ts) e d = let (y, q, h) = bind_some (step start t) (λ y. run y ts >>= ended) e (regroup (step start t) ∙ reads-spelled (t ∷ ts) e d) in first-token t y q
  where
    regroup : (r : Option State) → (r >>= λ y. run y ts >>= ended) ≡ ((r >>= λ y. run y ts) >>= ended)
    regroup None = refl
    regroup (Some y) = refl

-- ---- what stands behind the last token that was looked at makes no difference

abbrev pub rest_of : Outcome → Toks
rest_of (took v ts) = ts
rest_of (wrong ts) = ts
rest_of (deep ts) = ts

abbrev pub moved : Outcome → Toks → Outcome
moved (took v ts) us = took v us
moved (wrong ts) us = wrong us
moved (deep ts) us = deep us

-- where the token t was not passed, other tokens behind it give the same
abbrev pub Local : Token → Toks → Toks → Outcome → Outcome → Type 0
Local t rest rest' o p = (xs : Toks) → rest_of o ≡ xs ++ t ∷ rest → p ≡ moved o (xs ++ t ∷ rest')

-- what is left is an end of what was there
abbrev pub Ends : Toks → Outcome → Type 0
Ends ts o = (ws : Toks) × (ts ≡ ws ++ rest_of o)

longer : (t : Token) (rest xs ws : Toks) → rest ≡ ws ++ (xs ++ t ∷ rest) → ⊥
longer t rest xs ws q = no-cons (append_cancel_right [] (t ∷ (ws ++ xs)) (t ∷ rest) (ap (λ z. t ∷ z) (q ∙ sym (append_assoc ws xs (t ∷ rest)))))
  where
    no-cons : ([] ≡ t ∷ (ws ++ xs)) → ⊥
    no-cons p = let P : Toks → Type 0 = λ z. elim z [ [] ↦ Unit {0} | u ∷ us ↦ ⊥ ] in subst P p tt

pub passed : (t : Token) (rest rest' : Toks) (o p : Outcome) → Ends rest o → Local t rest rest' o p
passed t rest rest' o p (ws, q) xs h = absurd (longer t rest xs ws (q ∙ ap (λ z. ws ++ z) h))

pub stays : (t : Token) (rest rest' us : Toks) (o p : Outcome) → rest_of o ≡ us ++ t ∷ rest → p ≡ moved o (us ++ t ∷ rest') → Local t rest rest' o p
stays t rest rest' us o p q h xs w = h ∙ ap (λ z. moved o (z ++ t ∷ rest')) (append_cancel_right us xs (t ∷ rest) (sym q ∙ w))

finish-rest : (r : Option Tree) (ts : Toks) → rest_of (finish r ts) ≡ ts
finish-rest None ts = refl
finish-rest (Some e) ts = refl

finish-moved : (r : Option Tree) (ts us : Toks) → finish r us ≡ moved (finish r ts) us
finish-moved None ts us = refl
finish-moved (Some e) ts us = refl

finish-local : (r : Option Tree) (t : Token) (rest rest' us : Toks) → Local t rest rest' (finish r (us ++ t ∷ rest)) (finish r (us ++ t ∷ rest'))
finish-local r t rest rest' us = stays t rest rest' us (finish r (us ++ t ∷ rest)) (finish r (us ++ t ∷ rest')) (finish-rest r (us ++ t ∷ rest)) (finish-moved r (us ++ t ∷ rest) (us ++ t ∷ rest'))

pub walk-ends : (l : Option ℕ) (x : State) (ts : Toks) → Ends ts (walk l x ts)
walk-ends l x [] = ([], sym (finish-rest (ended x) []))
walk-ends l x (t ∷ ts) = go (λ y. walk-ends l y ts) (if_stopped (stops (class_of t)) (ended x)) (step x t)
  where
    on : (b : Bool) (o : Outcome) → Ends ts o → Ends (t ∷ ts) (cond b (deep (t ∷ ts)) o)
    on true o h = ([], refl)
    on false o (ws, q) = (t ∷ ws, ap (λ z. t ∷ z) q)

    go : ((y : State) → Ends ts (walk l y ts)) → (e : Option Tree) (y : Option State) → Ends (t ∷ ts) (walk_on l e (t ∷ ts) (λ y. walk l y ts) y)
    go f (Some e) y = ([], refl)
    go f None None = ([], refl)
    go f None (Some y) = on (is_deep l y) (walk l y ts) (f y)

pub walk-local : (l : Option ℕ) (t : Token) (rest rest' us : Toks) (x : State) → Local t rest rest' (walk l x (us ++ t ∷ rest)) (walk l x (us ++ t ∷ rest'))
walk-local l t rest rest' [] x = go (if_stopped (stops (class_of t)) (ended x)) (step x t)
  where
    on : (b : Bool) (y : State) → Local t rest rest' (cond b (deep (t ∷ rest)) (walk l y rest)) (cond b (deep (t ∷ rest')) (walk l y rest'))
    on true y = stays t rest rest' [] (deep (t ∷ rest)) (deep (t ∷ rest')) refl refl
    on false y = passed t rest rest' (walk l y rest) (walk l y rest') (walk-ends l y rest)

    go : (e : Option Tree) (y : Option State) → Local t rest rest' (walk_on l e (t ∷ rest) (λ y. walk l y rest) y) (walk_on l e (t ∷ rest') (λ y. walk l y rest') y)
    go (Some e) y = stays t rest rest' [] (took (tree e) (t ∷ rest)) (took (tree e) (t ∷ rest')) refl refl
    go None None = stays t rest rest' [] (wrong (t ∷ rest)) (wrong (t ∷ rest')) refl refl
    go None (Some y) = on (is_deep l y) y
walk-local l t rest rest' (u ∷ us) x = go (λ y. walk-local l t rest rest' us y) (if_stopped (stops (class_of u)) (ended x)) (step x u)
  where
    on : (b : Bool) (y : State) → Local t rest rest' (walk l y (us ++ t ∷ rest)) (walk l y (us ++ t ∷ rest'))
        → Local t rest rest' (cond b (deep (u ∷ us ++ t ∷ rest)) (walk l y (us ++ t ∷ rest))) (cond b (deep (u ∷ us ++ t ∷ rest')) (walk l y (us ++ t ∷ rest')))
    on true y f = stays t rest rest' (u ∷ us) (deep (u ∷ us ++ t ∷ rest)) (deep (u ∷ us ++ t ∷ rest')) refl refl
    on false y f = f

    go : ((y : State) → Local t rest rest' (walk l y (us ++ t ∷ rest)) (walk l y (us ++ t ∷ rest')))
        → (e : Option Tree) (y : Option State)
        → Local t rest rest' (walk_on l e (u ∷ us ++ t ∷ rest) (λ y. walk l y (us ++ t ∷ rest)) y) (walk_on l e (u ∷ us ++ t ∷ rest') (λ y. walk l y (us ++ t ∷ rest')) y)
    go f (Some e) y = stays t rest rest' (u ∷ us) (took (tree e) (u ∷ us ++ t ∷ rest)) (took (tree e) (u ∷ us ++ t ∷ rest')) refl refl
    go f None None = stays t rest rest' (u ∷ us) (wrong (u ∷ us ++ t ∷ rest)) (wrong (u ∷ us ++ t ∷ rest')) refl refl
    go f None (Some y) = on (is_deep l y) y (f y)

-- without a limit the same is read, but where the limit was met
abbrev pub Same : Outcome → Outcome → Type 0
Same (took v ts) o = o ≡ took v ts
Same (wrong ts) o = o ≡ wrong ts
Same (deep ts) o = Unit {0}

pub same-self : (o : Outcome) → Same o o
same-self (took v ts) = refl
same-self (wrong ts) = refl
same-self (deep ts) = tt

pub walk-same : (l : Option ℕ) (x : State) (ts : Toks) → Same (walk l x ts) (walk None x ts)
walk-same l x [] = same-self (finish (ended x) [])
walk-same l x (t ∷ ts) = go (λ y. walk-same l y ts) (if_stopped (stops (class_of t)) (ended x)) (step x t)
  where
    on : (b : Bool) (o p : Outcome) → Same o p → Same (cond b (deep (t ∷ ts)) o) p
    on true o p h = tt
    on false o p h = h

    go : ((y : State) → Same (walk l y ts) (walk None y ts)) → (e : Option Tree) (y : Option State)
        → Same (walk_on l e (t ∷ ts) (λ y. walk l y ts) y) (walk_on None e (t ∷ ts) (λ y. walk None y ts) y)
    go f (Some e) y = refl
    go f None None = refl
    go f None (Some y) = on (is_deep l y) (walk l y ts) (walk None y ts) (f y)

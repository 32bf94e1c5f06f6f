-- What the machine has read is spelled so.
use Rattle.std.proofs.Common.{◌≡◌, ℕ, zero, suc, ◌^◌, List, [], ◌∷◌, ◌++◌, Bool, true, false, Option, Some, None, refl, sym, ap, subst, ◌∙◌, append_assoc, append-nil, ◌⊎◌, inl, inr}
use Rattle.sql_grammar.specs.Syntax.{Word, Sum, plus, minus, Product, times, Aggregate, count, Trees, none, with, Part, expr, conj, neg, pred, members, sums, term, factor, signed, primary, Token, Tree, or, and, not, is, null, between, in_, dot, open_, close, comma, huge, compare, sum, product, call, number, text, truth, name, Or, Not, IsNull, In, Sign, Number, Text, Truth, Column, ColumnOf, CountAll, negation, Spells, expr-one, expr-or, conj-one, conj-and, neg-one, neg-not, pred-one, pred-compare, pred-null, pred-between, pred-in, members-first, members-more, sum-one, sum-more, term-one, term-more, factor-number, factor-signed, signed-number, signed-huge, signed-more, signed-primary, primary-text, primary-truth, primary-column, primary-column_of, primary-brackets, primary-count_all, primary-call}
use Rattle.sql_grammar.specs.Machine.{◌>>=◌, Place, First, Right, Low, High, Member, Level, level, Opener, Bracket, Calling, Mode, Operand, Whole, Tested, Named, Dotted, AtIs, AtIsNot, AtNot, AtIn, AtCall, AtStar, State, state, signs_of, nots_of, factor_at, term_in, term_at, sum_in, sum_at, pred_in, operand_at, and_in, more_in, close_in, close_out, behind_and, behind_or, behind_sum, behind_product, neg_in, conj_in, expr_in, expr_at, Outer, behind, named, step, run, ended, start, placed, first_at, first_in, opened_of, negated, operand, dotted, at_is, at_is_not, at_not, at_in, at_call, at_star, number_step, huge_step, star_step}

abbrev pub Toks : Type 0
Toks = List Token

-- ts is something of Q, then a part q whose tree is e, then tail
abbrev pub Behind : (Toks → Type 0) → Part → Tree → Toks → Toks → Type 0
Behind Q q e tail ts = (us : Toks) × (vs : Toks) × Q us × Spells q vs e × (ts ≡ us ++ (vs ++ tail))

abbrev pub Split : (Toks → Type 0) → Part → Tree → Toks → Type 0
Split Q q e ts = (us : Toks) × (vs : Toks) × Q us × Spells q vs e × (ts ≡ us ++ vs)

abbrev pub With : (Toks → Type 0) → Toks → Toks → Type 0
With Q tail ts = (us : Toks) × Q us × (ts ≡ us ++ tail)

-- ---- what has been read of a level

abbrev pub OrAt : Option Tree → Toks → Type 0
OrAt None ts = ts ≡ []
OrAt (Some e) ts = (us : Toks) × Spells expr us e × (ts ≡ us ++ or ∷ [])

abbrev pub AndAt : Option Tree → Option Tree → Toks → Type 0
AndAt o None ts = OrAt o ts
AndAt o (Some e) ts = Behind (OrAt o) conj e (and ∷ []) ts

abbrev pub NotAt : Option Tree → Option Tree → ℕ → Toks → Type 0
NotAt o a zero ts = AndAt o a ts
NotAt o a (suc n) ts = With (NotAt o a n) (not ∷ []) ts

abbrev pub PlaceAt : Option Tree → Option Tree → ℕ → Place → Toks → Type 0
PlaceAt o a n First ts = NotAt o a n ts
PlaceAt o a n (Right c e) ts = Behind (NotAt o a n) sums e (compare c ∷ []) ts
PlaceAt o a n (Low b e) ts = Behind (NotAt o a n) sums e (negation b ++ between ∷ []) ts
PlaceAt o a n (High b e f) ts = (us : Toks) × (vs : Toks) × (ws : Toks) × NotAt o a n us × Spells sums vs e × Spells sums ws f
    × (ts ≡ us ++ (vs ++ negation b ++ between ∷ ws ++ and ∷ []))
PlaceAt o a n (Member b e none) ts = Behind (NotAt o a n) sums e (negation b ++ in_ ∷ open_ ∷ []) ts
PlaceAt o a n (Member b e (with xs x)) ts = Behind (NotAt o a n) members (In b e (with xs x)) (comma ∷ []) ts

abbrev pub SumAt : Option Tree → Option Tree → ℕ → Place → Option (Tree × Sum) → Toks → Type 0
SumAt o a n p None ts = PlaceAt o a n p ts
SumAt o a n p (Some x) ts = Behind (PlaceAt o a n p) sums x.0 (sum x.1 ∷ []) ts

abbrev pub TermAt : Option Tree → Option Tree → ℕ → Place → Option (Tree × Sum) → Option (Tree × Product) → Toks → Type 0
TermAt o a n p s None ts = SumAt o a n p s ts
TermAt o a n p s (Some x) ts = Behind (SumAt o a n p s) term x.0 (product x.1 ∷ []) ts

abbrev pub SignAt : Option Tree → Option Tree → ℕ → Place → Option (Tree × Sum) → Option (Tree × Product) → List Sum → Toks → Type 0
SignAt o a n p s t [] ts = TermAt o a n p s t ts
SignAt o a n p s t (x ∷ ss) ts = With (SignAt o a n p s t ss) (sum x ∷ []) ts

abbrev pub LevelAt : Level → Toks → Type 0
LevelAt (level o a n p s t ss) ts = SignAt o a n p s t ss ts

-- an operand that is read: a factor behind no sign, else one that may stand behind a sign
abbrev pub WholeAt : Tree → Level → Toks → Type 0
WholeAt e (level o a n p s t []) ts = Split (TermAt o a n p s t) factor e ts
WholeAt e (level o a n p s t (x ∷ ss)) ts = Split (SignAt o a n p s t (x ∷ ss)) signed e ts

-- behind the first sum of a pred
abbrev pub FirstAt : Tree → Level → Toks → Toks → Type 0
FirstAt e (level o a n First None None []) tail ts = Behind (NotAt o a n) sums e tail ts
FirstAt e _ tail ts = ⊥

abbrev pub PredAt : Tree → Level → Toks → Type 0
PredAt e (level o a n First None None []) ts = Split (NotAt o a n) pred e ts
PredAt e _ ts = ⊥

abbrev pub ModeAt : Mode → Level → Toks → Type 0
ModeAt Operand k ts = LevelAt k ts
ModeAt (Whole e) k ts = WholeAt e k ts
ModeAt (Tested e) k ts = PredAt e k ts
ModeAt (Named x) k ts = (w : Word) × With (LevelAt k) (name w x ∷ []) ts
ModeAt (Dotted x) k ts = (w : Word) × With (LevelAt k) (name w x ∷ dot ∷ []) ts
ModeAt (AtIs e) k ts = FirstAt e k (is ∷ []) ts
ModeAt (AtIsNot e) k ts = FirstAt e k (is ∷ not ∷ []) ts
ModeAt (AtNot e) k ts = FirstAt e k (not ∷ []) ts
ModeAt (AtIn b e) k ts = FirstAt e k (negation b ++ in_ ∷ []) ts
ModeAt (AtCall x) k ts = With (LevelAt k) (call x ∷ []) ts
ModeAt AtStar k ts = With (LevelAt k) (call count ∷ open_ ∷ product times ∷ []) ts

abbrev pub opening : Opener → Toks
opening Bracket = open_ ∷ []
opening (Calling a) = call a ∷ open_ ∷ []

abbrev pub OuterAt : Outer → Toks → Type 0
OuterAt [] ts = ts ≡ []
OuterAt (x ∷ out) ts = (us : Toks) × (vs : Toks) × OuterAt out us × LevelAt x.1 vs × (ts ≡ us ++ (vs ++ opening x.0))

abbrev pub StateAt : State → Toks → Type 0
StateAt (state m k out) ts = (us : Toks) × (vs : Toks) × OuterAt out us × ModeAt m k vs × (ts ≡ us ++ vs)

abbrev pub Holds : {A : Type 0} → (A → Type 0) → Option A → Type 0
Holds P None = Unit {0}
Holds P (Some x) = P x

pub bind-holds : {A B : Type 0} (P : A → Type 0) (Q : B → Type 0) (x : Option A) (f : A → Option B) → Holds P x → ((a : A) → P a → Holds Q (f a)) → Holds Q (x >>= f)
bind-holds P Q None f h g = tt
bind-holds P Q (Some a) f h g = g a h

-- ---- parts that are put together

abbrev pub FactorIs : Toks → Tree × Level → Type 0
FactorIs ts (e, level o a n p s t []) = Split (TermAt o a n p s t) factor e ts
FactorIs ts _ = ⊥

abbrev pub TermIs : Toks → Tree × Level → Type 0
TermIs ts (e, level o a n p s None []) = Split (SumAt o a n p s) term e ts
TermIs ts _ = ⊥

abbrev pub SumIs : Toks → Tree × Level → Type 0
SumIs ts (e, level o a n p None None []) = Split (PlaceAt o a n p) sums e ts
SumIs ts _ = ⊥

abbrev pub PredIs : Toks → Tree × Level → Type 0
PredIs ts (e, k) = PredAt e k ts

abbrev pub NegIs : Toks → Tree × Level → Type 0
NegIs ts (e, level o a zero First None None []) = Split (AndAt o a) neg e ts
NegIs ts _ = ⊥

abbrev pub ConjIs : Toks → Tree × Level → Type 0
ConjIs ts (e, level o None zero First None None []) = Split (OrAt o) conj e ts
ConjIs ts _ = ⊥

abbrev pub ExprIs : Toks → Tree × Level → Type 0
ExprIs ts (e, level None None zero First None None []) = Spells expr ts e
ExprIs ts _ = ⊥

regroup : (ts us vs a b c : Toks) → ts ≡ us ++ vs → us ≡ a ++ (b ++ c) → ts ≡ a ++ (b ++ (c ++ vs))
regroup ts us vs a b c e f = e ∙ ap (λ l. l ++ vs) f ∙ append_assoc a (b ++ c) vs ∙ ap (λ l. a ++ l) (append_assoc b c vs)

regroup2 : (ts us vs a c : Toks) → ts ≡ us ++ vs → us ≡ a ++ c → ts ≡ a ++ (c ++ vs)
regroup2 ts us vs a c e f = e ∙ ap (λ l. l ++ vs) f ∙ append_assoc a c vs

signs-down : (o a : Option Tree) (n : ℕ) (p : Place) (s : Option (Tree × Sum)) (t : Option (Tree × Product)) (ss : List Sum) (e : Tree) (ts : Toks)
    → Split (SignAt o a n p s t ss) signed e ts → Split (TermAt o a n p s t) factor (signs_of ss e) ts
signs-down o a n p s t [] e ts (us, vs, h, d, q) = (us, vs, h, factor-signed vs e d, q)
signs-down o a n p s t (x ∷ ss) e ts (us, vs, (ws, h, w), d, q) =
    signs-down o a n p s t ss (Sign x e) ts (ws, sum x ∷ vs, h, signed-more x vs e d, regroup2 ts us vs ws (sum x ∷ []) q w)

term-in : (ts : Toks) (x : Tree × Level) → FactorIs ts x → Holds (TermIs ts) (term_in x)
term-in ts (e, level o a n p s None []) (us, vs, h, d, q) = (us, vs, h, term-one vs e d, q)
term-in ts (e, level o a n p s (Some x) []) (us, vs, (us2, vs2, h, f, w), d, q) =
    (us2, vs2 ++ product x.1 ∷ vs, h, term-more x.1 vs2 vs x.0 e f d, regroup ts us vs us2 vs2 (product x.1 ∷ []) q w)
term-in ts (e, level o a n p s t (y ∷ ss)) h = absurd h

sum-in : (ts : Toks) (x : Tree × Level) → TermIs ts x → Holds (SumIs ts) (sum_in x)
sum-in ts (e, level o a n p None None []) (us, vs, h, d, q) = (us, vs, h, sum-one vs e d, q)
sum-in ts (e, level o a n p (Some x) None []) (us, vs, (us2, vs2, h, f, w), d, q) =
    (us2, vs2 ++ sum x.1 ∷ vs, h, sum-more x.1 vs2 vs x.0 e f d, regroup ts us vs us2 vs2 (sum x.1 ∷ []) q w)
sum-in ts (e, level o a n p s (Some x) ss) h = absurd h
sum-in ts (e, level o a n p s None (y ∷ ss)) h = absurd h

-- the operand of a pred: a sum, or a whole pred
abbrev pub OperandIs : Toks → Tree × Level → Type 0
OperandIs ts x = SumIs ts x ⊎ PredIs ts x

pred-sum-in : (ts : Toks) (x : Tree × Level) → SumIs ts x → Holds (PredIs ts) (pred_in x)
pred-sum-in ts (e, level o a n First None None []) (us, vs, h, d, q) = (us, vs, h, pred-one vs e d, q)
pred-sum-in ts (e, level o a n (Right c x) None None []) (us, vs, (us2, vs2, h, f, w), d, q) =
    (us2, vs2 ++ compare c ∷ vs, h, pred-compare c vs2 vs x e f d, regroup ts us vs us2 vs2 (compare c ∷ []) q w)
pred-sum-in ts (e, level o a n (Low b x) None None []) h = tt
pred-sum-in ts (e, level o a n (High b x y) None None []) (us, vs, (us2, vs2, ws2, h, f, g, w), d, q) = (
  us2,
  vs2 ++ negation b ++ between ∷ ws2 ++ and ∷ vs,
  h,
  pred-between b vs2 ws2 vs x y e f g d,
  q ∙ ap (λ l. l ++ vs) w ∙ append_assoc us2 (vs2 ++ negation b ++ between ∷ ws2 ++ and ∷ []) vs ∙ ap (λ l. us2 ++ l) (append_assoc (vs2 ++ negation b ++ between ∷ ws2) (and ∷ []) vs),
)
pred-sum-in ts (e, level o a n (Member b x xs) None None []) h = tt
pred-sum-in ts (e, level o a n p (Some x) t ss) h = absurd h
pred-sum-in ts (e, level o a n p None (Some x) ss) h = absurd h
pred-sum-in ts (e, level o a n p None None (y ∷ ss)) h = absurd h

pred-pred-in : (ts : Toks) (x : Tree × Level) → PredIs ts x → Holds (PredIs ts) (pred_in x)
pred-pred-in ts (e, level o a n First None None []) h = h
pred-pred-in ts (e, level o a n First (Some x) t ss) h = absurd h
pred-pred-in ts (e, level o a n First None (Some x) ss) h = absurd h
pred-pred-in ts (e, level o a n First None None (y ∷ ss)) h = absurd h
pred-pred-in ts (e, level o a n _ s t ss) h = absurd h

pred-in-holds : (ts : Toks) (x : Tree × Level) → OperandIs ts x → Holds (PredIs ts) (pred_in x)
pred-in-holds ts x (inl h) = pred-sum-in ts x h
pred-in-holds ts x (inr h) = pred-pred-in ts x h

nots-down : (o a : Option Tree) (n : ℕ) (e : Tree) (ts : Toks) → Split (NotAt o a n) neg e ts → Split (AndAt o a) neg (nots_of n e) ts
nots-down o a zero e ts h = h
nots-down o a (suc n) e ts (us, vs, (ws, h, w), d, q) = nots-down o a n (Not e) ts (ws, not ∷ vs, h, neg-not vs e d, regroup2 ts us vs ws (not ∷ []) q w)

neg-in : (ts : Toks) (x : Tree × Level) → PredIs ts x → Holds (NegIs ts) (neg_in x)
neg-in ts (e, level o a n First None None []) (us, vs, h, d, q) = nots-down o a n e ts (us, vs, h, neg-one vs e d, q)
neg-in ts (e, level o a n First (Some x) t ss) h = absurd h
neg-in ts (e, level o a n First None (Some x) ss) h = absurd h
neg-in ts (e, level o a n First None None (y ∷ ss)) h = absurd h
neg-in ts (e, level o a n _ s t ss) h = absurd h

conj-in : (ts : Toks) (x : Tree × Level) → NegIs ts x → Holds (ConjIs ts) (conj_in x)
conj-in ts (e, level o None zero First None None []) (us, vs, h, d, q) = (us, vs, h, conj-one vs e d, q)
conj-in ts (e, level o (Some x) zero First None None []) (us, vs, (us2, vs2, h, f, w), d, q) =
    (us2, vs2 ++ and ∷ vs, h, conj-and vs2 vs x e f d, regroup ts us vs us2 vs2 (and ∷ []) q w)
conj-in ts (e, level o a (suc n) p s t ss) h = absurd h
conj-in ts (e, level o a zero First (Some x) t ss) h = absurd h
conj-in ts (e, level o a zero First None (Some x) ss) h = absurd h
conj-in ts (e, level o a zero First None None (y ∷ ss)) h = absurd h
conj-in ts (e, level o a zero _ s t ss) h = absurd h

spelled_as : (p : Part) (ts us : Toks) (e : Tree) → us ≡ ts → Spells p us e → Spells p ts e
spelled_as p ts us e q d = let P : Toks → Type 0 = λ l. Spells p l e in subst P q d

expr-in : (ts : Toks) (x : Tree × Level) → ConjIs ts x → Holds (ExprIs ts) (expr_in x)
expr-in ts (e, level None None zero First None None []) (us, vs, h, d, q) = spelled_as expr ts vs e (sym (q ∙ ap (λ l. l ++ vs) h)) (expr-one vs e d)
expr-in ts (e, level (Some x) None zero First None None []) (us, vs, (us2, f, w), d, q) =
    spelled_as expr ts (us2 ++ or ∷ vs) (Or x e) (sym (regroup2 ts us vs us2 (or ∷ []) q w)) (expr-or us2 vs x e f d)
expr-in ts (e, level o (Some x) n p s t ss) h = absurd h
expr-in ts (e, level o None (suc n) p s t ss) h = absurd h
expr-in ts (e, level o None zero First (Some x) t ss) h = absurd h
expr-in ts (e, level o None zero First None (Some x) ss) h = absurd h
expr-in ts (e, level o None zero First None None (y ∷ ss)) h = absurd h
expr-in ts (e, level o None zero _ s t ss) h = absurd h

-- ---- of what the machine holds

factor-holds : (m : Mode) (k : Level) (ts : Toks) → ModeAt m k ts → Holds (FactorIs ts) (factor_at m k)
factor-holds (Whole e) (level o a n p s t []) ts h = h
factor-holds (Whole e) (level o a n p s t (x ∷ ss)) ts h = signs-down o a n p s t (x ∷ ss) e ts h
factor-holds (Named x) (level o a n p s t ss) ts (w, (us, h, q)) = signs-down o a n p s t ss (Column x) ts (us, name w x ∷ [], h, signed-primary _ _ (primary-column w x), q)
factor-holds _ k ts h = tt

term-holds : (m : Mode) (k : Level) (ts : Toks) → ModeAt m k ts → Holds (TermIs ts) (term_at m k)
term-holds m k ts h = bind-holds (FactorIs ts) (TermIs ts) (factor_at m k) term_in (factor-holds m k ts h) (term-in ts)

sum-holds : (m : Mode) (k : Level) (ts : Toks) → ModeAt m k ts → Holds (SumIs ts) (sum_at m k)
sum-holds m k ts h = bind-holds (TermIs ts) (SumIs ts) (term_at m k) sum_in (term-holds m k ts h) (sum-in ts)

holds-either : (P Q : Tree × Level → Type 0) (x : Option (Tree × Level)) → Holds P x → Holds (λ y. P y ⊎ Q y) x
holds-either P Q None h = tt
holds-either P Q (Some x) h = inl h

operand-holds : (m : Mode) (k : Level) (ts : Toks) → ModeAt m k ts → Holds (OperandIs ts) (operand_at m k)
operand-holds (Tested e) k ts h = inr h
operand-holds (Whole e) k ts h = holds-either (SumIs ts) (PredIs ts) (sum_at (Whole e) k) (sum-holds (Whole e) k ts h)
operand-holds (Named e) k ts h = holds-either (SumIs ts) (PredIs ts) (sum_at (Named e) k) (sum-holds (Named e) k ts h)
operand-holds _ k ts h = tt

conj-of : (ts : Toks) (x : Tree × Level) → OperandIs ts x → Holds (ConjIs ts) (pred_in x >>= neg_in >>= conj_in)
conj-of ts x h =
    bind-holds (NegIs ts) (ConjIs ts) (pred_in x >>= neg_in) conj_in
    (bind-holds (PredIs ts) (NegIs ts) (pred_in x) neg_in (pred-in-holds ts x h) (neg-in ts)) (conj-in ts)

expr-of : (ts : Toks) (x : Tree × Level) → OperandIs ts x → Holds (ExprIs ts) (pred_in x >>= neg_in >>= conj_in >>= expr_in)
expr-of ts x h = bind-holds (ConjIs ts) (ExprIs ts) (pred_in x >>= neg_in >>= conj_in) expr_in (conj-of ts x h) (expr-in ts)

expr-holds : (m : Mode) (k : Level) (ts : Toks) → ModeAt m k ts → Holds (ExprIs ts) (expr_at m k)
expr-holds m k ts h = go (operand_at m k) (operand-holds m k ts h)
  where
    go : (x : Option (Tree × Level)) → Holds (OperandIs ts) x → Holds (ExprIs ts) (x >>= pred_in >>= neg_in >>= conj_in >>= expr_in)
    go None h = tt
    go (Some x) h = expr-of ts x h

-- ---- one token

snoc : (ts us vs tail : Toks) → ts ≡ us ++ vs → ts ++ tail ≡ us ++ (vs ++ tail)
snoc ts us vs tail q = ap (λ l. l ++ tail) q ∙ append_assoc us vs tail

-- the machine took t behind vs, and us came before this level
abbrev Took : Toks → Toks → Token → State → Type 0
Took us vs t y = StateAt y (us ++ (vs ++ t ∷ []))

product-took : (x : Product) (out : Outer) (us vs : Toks) (r : Tree × Level) → OuterAt out us → TermIs vs r → Holds (Took us vs (product x)) (behind_product x out r)
product-took x out us vs (e, level o a n p s None []) H (us2, vs2, h, d, q) = (us, vs ++ product x ∷ [], H, (us2, vs2, h, d, snoc vs us2 vs2 (product x ∷ []) q), refl)
product-took x out us vs (e, level o a n p s (Some y) ss) H h = absurd h
product-took x out us vs (e, level o a n p s None (y ∷ ss)) H h = absurd h

sum-took : (x : Sum) (out : Outer) (us vs : Toks) (r : Tree × Level) → OuterAt out us → SumIs vs r → Holds (Took us vs (sum x)) (behind_sum x out r)
sum-took x out us vs (e, level o a n p None None []) H (us2, vs2, h, d, q) = (us, vs ++ sum x ∷ [], H, (us2, vs2, h, d, snoc vs us2 vs2 (sum x ∷ []) q), refl)
sum-took x out us vs (e, level o a n p (Some y) t ss) H h = absurd h
sum-took x out us vs (e, level o a n p None (Some y) ss) H h = absurd h
sum-took x out us vs (e, level o a n p None None (y ∷ ss)) H h = absurd h

-- the first sum of a pred
abbrev FirstIs : Toks → Tree × Level → Type 0
FirstIs ts (e, level o a n First None None []) = Split (NotAt o a n) sums e ts
FirstIs ts _ = ⊥

first-in : (vs : Toks) (r : Tree × Level) → SumIs vs r → Holds (FirstIs vs) (first_in r)
first-in vs (e, level o a n First None None []) h = h
first-in vs (e, level o a n First (Some y) t ss) h = absurd h
first-in vs (e, level o a n First None (Some y) ss) h = absurd h
first-in vs (e, level o a n First None None (y ∷ ss)) h = absurd h
first-in vs (e, level o a n _ s t ss) h = tt

first-holds : (m : Mode) (k : Level) (ts : Toks) → ModeAt m k ts → Holds (FirstIs ts) (first_at m k)
first-holds m k ts h = bind-holds (SumIs ts) (FirstIs ts) (sum_at m k) first_in (sum-holds m k ts h) (first-in ts)

-- a token behind the first sum, which leads to f
first-took : (t : Token) (f : Tree × Level → State) (m : Mode) (k : Level) (us vs : Toks) → ModeAt m k vs
    → ((e : Tree) (o a : Option Tree) (n : ℕ) → FirstAt e (level o a n First None None []) (t ∷ []) (vs ++ t ∷ []) → StateAt (f (e, level o a n First None None [])) (us ++ (vs ++ t ∷ [])))
    → Holds (Took us vs t) (first_at m k >>= λ x. Some (f x))
first-took t f m k us vs h g = bind-holds (FirstIs vs) (Took us vs t) (first_at m k) (λ x. Some (f x)) (first-holds m k vs h) go
  where
    go : (r : Tree × Level) → FirstIs vs r → Took us vs t (f r)
    go (e, level o a n First None None []) (us2, vs2, w, d, q) = g e o a n (us2, vs2, w, d, snoc vs us2 vs2 (t ∷ []) q)
    go (e, level o a n First (Some y) t2 ss) w = absurd w
    go (e, level o a n First None (Some y) ss) w = absurd w
    go (e, level o a n First None None (y ∷ ss)) w = absurd w
    go (e, level o a n _ s t2 ss) w = absurd w

and-conj-took : (out : Outer) (us vs : Toks) (r : Tree × Level) → OuterAt out us → ConjIs vs r → Holds (Took us vs and) (behind_and out r)
and-conj-took out us vs (e, level o None zero First None None []) H (us2, vs2, h, d, q) = (us, vs ++ and ∷ [], H, (us2, vs2, h, d, snoc vs us2 vs2 (and ∷ []) q), refl)
and-conj-took out us vs (e, level o (Some x) n p s t ss) H h = absurd h
and-conj-took out us vs (e, level o None (suc n) p s t ss) H h = absurd h
and-conj-took out us vs (e, level o None zero First (Some x) t ss) H h = absurd h
and-conj-took out us vs (e, level o None zero First None (Some x) ss) H h = absurd h
and-conj-took out us vs (e, level o None zero First None None (y ∷ ss)) H h = absurd h
and-conj-took out us vs (e, level o None zero _ s t ss) H h = absurd h

high-spelled : (b : Bool) (ts us vs us2 vs2 : Toks) → ts ≡ us ++ vs → us ≡ us2 ++ (vs2 ++ (negation b ++ between ∷ [])) → ts ++ and ∷ [] ≡ us2 ++ (vs2 ++ negation b ++ between ∷ vs ++ and ∷ [])
high-spelled b ts us vs us2 vs2 q w = ap (λ l. l ++ and ∷ []) (q ∙ ap (λ l. l ++ vs) w) ∙ simp (append_assoc) refl

-- AND behind a sum or a pred
and-took : (out : Outer) (us vs : Toks) (r : Tree × Level) → OuterAt out us → OperandIs vs r → Holds (Took us vs and) (and_in out r)
and-took out us vs (e, level o a n (Low b x) None None []) H (inl (us2, vs2, (us3, vs3, h, f, w), d, q)) =
    (us, vs ++ and ∷ [], H, (us3, vs3, vs2, h, f, d, high-spelled b vs us2 vs2 us3 vs3 q w), refl)
and-took out us vs (e, level o a n (Low b x) (Some y) t ss) H (inl h) = absurd h
and-took out us vs (e, level o a n (Low b x) None (Some y) ss) H (inl h) = absurd h
and-took out us vs (e, level o a n (Low b x) None None (y ∷ ss)) H (inl h) = absurd h
and-took out us vs (e, level o a n (Low b x) s t ss) H (inr h) = absurd h
and-took out us vs (e, level o a n p s t ss) H h =
    bind-holds (ConjIs vs) (Took us vs and) (pred_in (e, level o a n p s t ss) >>= neg_in >>= conj_in) (behind_and out) (conj-of vs (e, level o a n p s t ss) h) (λ r c. and-conj-took out us vs r H c)

or-took : (out : Outer) (us vs : Toks) (r : Tree × Level) → OuterAt out us → ExprIs vs r → Holds (Took us vs or) (behind_or out r)
or-took out us vs (e, level None None zero First None None []) H h = (us, vs ++ or ∷ [], H, (vs, h, refl), refl)
or-took out us vs (e, level (Some x) a n p s t ss) H h = absurd h
or-took out us vs (e, level None (Some x) n p s t ss) H h = absurd h
or-took out us vs (e, level None None (suc n) p s t ss) H h = absurd h
or-took out us vs (e, level None None zero First (Some x) t ss) H h = absurd h
or-took out us vs (e, level None None zero First None (Some x) ss) H h = absurd h
or-took out us vs (e, level None None zero First None None (y ∷ ss)) H h = absurd h
or-took out us vs (e, level None None zero _ s t ss) H h = absurd h

first-member : (b : Bool) (vs us2 vs2 us3 vs3 : Toks) → vs ≡ us2 ++ vs2 → us2 ≡ us3 ++ (vs3 ++ (negation b ++ in_ ∷ open_ ∷ [])) → vs ≡ us3 ++ (vs3 ++ negation b ++ in_ ∷ open_ ∷ vs2)
first-member b vs us2 vs2 us3 vs3 q w = q ∙ ap (λ l. l ++ vs2) w ∙ simp (append_assoc) refl

-- the members so far
member-holds : (o a : Option Tree) (n : ℕ) (b : Bool) (x : Tree) (xs : Trees) (e : Tree) (vs : Toks) → Split (PlaceAt o a n (Member b x xs)) sums e vs → Split (NotAt o a n) members (In b x (with xs e)) vs
member-holds o a n b x none e vs (us2, vs2, (us3, vs3, h, f, w), d, q) = (us3, vs3 ++ negation b ++ in_ ∷ open_ ∷ vs2, h, members-first b vs3 vs2 x e f d, first-member b vs us2 vs2 us3 vs3 q w)
member-holds o a n b x (with xs y) e vs (us2, vs2, (us3, vs3, h, f, w), d, q) = (us3, vs3 ++ comma ∷ vs2, h, members-more b vs3 vs2 x e (with xs y) f d, regroup vs us2 vs2 us3 vs3 (comma ∷ []) q w)

more-took : (out : Outer) (us vs : Toks) (r : Tree × Level) → OuterAt out us → SumIs vs r → Holds (Took us vs comma) (more_in out r)
more-took out us vs (e, level o a n (Member b x xs) None None []) H h =
    let (us2, vs2, g, d, q) = member-holds o a n b x xs e vs h in (us, vs ++ comma ∷ [], H, (us2, vs2, g, d, snoc vs us2 vs2 (comma ∷ []) q), refl)
more-took out us vs (e, level o a n (Member b x xs) (Some y) t ss) H h = absurd h
more-took out us vs (e, level o a n (Member b x xs) None (Some y) ss) H h = absurd h
more-took out us vs (e, level o a n (Member b x xs) None None (y ∷ ss)) H h = absurd h
more-took out us vs (e, level o a n _ s t ss) H h = tt

-- ---- brackets and operands

whole-signed : (e : Tree) (k : Level) (us ws ts : Toks) → LevelAt k us → Spells signed ws e → ts ≡ us ++ ws → WholeAt e k ts
whole-signed e (level o a n p s t []) us ws ts h d q = (us, ws, h, factor-signed ws e d, q)
whole-signed e (level o a n p s t (x ∷ ss)) us ws ts h d q = (us, ws, h, d, q)

whole-primary : (e : Tree) (k : Level) (us ws : Toks) → LevelAt k us → Spells primary ws e → WholeAt e k (us ++ ws)
whole-primary e k us ws h d = whole-signed e k us ws (us ++ ws) h (signed-primary ws e d) refl

opened : (x : Opener) (vs : Toks) (e : Tree) → Spells expr vs e → Spells primary (opening x ++ (vs ++ close ∷ [])) (opened_of x e)
opened Bracket vs e d = primary-brackets vs e d
opened (Calling a) vs e d = primary-call a vs e d

close-out : (out : Outer) (us vs : Toks) (e : Tree) → OuterAt out us → Spells expr vs e → Holds (Took us vs close) (close_out out e)
close-out [] us vs e H d = tt
close-out (x ∷ out) us vs e (us2, vs2, H, h, q) d = (
  us2,
  vs2 ++ (opening x.0 ++ (vs ++ close ∷ [])),
  H,
  whole-primary (opened_of x.0 e) x.1 vs2 (opening x.0 ++ (vs ++ close ∷ [])) h (opened x.0 vs e d),
  regroup (us ++ (vs ++ close ∷ [])) us (vs ++ close ∷ []) us2 vs2 (opening x.0) refl q,
)

close-expr : (out : Outer) (us vs : Toks) (r : Tree × Level) → OuterAt out us → ExprIs vs r → Holds (Took us vs close) (close_out out r.0)
close-expr out us vs (e, level None None zero First None None []) H h = close-out out us vs e H h
close-expr out us vs (e, level (Some x) a n p s t ss) H h = absurd h
close-expr out us vs (e, level None (Some x) n p s t ss) H h = absurd h
close-expr out us vs (e, level None None (suc n) p s t ss) H h = absurd h
close-expr out us vs (e, level None None zero First (Some x) t ss) H h = absurd h
close-expr out us vs (e, level None None zero First None (Some x) ss) H h = absurd h
close-expr out us vs (e, level None None zero First None None (y ∷ ss)) H h = absurd h
close-expr out us vs (e, level None None zero _ s t ss) H h = absurd h

close-took : (out : Outer) (us vs : Toks) (r : Tree × Level) → OuterAt out us → OperandIs vs r → Holds (Took us vs close) (close_in out r)
close-took out us vs (e, level o a n (Member b x xs) None None []) H (inl h) =
    let (us2, vs2, g, d, q) = member-holds o a n b x xs e vs h in
    (us, vs ++ close ∷ [], H, (us2, vs2 ++ close ∷ [], g, pred-in vs2 (In b x (with xs e)) d, snoc vs us2 vs2 (close ∷ []) q), refl)
close-took out us vs (e, level o a n (Member b x xs) (Some y) t ss) H (inl h) = absurd h
close-took out us vs (e, level o a n (Member b x xs) None (Some y) ss) H (inl h) = absurd h
close-took out us vs (e, level o a n (Member b x xs) None None (y ∷ ss)) H (inl h) = absurd h
close-took out us vs (e, level o a n (Member b x xs) s t ss) H (inr h) = absurd h
close-took out us vs (e, level o a n p s t ss) H h =
    bind-holds (ExprIs vs) (Took us vs close) (pred_in (e, level o a n p s t ss) >>= neg_in >>= conj_in >>= expr_in) (λ x. close_out out x.0) (expr-of vs (e, level o a n p s t ss) h) (λ r c. close-expr out us vs r H c)

behind-holds : (t : Token) (m : Mode) (k : Level) (out : Outer) (us vs : Toks) → OuterAt out us → ModeAt m k vs → Holds (Took us vs t) (behind t m k out)
behind-holds (product x) m k out us vs H h = bind-holds (TermIs vs) (Took us vs (product x)) (term_at m k) (behind_product x out) (term-holds m k vs h) (λ r. product-took x out us vs r H)
behind-holds (sum x) m k out us vs H h = bind-holds (SumIs vs) (Took us vs (sum x)) (sum_at m k) (behind_sum x out) (sum-holds m k vs h) (λ r. sum-took x out us vs r H)
behind-holds (compare c) m k out us vs H h = first-took (compare c) (λ x. state Operand (placed x.1 (Right c x.0)) out) m k us vs h (λ e o a n g. (us, vs ++ compare c ∷ [], H, g, refl))
behind-holds is m k out us vs H h = first-took is (λ x. state (AtIs x.0) x.1 out) m k us vs h (λ e o a n g. (us, vs ++ is ∷ [], H, g, refl))
behind-holds not m k out us vs H h = first-took not (λ x. state (AtNot x.0) x.1 out) m k us vs h (λ e o a n g. (us, vs ++ not ∷ [], H, g, refl))
behind-holds between m k out us vs H h = first-took between (λ x. state Operand (placed x.1 (Low false x.0)) out) m k us vs h (λ e o a n g. (us, vs ++ between ∷ [], H, g, refl))
behind-holds in_ m k out us vs H h = first-took in_ (λ x. state (AtIn false x.0) x.1 out) m k us vs h (λ e o a n g. (us, vs ++ in_ ∷ [], H, g, refl))
behind-holds and m k out us vs H h = bind-holds (OperandIs vs) (Took us vs and) (operand_at m k) (and_in out) (operand-holds m k vs h) (λ r. and-took out us vs r H)
behind-holds or m k out us vs H h = bind-holds (ExprIs vs) (Took us vs or) (expr_at m k) (behind_or out) (expr-holds m k vs h) (λ r. or-took out us vs r H)
behind-holds comma m k out us vs H h = bind-holds (SumIs vs) (Took us vs comma) (sum_at m k) (more_in out) (sum-holds m k vs h) (λ r. more-took out us vs r H)
behind-holds close m k out us vs H h = bind-holds (OperandIs vs) (Took us vs close) (operand_at m k) (close_in out) (operand-holds m k vs h) (λ r. close-took out us vs r H)
behind-holds _ m k out us vs H h = tt

negated-holds : (k : Level) (out : Outer) (us vs : Toks) → OuterAt out us → LevelAt k vs → Holds (Took us vs not) (negated k out)
negated-holds (level o a n First None None []) out us vs H h = (us, vs ++ not ∷ [], H, (vs, h, refl), refl)
negated-holds (level o a n First (Some y) t ss) out us vs H h = tt
negated-holds (level o a n First None (Some y) ss) out us vs H h = tt
negated-holds (level o a n First None None (y ∷ ss)) out us vs H h = tt
negated-holds (level o a n _ s t ss) out us vs H h = tt

number-holds : (x : ℕ) (k : Level) (out : Outer) (us vs : Toks) → OuterAt out us → LevelAt k vs → Took us vs (number x) (number_step x k out)
number-holds x (level o a n p s t []) out us vs H h = (us, vs ++ number x ∷ [], H, (vs, number x ∷ [], h, factor-number x, refl), refl)
number-holds x (level o a n p s t (y ∷ ss)) out us vs H (us2, h, q) =
    (us, vs ++ number x ∷ [], H, whole-signed (Number y x) (level o a n p s t ss) us2 (sum y ∷ number x ∷ []) (vs ++ number x ∷ []) h (signed-number y x) (snoc vs us2 (sum y ∷ []) (number x ∷ []) q), refl)

huge-holds : (k : Level) (out : Outer) (us vs : Toks) → OuterAt out us → LevelAt k vs → Holds (Took us vs huge) (huge_step k out)
huge-holds (level o a n p s t (minus ∷ ss)) out us vs H (us2, h, q) =
    (us, vs ++ huge ∷ [], H, whole-signed (Number minus (2 ^ 63)) (level o a n p s t ss) us2 (sum minus ∷ huge ∷ []) (vs ++ huge ∷ []) h signed-huge (snoc vs us2 (sum minus ∷ []) (huge ∷ []) q), refl)
huge-holds (level o a n p s t []) out us vs H h = tt
huge-holds (level o a n p s t (plus ∷ ss)) out us vs H h = tt

star-holds : (x : Product) (k : Level) (out : Outer) (us vs : Toks) → OuterAt out us → LevelAt k vs → Holds (Took us vs (product x)) (star_step x k out)
star-holds times (level None None zero First None None []) ((Calling count, k) ∷ out) us vs (us2, vs2, H, g, q) h = (
  us2,
  vs2 ++ (call count ∷ open_ ∷ product times ∷ []),
  H,
  (vs2, g, refl),
  ap (λ l. us ++ (l ++ product times ∷ [])) h ∙ regroup (us ++ (product times ∷ [])) us (product times ∷ []) us2 vs2 (call count ∷ open_ ∷ []) refl q,
)
star-holds _ _ _ us vs H h = tt

operand-took : (t : Token) (k : Level) (out : Outer) (us vs : Toks) → OuterAt out us → LevelAt k vs → Holds (Took us vs t) (operand t k out)
operand-took not k out us vs H h = negated-holds k out us vs H h
operand-took (sum x) (level o a n p s t ss) out us vs H h = (us, vs ++ sum x ∷ [], H, (vs, h, refl), refl)
operand-took (number x) k out us vs H h = number-holds x k out us vs H h
operand-took huge k out us vs H h = huge-holds k out us vs H h
operand-took (text x) k out us vs H h = (us, vs ++ text x ∷ [], H, whole-primary (Text x) k vs (text x ∷ []) h (primary-text x), refl)
operand-took (truth x) k out us vs H h = (us, vs ++ truth x ∷ [], H, whole-primary (Truth x) k vs (truth x ∷ []) h (primary-truth x), refl)
operand-took (name w x) k out us vs H h = (us, vs ++ name w x ∷ [], H, (w, (vs, h, refl)), refl)
operand-took open_ k out us vs H h = (us ++ (vs ++ open_ ∷ []), [], (us, vs, H, h, refl), refl, sym (append-nil _))
operand-took (call x) k out us vs H h = (us, vs ++ call x ∷ [], H, (vs, h, refl), refl)
operand-took (product x) k out us vs H h = star-holds x k out us vs H h
operand-took _ k out us vs H h = tt

-- what is known behind a first sum gives f, at each level
pub by-first : (P : Level → Type 0) (e : Tree) (k : Level) (tail vs : Toks) → FirstAt e k tail vs
    → ((o a : Option Tree) (n : ℕ) → Behind (NotAt o a n) sums e tail vs → P (level o a n First None None [])) → P k
by-first P e (level o a n First None None []) tail vs h f = f o a n h
by-first P e (level o a n First (Some y) t ss) tail vs h f = absurd h
by-first P e (level o a n First None (Some y) ss) tail vs h f = absurd h
by-first P e (level o a n First None None (y ∷ ss)) tail vs h f = absurd h
by-first P e (level o a n _ s t ss) tail vs h f = absurd h

longer : (Q : Toks → Type 0) (e : Tree) (tail more vs : Toks) → Behind Q sums e tail vs → Behind Q sums e (tail ++ more) (vs ++ more)
longer Q e tail more vs (us2, vs2, h, d, q) = (us2, vs2, h, d, snoc vs us2 (vs2 ++ tail) more q ∙ ap (λ l. us2 ++ l) (append_assoc vs2 tail more))

at-first : (t : Token) (e : Tree) (k : Level) (out : Outer) (tail us vs : Toks) (f : Level → State) → FirstAt e k tail vs
    → ((o a : Option Tree) (n : ℕ) → Behind (NotAt o a n) sums e (tail ++ t ∷ []) (vs ++ t ∷ []) → Took us vs t (f (level o a n First None None []))) → Took us vs t (f k)
at-first t e k out tail us vs f h g = by-first (λ k. Took us vs t (f k)) e k tail vs h (λ o a n w. g o a n (longer (NotAt o a n) e tail (t ∷ []) vs w))

null-spelled : (b : Bool) (Q : Toks → Type 0) (e : Tree) (ts : Toks) → Behind Q sums e (is ∷ (negation b ++ null ∷ [])) ts → Split Q pred (IsNull b e) ts
null-spelled b Q e ts (us, vs, h, d, q) = (us, vs ++ is ∷ (negation b ++ null ∷ []), h, pred-null b vs e d, q)

named-holds : (t : Token) (x : List ℕ) (k : Level) (out : Outer) (us vs : Toks) → OuterAt out us → ModeAt (Named x) k vs → Holds (Took us vs t) (named t x k out)
named-holds dot x k out us vs H (w, (us2, h, q)) = (us, vs ++ dot ∷ [], H, (w, (us2, h, snoc vs us2 (name w x ∷ []) (dot ∷ []) q)), refl)
named-holds t x k out us vs H h = behind-holds t (Named x) k out us vs H h

dotted-holds : (t : Token) (x : List ℕ) (k : Level) (out : Outer) (us vs : Toks) → OuterAt out us → ModeAt (Dotted x) k vs → Holds (Took us vs t) (dotted t x k out)
dotted-holds (name w y) x k out us vs H (v, (us2, h, q)) =
    (us, vs ++ name w y ∷ [], H, whole-signed (ColumnOf x y) k us2 (name v x ∷ dot ∷ name w y ∷ []) (vs ++ name w y ∷ []) h (signed-primary _ _ (primary-column_of v w x y)) (snoc vs us2 (name v x ∷ dot ∷ []) (name w y ∷ []) q), refl)
dotted-holds _ x k out us vs H h = tt

is-holds : (t : Token) (e : Tree) (k : Level) (out : Outer) (us vs : Toks) → OuterAt out us → ModeAt (AtIs e) k vs → Holds (Took us vs t) (at_is t e k out)
is-holds null e k out us vs H h = at-first null e k out (is ∷ []) us vs (λ k. state (Tested (IsNull false e)) k out) h (λ o a n w. (us, vs ++ null ∷ [], H, null-spelled false (NotAt o a n) e (vs ++ null ∷ []) w, refl))
is-holds not e k out us vs H h = at-first not e k out (is ∷ []) us vs (λ k. state (AtIsNot e) k out) h (λ o a n w. (us, vs ++ not ∷ [], H, w, refl))
is-holds _ e k out us vs H h = tt

is_not-holds : (t : Token) (e : Tree) (k : Level) (out : Outer) (us vs : Toks) → OuterAt out us → ModeAt (AtIsNot e) k vs → Holds (Took us vs t) (at_is_not t e k out)
is_not-holds null e k out us vs H h = at-first null e k out (is ∷ not ∷ []) us vs (λ k. state (Tested (IsNull true e)) k out) h (λ o a n w. (us, vs ++ null ∷ [], H, null-spelled true (NotAt o a n) e (vs ++ null ∷ []) w, refl))
is_not-holds _ e k out us vs H h = tt

not-holds : (t : Token) (e : Tree) (k : Level) (out : Outer) (us vs : Toks) → OuterAt out us → ModeAt (AtNot e) k vs → Holds (Took us vs t) (at_not t e k out)
not-holds between e k out us vs H h = at-first between e k out (not ∷ []) us vs (λ k. state Operand (placed k (Low true e)) out) h (λ o a n w. (us, vs ++ between ∷ [], H, w, refl))
not-holds in_ e k out us vs H h = at-first in_ e k out (not ∷ []) us vs (λ k. state (AtIn true e) k out) h (λ o a n w. (us, vs ++ in_ ∷ [], H, w, refl))
not-holds _ e k out us vs H h = tt

in-holds : (t : Token) (b : Bool) (e : Tree) (k : Level) (out : Outer) (us vs : Toks) → OuterAt out us → ModeAt (AtIn b e) k vs → Holds (Took us vs t) (at_in t b e k out)
in-holds open_ true e k out us vs H h = at-first open_ e k out (not ∷ in_ ∷ []) us vs (λ k. state Operand (placed k (Member true e none)) out) h (λ o a n w. (us, vs ++ open_ ∷ [], H, w, refl))
in-holds open_ false e k out us vs H h = at-first open_ e k out (in_ ∷ []) us vs (λ k. state Operand (placed k (Member false e none)) out) h (λ o a n w. (us, vs ++ open_ ∷ [], H, w, refl))
in-holds _ b e k out us vs H h = tt

call-holds : (t : Token) (x : Aggregate) (k : Level) (out : Outer) (us vs : Toks) → OuterAt out us → ModeAt (AtCall x) k vs → Holds (Took us vs t) (at_call t x k out)
call-holds open_ x k out us vs H (us2, h, q) = (us ++ (vs ++ open_ ∷ []), [], (us, us2, H, h, ap (λ l. us ++ l) (snoc vs us2 (call x ∷ []) (open_ ∷ []) q)), refl, sym (append-nil _))
call-holds _ x k out us vs H h = tt

star-closed : (t : Token) (k : Level) (out : Outer) (us vs : Toks) → OuterAt out us → ModeAt AtStar k vs → Holds (Took us vs t) (at_star t k out)
star-closed close k out us vs H (us2, h, q) = (
  us,
  vs ++ close ∷ [],
  H,
  whole-signed CountAll k us2 (call count ∷ open_ ∷ product times ∷ close ∷ []) (vs ++ close ∷ []) h (signed-primary _ _ primary-count_all)
      (snoc vs us2 (call count ∷ open_ ∷ product times ∷ []) (close ∷ []) q),
  refl,
)
star-closed _ k out us vs H h = tt

step-took : (t : Token) (m : Mode) (k : Level) (out : Outer) (us vs : Toks) → OuterAt out us → ModeAt m k vs → Holds (Took us vs t) (step (state m k out) t)
step-took t Operand k out us vs H h = operand-took t k out us vs H h
step-took t (Whole e) k out us vs H h = behind-holds t (Whole e) k out us vs H h
step-took t (Tested e) k out us vs H h = behind-holds t (Tested e) k out us vs H h
step-took t (Named x) k out us vs H h = named-holds t x k out us vs H h
step-took t (Dotted x) k out us vs H h = dotted-holds t x k out us vs H h
step-took t (AtIs e) k out us vs H h = is-holds t e k out us vs H h
step-took t (AtIsNot e) k out us vs H h = is_not-holds t e k out us vs H h
step-took t (AtNot e) k out us vs H h = not-holds t e k out us vs H h
step-took t (AtIn b e) k out us vs H h = in-holds t b e k out us vs H h
step-took t (AtCall x) k out us vs H h = call-holds t x k out us vs H h
step-took t AtStar k out us vs H h = star-closed t k out us vs H h

state-as : (y : State) (ts us : Toks) → ts ≡ us → StateAt y us → StateAt y ts
state-as y ts us e h = let P : Toks → Type 0 = λ l. StateAt y l in subst P (sym e) h

pub step-holds : (x : State) (t : Token) (ts : Toks) → StateAt x ts → Holds (λ y. StateAt y (ts ++ t ∷ [])) (step x t)
step-holds (state m k out) t ts (us, vs, H, h, q) = go (step (state m k out) t) (step-took t m k out us vs H h)
  where
    go : (y : Option State) → Holds (Took us vs t) y → Holds (λ y. StateAt y (ts ++ t ∷ [])) y
    go None h = tt
    go (Some y) h = state-as y (ts ++ t ∷ []) (us ++ (vs ++ t ∷ [])) (snoc ts us vs (t ∷ []) q) h

pub run-holds : (x : State) (ts us : Toks) → StateAt x ts → Holds (λ y. StateAt y (ts ++ us)) (run x us)
run-holds x ts [] h = state-as x (ts ++ []) ts (append-nil ts) h
run-holds x ts (t ∷ us) h = bind-holds (λ y. StateAt y (ts ++ t ∷ [])) (λ y. StateAt y (ts ++ t ∷ us)) (step x t) (λ y. run y us) (step-holds x t ts h) (λ y g. again y (run-holds y (ts ++ t ∷ []) us g))
  where
    again : (y : State) → Holds (λ z. StateAt z (ts ++ t ∷ [] ++ us)) (run y us) → Holds (λ z. StateAt z (ts ++ t ∷ us)) (run y us)
    again y g = let P : Toks → Type 0 = λ l. Holds (λ z. StateAt z l) (run y us) in subst P (append_assoc ts (t ∷ []) us) g

pub start-holds : StateAt start []
start-holds = ([], [], refl, refl, refl)

ended-holds : (x : State) (ts : Toks) → StateAt x ts → Holds (λ e. Spells expr ts e) (ended x)
ended-holds (state m k []) ts (us, vs, H, h, q) =
    bind-holds (ExprIs vs) (λ e. Spells expr ts e) (expr_at m k) (λ x. Some x.0) (expr-holds m k vs h) (λ r g. spelled_as expr ts vs r.0 (sym (q ∙ ap (λ l. l ++ vs) H)) (of_expr r vs g))
  where
    of_expr : (r : Tree × Level) (vs : Toks) → ExprIs vs r → Spells expr vs r.0
    of_expr (e, level None None zero First None None []) vs h = h
    of_expr (e, level (Some x) a n p s t ss) vs h = absurd h
    of_expr (e, level None (Some x) n p s t ss) vs h = absurd h
    of_expr (e, level None None (suc n) p s t ss) vs h = absurd h
    of_expr (e, level None None zero First (Some x) t ss) vs h = absurd h
    of_expr (e, level None None zero First None (Some x) ss) vs h = absurd h
    of_expr (e, level None None zero First None None (y ∷ ss)) vs h = absurd h
    of_expr (e, level None None zero _ s t ss) vs h = absurd h
ended-holds (state m k (x ∷ out)) ts h = tt

-- what is read is spelled so
pub spelled-read : (ts : Toks) (e : Tree) → (run start ts >>= ended) ≡ Some e → Spells expr ts e
spelled-read ts e q = let P : Option Tree → Type 0 = Holds (λ e. Spells expr ts e) in
    subst P q (bind-holds (λ y. StateAt y ts) (λ e. Spells expr ts e) (run start ts) ended (run-holds start [] ts start-holds) (λ y h. ended-holds y ts h))

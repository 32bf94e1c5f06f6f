-- What the grammar spells, the machine reads.
use Rattle.std.proofs.Common.{◌≡◌, ℕ, suc, List, [], ◌∷◌, ◌++◌, Bool, true, false, Option, Some, None, refl, ap, subst, ◌∙◌, append_assoc, append-nil, ◌^◌}
use Rattle.std.proofs.lemmas.Option.{none-some}
use Rattle.sql_grammar.specs.Syntax.{Sum, plus, minus, Product, times, Comparison, Aggregate, count, Trees, none, with, Part, expr, conj, neg, pred, members, sums, term, factor, signed, primary, Token, Tree, or, and, not, is, null, between, in_, dot, open_, close, comma, huge, compare, sum, product, call, number, text, truth, name, Or, And, Not, Compare, IsNull, Between, In, Add, Multiply, Sign, Number, Text, Truth, Column, ColumnOf, Brackets, CountAll, Call, negation, Spells, expr-one, expr-or, conj-one, conj-and, neg-one, neg-not, pred-one, pred-compare, pred-null, pred-between, pred-in, members-first, members-more, sum-one, sum-more, term-one, term-more, factor-number, factor-signed, signed-number, signed-huge, signed-more, signed-primary, primary-text, primary-truth, primary-column, primary-column_of, primary-brackets, primary-count_all, primary-call}
use Rattle.sql_grammar.specs.Machine.{◌>>=◌, Place, First, Right, Low, High, Member, Level, level, Bracket, Calling, Mode, Operand, Whole, Tested, Named, AtIs, AtNot, AtIn, AtCall, State, state, fresh, signs_of, nots_of, whole_of, primary_at, signs_in, factor_at, term_in, term_at, sum_in, sum_at, pred_in, operand_at, pred_at, and_in, more_in, close_in, close_out, behind_and, behind_or, behind_sum, behind_product, neg_in, neg_at, conj_in, conj_at, expr_in, expr_at, Outer, behind, named, step, run, ended, start, placed, first_in}

onward : (y : Option State) (ts us : List Token) → ((z : State) → run z (ts ++ us) ≡ (run z ts >>= λ y. run y us))
    → (y >>= λ z. run z (ts ++ us)) ≡ ((y >>= λ z. run z ts) >>= λ z. run z us)
onward None ts us f = refl
onward (Some y) ts us f = f y

pub run-append : (x : State) (ts us : List Token) → run x (ts ++ us) ≡ (run x ts >>= λ y. run y us)
run-append x [] us = refl
run-append x (t ∷ ts) us = onward (step x t) ts us (λ z. run-append z ts us)

pub run-then : (x y : State) (ts us : List Token) → run x ts ≡ Some y → run x (ts ++ us) ≡ run y us
run-then x y ts us e = run-append x ts us ∙ ap (λ r. r >>= λ z. run z us) e

pub step-then : (x y : State) (t : Token) (us : List Token) → step x t ≡ Some y → run x (t ∷ us) ≡ run y us
step-then x y t us e = ap (λ r. r >>= λ z. run z us) e

pub bind_some : {A B : Type 0} (x : Option A) (f : A → Option B) (y : B) → (x >>= f) ≡ Some y → (a : A) × (x ≡ Some a) × (f a ≡ Some y)
bind_some None f y e = absurd (none-some y e)
bind_some (Some a) f y e = (a, refl, e)

-- from the level k the machine reads ts, and then `at` gives r
pub record Reads (at : Mode → Level → Option (Tree × Level)) (k : Level) (ts : List Token) (r : Tree × Level) : Type 0 where
  pub mode : Mode
  pub lvl : Level
  pub runs : (out : Outer) → run (state Operand k out) ts ≡ Some (state mode lvl out)
  pub gives : at mode lvl ≡ Some r

abbrev pub IsReading : Mode → Type 0
IsReading (Whole e) = Unit {0}
IsReading (Tested e) = Unit {0}
IsReading (Named x) = Unit {0}
IsReading _ = ⊥

-- what was read whole, in any sense
reading-whole : (m : Mode) (e : Tree) → whole_of m ≡ Some e → IsReading m
reading-whole (Whole x) e h = tt
reading-whole (Named x) e h = tt
reading-whole (Tested x) e h = tt
reading-whole _ e h = absurd (none-some e h)

reading-sum : (m : Mode) (k : Level) (r : Tree × Level) → sum_at m k ≡ Some r → IsReading m
reading-sum (Whole x) k r h = tt
reading-sum (Named x) k r h = tt
reading-sum (Tested x) k r h = tt
reading-sum _ (level o a n p s t ss) r h = absurd (none-some r h)

reading-operand : (m : Mode) (k : Level) (r : Tree × Level) → operand_at m k ≡ Some r → IsReading m
reading-operand (Whole x) k r h = tt
reading-operand (Named x) k r h = tt
reading-operand (Tested x) k r h = tt
reading-operand _ (level o a n p s t ss) r h = absurd (none-some r h)

-- a token that is taken behind what was read, whatever it was
abbrev pub IsBehind : Token → Type 0
IsBehind t = (x : List ℕ) (k : Level) (out : Outer) → named t x k out ≡ behind t (Named x) k out

step-behind : (t : Token) → IsBehind t → (m : Mode) (k : Level) (out : Outer) → IsReading m → step (state m k out) t ≡ behind t m k out
step-behind t b (Whole x) k out h = refl
step-behind t b (Named x) k out h = b x k out
step-behind t b (Tested x) k out h = refl
step-behind t b _ k out h = absurd h

-- a part and, behind one token, another
joined : (at at' : Mode → Level → Option (Tree × Level)) (k j : Level) (ts us : List Token) (t : Token) (r r' : Tree × Level)
    → IsBehind t → (R : Reads at k ts r) → IsReading R.mode
    → ((out : Outer) → behind t R.mode R.lvl out ≡ Some (state Operand j out))
    → Reads at' j us r' → Reads at' k (ts ++ t ∷ us) r'
joined at at' k j ts us t r r' b R h next S = record {
  mode = S.mode;
  lvl = S.lvl;
  runs = λ out. run-then (state Operand k out) (state R.mode R.lvl out) ts (t ∷ us) (R.runs out)
      ∙ step-then (state R.mode R.lvl out) (state Operand j out) t us (step-behind t b R.mode R.lvl out h ∙ next out) ∙ S.runs out;
  gives = S.gives;
}

-- with another reading of what was read
read_as : (at at' : Mode → Level → Option (Tree × Level)) (k : Level) (ts : List Token) (r r' : Tree × Level)
    → (R : Reads at k ts r) → at' R.mode R.lvl ≡ Some r' → Reads at' k ts r'
read_as at at' k ts r r' R e = record { mode = R.mode; lvl = R.lvl; runs = R.runs; gives = e }

operand-sum : (m : Mode) (k : Level) (r : Tree × Level) → sum_at m k ≡ Some r → operand_at m k ≡ Some r
operand-sum (Tested x) (level o a n p s t ss) r h = absurd (none-some r h)
operand-sum (Whole x) k r h = h
operand-sum (Named x) k r h = h
operand-sum _ (level o a n p s t ss) r h = absurd (none-some r h)

pred-sum : (m : Mode) (k : Level) (r : Tree × Level) → sum_at m k ≡ Some r → pred_at m k ≡ pred_in r
pred-sum m k r h = ap (λ x. x >>= pred_in) (operand-sum m k r h)

abbrev pub at_conj : Option Tree → Level
at_conj o = level o None 0 First None None []

abbrev pub at_pred : Option Tree → Option Tree → ℕ → Level
at_pred o a n = level o a n First None None []

abbrev pub at_sum : Option Tree → Option Tree → ℕ → Place → Level
at_sum o a n p = level o a n p None None []

-- the last member of a list is read
abbrev pub Listed : List Token → Tree → Type 0
Listed ts (In b x (with xs y)) = (o a : Option Tree) (n : ℕ) → Reads sum_at (at_pred o a n) ts (y, at_sum o a n (Member b x xs))
Listed ts _ = ⊥

abbrev pub Complete : Part → List Token → Tree → Type 0
Complete expr ts e = Reads expr_at fresh ts (e, fresh)
Complete conj ts e = (o : Option Tree) → Reads conj_at (at_conj o) ts (e, at_conj o)
Complete neg ts e = (o a : Option Tree) (n : ℕ) → Reads neg_at (at_pred o a n) ts (nots_of n e, at_pred o a 0)
Complete pred ts e = (o a : Option Tree) (n : ℕ) → Reads pred_at (at_pred o a n) ts (e, at_pred o a n)
Complete members ts e = Listed ts e
Complete sums ts e = (o a : Option Tree) (n : ℕ) (p : Place) → Reads sum_at (at_sum o a n p) ts (e, at_sum o a n p)
Complete term ts e = (o a : Option Tree) (n : ℕ) (p : Place) (s : Option (Tree × Sum)) → Reads term_at (level o a n p s None []) ts (e, level o a n p s None [])
Complete factor ts e = (o a : Option Tree) (n : ℕ) (p : Place) (s : Option (Tree × Sum)) (t : Option (Tree × Product))
    → Reads factor_at (level o a n p s t []) ts (e, level o a n p s t [])
Complete signed ts e = (o a : Option Tree) (n : ℕ) (p : Place) (s : Option (Tree × Sum)) (t : Option (Tree × Product)) (ss : List Sum)
    → Reads factor_at (level o a n p s t ss) ts (signs_of ss e, level o a n p s t [])
Complete primary ts e = (k : Level) → Reads primary_at k ts (e, k)

reading-pred : (m : Mode) (k : Level) (r : Tree × Level) → pred_at m k ≡ Some r → IsReading m
reading-pred m k r h = let (x, e, f) = bind_some (operand_at m k) pred_in r h in reading-operand m k x e

reading-neg : (m : Mode) (k : Level) (r : Tree × Level) → neg_at m k ≡ Some r → IsReading m
reading-neg m k r h = let (x, e, f) = bind_some (pred_at m k) neg_in r h in reading-pred m k x e

reading-conj : (m : Mode) (k : Level) (r : Tree × Level) → conj_at m k ≡ Some r → IsReading m
reading-conj m k r h = let (x, e, f) = bind_some (neg_at m k) conj_in r h in reading-neg m k x e

pub reading-expr : (m : Mode) (k : Level) (r : Tree × Level) → expr_at m k ≡ Some r → IsReading m
reading-expr m k r h = let (x, e, f) = bind_some (conj_at m k) expr_in r h in reading-conj m k x e

reading-term : (m : Mode) (k : Level) (r : Tree × Level) → term_at m k ≡ Some r → IsReading m
reading-term (Whole x) k r h = tt
reading-term (Named x) k r h = tt
reading-term (Tested x) k r h = tt
reading-term _ (level o a n p s t ss) r h = absurd (none-some r h)

-- AND behind a conj
and-conj : (out : Outer) (x : Tree × Level) (r : Tree × Level) → (pred_in x >>= neg_in >>= conj_in) ≡ Some r → and_in out x ≡ behind_and out r
and-conj out (e, level o a n (Low b x) s t ss) r h = absurd (none-some r h)
and-conj out (e, level o a n First s t ss) r h = ap (λ y. y >>= behind_and out) h
and-conj out (e, level o a n (Right c x) s t ss) r h = ap (λ y. y >>= behind_and out) h
and-conj out (e, level o a n (High b x y) s t ss) r h = ap (λ y. y >>= behind_and out) h
and-conj out (e, level o a n (Member b x y) s t ss) r h = absurd (none-some r h)

behind-and : (m : Mode) (k : Level) (out : Outer) (r : Tree × Level) → conj_at m k ≡ Some r → behind and m k out ≡ behind_and out r
behind-and m k out r h = go (operand_at m k) h
  where
    go : (x : Option (Tree × Level)) → (x >>= pred_in >>= neg_in >>= conj_in) ≡ Some r → (x >>= and_in out) ≡ behind_and out r
    go None e = absurd (none-some r e)
    go (Some x) e = and-conj out x r e

-- `)` behind an expr
close-expr : (out : Outer) (x : Tree × Level) (r : Tree × Level) → (pred_in x >>= neg_in >>= conj_in >>= expr_in) ≡ Some r → close_in out x ≡ close_out out r.0
close-expr out (e, level o a n (Low b x) s t ss) r h = absurd (none-some r h)
close-expr out (e, level o a n First s t ss) r h = ap (λ y. y >>= λ x. close_out out x.0) h
close-expr out (e, level o a n (Right c x) s t ss) r h = ap (λ y. y >>= λ x. close_out out x.0) h
close-expr out (e, level o a n (High b x y) s t ss) r h = ap (λ y. y >>= λ x. close_out out x.0) h
close-expr out (e, level o a n (Member b x y) s t ss) r h = absurd (none-some r h)

pub behind-close : (m : Mode) (k : Level) (out : Outer) (r : Tree × Level) → expr_at m k ≡ Some r → behind close m k out ≡ close_out out r.0
behind-close m k out r h = go (operand_at m k) h
  where
    go : (x : Option (Tree × Level)) → (x >>= pred_in >>= neg_in >>= conj_in >>= expr_in) ≡ Some r → (x >>= close_in out) ≡ close_out out r.0
    go None e = absurd (none-some r e)
    go (Some x) e = close-expr out x r e

-- ---- the productions

case-or : (ts us : List Token) (a b : Tree) → Complete expr ts a → Complete conj us b → Complete expr (ts ++ or ∷ us) (Or a b)
case-or ts us a b A B =
    let S = B (Some a) in
    joined expr_at expr_at fresh (at_conj (Some a)) ts us or (a, fresh) (Or a b, fresh) (λ x k out. refl) A (reading-expr A.mode A.lvl (a, fresh) A.gives)
    (λ out. ap (λ x. x >>= behind_or out) A.gives)
    (read_as conj_at expr_at (at_conj (Some a)) us (b, at_conj (Some a)) (Or a b, fresh) S (ap (λ x. x >>= expr_in) S.gives))

case-and : (ts us : List Token) (a b : Tree) → Complete conj ts a → Complete neg us b → Complete conj (ts ++ and ∷ us) (And a b)
case-and ts us a b A B o =
    let R = A o in
    let S = B o (Some a) 0 in
    joined conj_at conj_at (at_conj o) (at_pred o (Some a) 0) ts us and (a, at_conj o) (And a b, at_conj o) (λ x k out. refl) R (reading-conj R.mode R.lvl (a, at_conj o) R.gives)
    (λ out. behind-and R.mode R.lvl out (a, at_conj o) R.gives)
    (read_as neg_at conj_at (at_pred o (Some a) 0) us (b, at_pred o (Some a) 0) (And a b, at_conj o) S (ap (λ x. x >>= conj_in) S.gives))

case-not : (ts : List Token) (e : Tree) → Complete neg ts e → Complete neg (not ∷ ts) (Not e)
case-not ts e A o a n =
    let R = A o a (suc n) in
    record {
      mode = R.mode;
      lvl = R.lvl;
      runs = λ out. step-then (state Operand (at_pred o a n) out) (state Operand (at_pred o a (suc n)) out) not ts refl ∙ R.runs out;
      gives = R.gives;
    }

case-compare : (c : Comparison) (ts us : List Token) (a b : Tree) → Complete sums ts a → Complete sums us b → Complete pred (ts ++ compare c ∷ us) (Compare c a b)
case-compare c ts us a b A B o d n =
    let R = A o d n First in
    let S = B o d n (Right c a) in
    joined sum_at pred_at (at_pred o d n) (at_sum o d n (Right c a)) ts us (compare c) (a, at_pred o d n) (Compare c a b, at_pred o d n) (λ x k out. refl) R (reading-sum R.mode R.lvl _ R.gives)
    (λ out. ap (λ x. x >>= first_in >>= λ x. Some (state Operand (placed x.1 (Right c x.0)) out)) R.gives)
    (read_as sum_at pred_at (at_sum o d n (Right c a)) us (b, at_sum o d n (Right c a)) (Compare c a b, at_pred o d n) S (pred-sum S.mode S.lvl _ S.gives))

-- a run that ends behind a sum goes on by one token
sum-then : (k : Level) (ts : List Token) (r : Tree × Level) (t : Token) (y : Outer → State) → IsBehind t → (R : Reads sum_at k ts r)
    → ((out : Outer) → behind t R.mode R.lvl out ≡ Some (y out)) → (out : Outer) → run (state Operand k out) (ts ++ t ∷ []) ≡ Some (y out)
sum-then k ts r t y b R next out = run-then (state Operand k out) (state R.mode R.lvl out) ts (t ∷ []) (R.runs out)
    ∙ step-then (state R.mode R.lvl out) (y out) t [] (step-behind t b R.mode R.lvl out (reading-sum R.mode R.lvl r R.gives) ∙ next out)

case-null : (n : Bool) (ts : List Token) (a : Tree) → Complete sums ts a → Complete pred (ts ++ is ∷ (negation n ++ null ∷ [])) (IsNull n a)
case-null n ts a A o d m =
    let R = A o d m First in
    record {
      mode = Tested (IsNull n a);
      lvl = at_pred o d m;
      runs = λ out. run-then (state Operand (at_pred o d m) out) (state R.mode R.lvl out) ts (is ∷ (negation n ++ null ∷ [])) (R.runs out)
          ∙ step-then (state R.mode R.lvl out) (state (AtIs a) (at_pred o d m) out) is (negation n ++ null ∷ [])
          (step-behind is (λ x k out. refl) R.mode R.lvl out (reading-sum R.mode R.lvl (a, at_pred o d m) R.gives)
          ∙ ap (λ x. x >>= first_in >>= λ x. Some (state (AtIs x.0) x.1 out)) R.gives)
          ∙ ends n out;
      gives = refl;
    }
  where
    ends : (n : Bool) (out : Outer) → run (state (AtIs a) (at_pred o d m) out) (negation n ++ null ∷ []) ≡ Some (state (Tested (IsNull n a)) (at_pred o d m) out)
    ends true out = refl
    ends false out = refl

-- sum [NOT] BETWEEN
to-between : (b : Bool) (ts : List Token) (a : Tree) (o d : Option Tree) (n : ℕ) → Reads sum_at (at_pred o d n) ts (a, at_pred o d n) → (out : Outer)
    → run (state Operand (at_pred o d n) out) (ts ++ negation b ++ between ∷ []) ≡ Some (state Operand (at_sum o d n (Low b a)) out)
to-between true ts a o d n R out =
    run-then (state Operand (at_pred o d n) out) (state (AtNot a) (at_pred o d n) out) (ts ++ not ∷ []) (between ∷ [])
    (sum-then (at_pred o d n) ts _ not (λ out. state (AtNot a) (at_pred o d n) out) (λ x k out. refl) R
    (λ out. ap (λ x. x >>= first_in >>= λ x. Some (state (AtNot x.0) x.1 out)) R.gives) out)
to-between false ts a o d n R out = ap (λ l. run (state Operand (at_pred o d n) out) (l ++ between ∷ [])) (append-nil ts)
    ∙ sum-then (at_pred o d n) ts _ between (λ out. state Operand (at_sum o d n (Low false a)) out) (λ x k out. refl) R
    (λ out. ap (λ x. x >>= first_in >>= λ x. Some (state Operand (placed x.1 (Low false x.0)) out)) R.gives) out

-- sum [NOT] IN (
to-in : (b : Bool) (ts : List Token) (a : Tree) (o d : Option Tree) (n : ℕ) → Reads sum_at (at_pred o d n) ts (a, at_pred o d n) → (out : Outer)
    → run (state Operand (at_pred o d n) out) (ts ++ negation b ++ in_ ∷ open_ ∷ []) ≡ Some (state Operand (at_sum o d n (Member b a none)) out)
to-in true ts a o d n R out =
    run-then (state Operand (at_pred o d n) out) (state (AtNot a) (at_pred o d n) out) (ts ++ not ∷ []) (in_ ∷ open_ ∷ [])
    (sum-then (at_pred o d n) ts _ not (λ out. state (AtNot a) (at_pred o d n) out) (λ x k out. refl) R
    (λ out. ap (λ x. x >>= first_in >>= λ x. Some (state (AtNot x.0) x.1 out)) R.gives) out)
to-in false ts a o d n R out = ap (λ l. run (state Operand (at_pred o d n) out) (l ++ in_ ∷ open_ ∷ [])) (append-nil ts)
    ∙ run-then (state Operand (at_pred o d n) out) (state R.mode R.lvl out) ts (in_ ∷ open_ ∷ []) (R.runs out)
    ∙ step-then (state R.mode R.lvl out) (state (AtIn false a) (at_pred o d n) out) in_ (open_ ∷ [])
    (step-behind in_ (λ x k out. refl) R.mode R.lvl out (reading-sum R.mode R.lvl (a, at_pred o d n) R.gives)
    ∙ ap (λ x. x >>= first_in >>= λ x. Some (state (AtIn false x.0) x.1 out)) R.gives)

-- a part behind a run
after_run : (at : Mode → Level → Option (Tree × Level)) (k j : Level) (ts us : List Token) (r : Tree × Level)
    → ((out : Outer) → run (state Operand k out) ts ≡ Some (state Operand j out)) → Reads at j us r → Reads at k (ts ++ us) r
after_run at k j ts us r f R = record {
  mode = R.mode;
  lvl = R.lvl;
  runs = λ out. run-then (state Operand k out) (state Operand j out) ts us (f out) ∙ R.runs out;
  gives = R.gives;
}

respelled : (at : Mode → Level → Option (Tree × Level)) (k : Level) (ts us : List Token) (r : Tree × Level) → ts ≡ us → Reads at k ts r → Reads at k us r
respelled at k ts us r e R = let P : List Token → Type 0 = λ l. Reads at k l r in subst P e R

case-between : (n : Bool) (ts us vs : List Token) (a b c : Tree) → Complete sums ts a → Complete sums us b → Complete sums vs c
    → Complete pred (ts ++ negation n ++ between ∷ us ++ and ∷ vs) (Between n a b c)
case-between n ts us vs a b c A B C o d m =
    let S = B o d m (Low n a) in
    let T = C o d m (High n a b) in
    let R : Reads sum_at (at_pred o d m) (ts ++ negation n ++ between ∷ us) (b, at_sum o d m (Low n a)) =
    respelled sum_at (at_pred o d m) (ts ++ negation n ++ between ∷ [] ++ us) _ _ (append_assoc (ts ++ negation n) (between ∷ []) us)
    (after_run sum_at (at_pred o d m) (at_sum o d m (Low n a)) (ts ++ negation n ++ between ∷ []) us _ (to-between n ts a o d m (A o d m First)) S) in
    joined sum_at pred_at (at_pred o d m) (at_sum o d m (High n a b)) (ts ++ negation n ++ between ∷ us) vs and (b, at_sum o d m (Low n a)) (Between n a b c, at_pred o d m) (λ x k out. refl) R
    (reading-sum R.mode R.lvl (b, at_sum o d m (Low n a)) R.gives)
    (λ out. ap (λ x. x >>= and_in out) (operand-sum R.mode R.lvl (b, at_sum o d m (Low n a)) R.gives))
    (read_as sum_at pred_at (at_sum o d m (High n a b)) vs (c, at_sum o d m (High n a b)) (Between n a b c, at_pred o d m) T (pred-sum T.mode T.lvl _ T.gives))

case-first : (n : Bool) (ts us : List Token) (a b : Tree) → Complete sums ts a → Complete sums us b → Complete members (ts ++ negation n ++ in_ ∷ open_ ∷ us) (In n a (with none b))
case-first n ts us a b A B o d m =
    respelled sum_at (at_pred o d m) (ts ++ negation n ++ in_ ∷ open_ ∷ [] ++ us) _ _ (append_assoc (ts ++ negation n) (in_ ∷ open_ ∷ []) us)
    (after_run sum_at (at_pred o d m) (at_sum o d m (Member n a none)) (ts ++ negation n ++ in_ ∷ open_ ∷ []) us _ (to-in n ts a o d m (A o d m First)) (B o d m (Member n a none)))

case-more : (n : Bool) (ts us : List Token) (a b : Tree) (bs : Trees) → Complete members ts (In n a bs) → Complete sums us b → Complete members (ts ++ comma ∷ us) (In n a (with bs b))
case-more n ts us a b none A B = λ o d m. absurd A
case-more n ts us a b (with bs c) A B = λ o d m.
    let R = A o d m in
    joined sum_at sum_at (at_pred o d m) (at_sum o d m (Member n a (with bs c))) ts us comma (c, at_sum o d m (Member n a bs)) (b, at_sum o d m (Member n a (with bs c))) (λ x k out. refl) R
    (reading-sum R.mode R.lvl (c, at_sum o d m (Member n a bs)) R.gives)
    (λ out. ap (λ x. x >>= more_in out) R.gives)
    (B o d m (Member n a (with bs c)))

case-in : (ts : List Token) (e : Tree) → Complete members ts e → Complete pred (ts ++ close ∷ []) e
case-in ts (In n a (with bs c)) A = λ o d m.
    let R = A o d m in
    record {
      mode = Tested (In n a (with bs c));
      lvl = at_pred o d m;
      runs = sum-then (at_pred o d m) ts _ close (λ out. state (Tested (In n a (with bs c))) (at_pred o d m) out) (λ x k out. refl) R
          (λ out. ap (λ x. x >>= close_in out) (operand-sum R.mode R.lvl (c, at_sum o d m (Member n a bs)) R.gives));
      gives = refl;
    }
case-in ts _ A = λ o d m. absurd A

case-sum : (x : Sum) (ts us : List Token) (a b : Tree) → Complete sums ts a → Complete term us b → Complete sums (ts ++ sum x ∷ us) (Add x a b)
case-sum x ts us a b A B o d n p =
    let R = A o d n p in
    let S = B o d n p (Some (a, x)) in
    joined sum_at sum_at (at_sum o d n p) (level o d n p (Some (a, x)) None []) ts us (sum x) (a, at_sum o d n p) (Add x a b, at_sum o d n p) (λ x k out. refl) R (reading-sum R.mode R.lvl (a, at_sum o d n p) R.gives)
    (λ out. ap (λ y. y >>= behind_sum x out) R.gives)
    (read_as term_at sum_at (level o d n p (Some (a, x)) None []) us (b, level o d n p (Some (a, x)) None []) (Add x a b, at_sum o d n p) S (ap (λ x. x >>= sum_in) S.gives))

case-term : (x : Product) (ts us : List Token) (a b : Tree) → Complete term ts a → Complete factor us b → Complete term (ts ++ product x ∷ us) (Multiply x a b)
case-term x ts us a b A B o d n p s =
    let R = A o d n p s in
    let S = B o d n p s (Some (a, x)) in
    joined term_at term_at (level o d n p s None []) (level o d n p s (Some (a, x)) []) ts us (product x) (a, level o d n p s None []) (Multiply x a b, level o d n p s None []) (λ x k out. refl) R
    (reading-term R.mode R.lvl (a, level o d n p s None []) R.gives)
    (λ out. ap (λ y. y >>= behind_product x out) R.gives)
    (read_as factor_at term_at (level o d n p s (Some (a, x)) []) us (b, level o d n p s (Some (a, x)) []) (Multiply x a b, level o d n p s None []) S (ap (λ x. x >>= term_in) S.gives))

case-signed : (x : Sum) (ts : List Token) (e : Tree) → Complete signed ts e → Complete signed (sum x ∷ ts) (Sign x e)
case-signed x ts e A o a n p s t ss =
    let R = A o a n p s t (x ∷ ss) in
    record {
      mode = R.mode;
      lvl = R.lvl;
      runs = λ out. step-then (state Operand (level o a n p s t ss) out) (state Operand (level o a n p s t (x ∷ ss)) out) (sum x) ts refl ∙ R.runs out;
      gives = R.gives;
    }

case-primary : (ts : List Token) (e : Tree) → Complete primary ts e → Complete signed ts e
case-primary ts e A o a n p s t ss =
    let R = A (level o a n p s t ss) in
    read_as primary_at factor_at (level o a n p s t ss) ts (e, level o a n p s t ss) (signs_of ss e, level o a n p s t []) R (ap (λ x. x >>= signs_in) R.gives)

case-brackets : (ts : List Token) (e : Tree) → Complete expr ts e → Complete primary (open_ ∷ ts ++ close ∷ []) (Brackets e)
case-brackets ts e R k = record {
  mode = Whole (Brackets e);
  lvl = k;
  runs = λ out. step-then (state Operand k out) (state Operand fresh ((Bracket, k) ∷ out)) open_ (ts ++ close ∷ []) refl
      ∙ run-then (state Operand fresh ((Bracket, k) ∷ out)) (state R.mode R.lvl ((Bracket, k) ∷ out)) ts (close ∷ []) (R.runs ((Bracket, k) ∷ out))
      ∙ step-then (state R.mode R.lvl ((Bracket, k) ∷ out)) (state (Whole (Brackets e)) k out) close []
      (step-behind close (λ x k out. refl) R.mode R.lvl ((Bracket, k) ∷ out) (reading-expr R.mode R.lvl (e, fresh) R.gives)
      ∙ behind-close R.mode R.lvl ((Bracket, k) ∷ out) (e, fresh) R.gives);
  gives = refl;
}

case-call : (a : Aggregate) (ts : List Token) (e : Tree) → Complete expr ts e → Complete primary (call a ∷ open_ ∷ ts ++ close ∷ []) (Call a e)
case-call a ts e R k = record {
  mode = Whole (Call a e);
  lvl = k;
  runs = λ out. step-then (state Operand k out) (state (AtCall a) k out) (call a) (open_ ∷ ts ++ close ∷ []) refl
      ∙ step-then (state (AtCall a) k out) (state Operand fresh ((Calling a, k) ∷ out)) open_ (ts ++ close ∷ []) refl
      ∙ run-then (state Operand fresh ((Calling a, k) ∷ out)) (state R.mode R.lvl ((Calling a, k) ∷ out)) ts (close ∷ []) (R.runs ((Calling a, k) ∷ out))
      ∙ step-then (state R.mode R.lvl ((Calling a, k) ∷ out)) (state (Whole (Call a e)) k out) close []
      (step-behind close (λ x k out. refl) R.mode R.lvl ((Calling a, k) ∷ out) (reading-expr R.mode R.lvl (e, fresh) R.gives)
      ∙ behind-close R.mode R.lvl ((Calling a, k) ∷ out) (e, fresh) R.gives);
  gives = refl;
}

-- what takes one mode and the level as it was
plain : (at : Mode → Level → Option (Tree × Level)) (k j : Level) (ts : List Token) (r : Tree × Level) (m : Mode)
    → ((out : Outer) → run (state Operand k out) ts ≡ Some (state m j out)) → at m j ≡ Some r → Reads at k ts r
plain at k j ts r m f g = record { mode = m; lvl = j; runs = f; gives = g }

pub complete : (p : Part) (ts : List Token) (e : Tree) → Spells p ts e → Complete p ts e
complete expr _ _ (expr-one ts e d) = let R = complete conj ts e d None in read_as conj_at expr_at fresh ts (e, fresh) (e, fresh) R (ap (λ x. x >>= expr_in) R.gives)
complete expr _ _ (expr-or ts us a b d f) = case-or ts us a b (complete expr ts a d) (complete conj us b f)
complete conj _ _ (conj-one ts e d) = λ o. let R = complete neg ts e d o None 0 in read_as neg_at conj_at (at_conj o) ts (e, at_conj o) (e, at_conj o) R (ap (λ x. x >>= conj_in) R.gives)
complete conj _ _ (conj-and ts us a b d f) = case-and ts us a b (complete conj ts a d) (complete neg us b f)
complete neg _ _ (neg-one ts e d) = λ o a n. let R = complete pred ts e d o a n in
    read_as pred_at neg_at (at_pred o a n) ts (e, at_pred o a n) (nots_of n e, at_pred o a 0) R (ap (λ x. x >>= neg_in) R.gives)
complete neg _ _ (neg-not ts e d) = case-not ts e (complete neg ts e d)
complete pred _ _ (pred-one ts e d) = λ o a n. let R = complete sums ts e d o a n First in
    read_as sum_at pred_at (at_pred o a n) ts (e, at_pred o a n) (e, at_pred o a n) R (pred-sum R.mode R.lvl (e, at_pred o a n) R.gives)
complete pred _ _ (pred-compare c ts us a b d f) = case-compare c ts us a b (complete sums ts a d) (complete sums us b f)
complete pred _ _ (pred-null n ts a d) = case-null n ts a (complete sums ts a d)
complete pred _ _ (pred-between n ts us vs a b c d f g) = case-between n ts us vs a b c (complete sums ts a d) (complete sums us b f) (complete sums vs c g)
complete pred _ _ (pred-in ts e d) = case-in ts e (complete members ts e d)
complete members _ _ (members-first n ts us a b d f) = case-first n ts us a b (complete sums ts a d) (complete sums us b f)
complete members _ _ (members-more n ts us a b bs d f) = case-more n ts us a b bs (complete members ts (In n a bs) d) (complete sums us b f)
complete sums _ _ (sum-one ts e d) = λ o a n p. let R = complete term ts e d o a n p None in
    read_as term_at sum_at (at_sum o a n p) ts (e, at_sum o a n p) (e, at_sum o a n p) R (ap (λ x. x >>= sum_in) R.gives)
complete sums _ _ (sum-more x ts us a b d f) = case-sum x ts us a b (complete sums ts a d) (complete term us b f)
complete term _ _ (term-one ts e d) = λ o a n p s. let R = complete factor ts e d o a n p s None in
    read_as factor_at term_at (level o a n p s None []) ts (e, level o a n p s None []) (e, level o a n p s None []) R (ap (λ x. x >>= term_in) R.gives)
complete term _ _ (term-more x ts us a b d f) = case-term x ts us a b (complete term ts a d) (complete factor us b f)
complete factor _ _ (factor-number x) = λ o a n p s t. plain factor_at (level o a n p s t []) (level o a n p s t []) (number x ∷ []) (Number plus x, level o a n p s t []) (Whole (Number plus x)) (λ out. refl) refl
complete factor _ _ (factor-signed ts e d) = λ o a n p s t. complete signed ts e d o a n p s t []
complete signed _ _ (signed-number y x) = λ o a n p s t ss. plain factor_at (level o a n p s t ss) (level o a n p s t ss) (sum y ∷ number x ∷ []) (signs_of ss (Number y x), level o a n p s t []) (Whole (Number y x)) (λ out. refl) refl
complete signed _ _ signed-huge = λ o a n p s t ss. plain factor_at (level o a n p s t ss) (level o a n p s t ss) (sum minus ∷ huge ∷ []) (signs_of ss (Number minus (2 ^ 63)), level o a n p s t []) (Whole (Number minus (2 ^ 63))) (λ out. refl) refl
complete signed _ _ (signed-more x ts e d) = case-signed x ts e (complete signed ts e d)
complete signed _ _ (signed-primary ts e d) = case-primary ts e (complete primary ts e d)
complete primary _ _ (primary-text x) = λ k. plain primary_at k k (text x ∷ []) (Text x, k) (Whole (Text x)) (λ out. refl) refl
complete primary _ _ (primary-truth x) = λ k. plain primary_at k k (truth x ∷ []) (Truth x, k) (Whole (Truth x)) (λ out. refl) refl
complete primary _ _ (primary-column w x) = λ k. plain primary_at k k (name w x ∷ []) (Column x, k) (Named x) (λ out. refl) refl
complete primary _ _ (primary-column_of v w x y) = λ k. plain primary_at k k (name v x ∷ dot ∷ name w y ∷ []) (ColumnOf x y, k) (Whole (ColumnOf x y)) (λ out. refl) refl
complete primary _ _ (primary-brackets ts e d) = case-brackets ts e (complete expr ts e d)
complete primary _ _ primary-count_all = λ k. plain primary_at k k (call count ∷ open_ ∷ product times ∷ close ∷ []) (CountAll, k) (Whole CountAll) (λ out. refl) refl
complete primary _ _ (primary-call x ts e d) = case-call x ts e (complete expr ts e d)

-- what is spelled is read
pub reads-spelled : (ts : List Token) (e : Tree) → Spells expr ts e → (run start ts >>= ended) ≡ Some e
reads-spelled ts e d = let R = complete expr ts e d in
    ap (λ x. x >>= ended) (R.runs []) ∙ ap (λ x. x >>= λ x. Some x.0) R.gives

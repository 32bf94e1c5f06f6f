-- The machine takes exactly the tokens that can go on.
use Rattle.std.proofs.Common.{◌≡◌, ℕ, [], ◌∷◌, ◌++◌, true, false, Option, Some, None, refl, sym, ap, subst, ◌∙◌}
use Rattle.std.proofs.lemmas.Option.{none-some}
use Rattle.sql_grammar.specs.Syntax.{Plain, none, with, Tree, and, not, is, null, between, dot, open_, close, text, name, IsNull, In, Text, ColumnOf, CountAll}
use Rattle.sql_grammar.specs.Machine.{◌>>=◌, First, Right, Low, High, Member, Level, level, Opener, Calling, Mode, Operand, Whole, Tested, Named, Dotted, AtIs, AtIsNot, AtNot, AtIn, AtCall, AtStar, State, state, fresh, signs_of, expr_at, Outer, step, run, ended, start, placed, opened_of, product_of, sum_of}
use Rattle.sql_grammar.proofs.Complete.{run-append, run-then, step-then, IsReading, reads-spelled, behind-close}
use Rattle.sql_grammar.proofs.Sound.{Toks, StateAt, ModeAt, PredAt, Holds, run-holds, start-holds, spelled-read, by-first}
use Rattle.sql_grammar.specs.Syntax.{Viable}

-- some tokens bring the machine from x to an end
abbrev pub Finishes : State → Type 0
Finishes x = (more : Toks) × (e : Tree) × ((run x more >>= ended) ≡ Some e)

-- by the tokens ts to y, which finishes
pub by-tokens : (x y : State) (ts : Toks) → run x ts ≡ Some y → Finishes y → Finishes x
by-tokens x y ts q (more, e, h) = (ts ++ more, e, ap (λ r. r >>= ended) (run-then x y ts more q) ∙ h)

-- what to do at a mode and a level where an expr is read
abbrev Ends : Outer → Type 0
Ends out = (m : Mode) (k : Level) (r : Tree × Level) → IsReading m → expr_at m k ≡ Some r → Finishes (state m k out)

whole-finishes : (out : Outer) → Ends out → (e : Tree) (k : Level) → Finishes (state (Whole e) k out)
whole-finishes out f e (level o a n First s t ss) = f (Whole e) (level o a n First s t ss) _ tt refl
whole-finishes out f e (level o a n (Right c x) s t ss) = f (Whole e) (level o a n (Right c x) s t ss) _ tt refl
whole-finishes out f e (level o a n (High b x y) s t ss) = f (Whole e) (level o a n (High b x y) s t ss) _ tt refl
whole-finishes out f e (level o a n (Low b x) s t ss) =
    by-tokens (state (Whole e) (level o a n (Low b x) s t ss) out) (state (Whole (Text [])) (level o a n (High b x (sum_of s (product_of t (signs_of ss e)))) None None []) out) (and ∷ text [] ∷ []) refl
    (f (Whole (Text [])) (level o a n (High b x (sum_of s (product_of t (signs_of ss e)))) None None []) _ tt refl)
whole-finishes out f e (level o a n (Member b x xs) s t ss) =
    by-tokens (state (Whole e) (level o a n (Member b x xs) s t ss) out) (state (Tested (In b x (with xs (sum_of s (product_of t (signs_of ss e)))))) (level o a n First None None []) out) (close ∷ []) refl
    (f (Tested (In b x (with xs (sum_of s (product_of t (signs_of ss e)))))) (level o a n First None None []) _ tt refl)

pub closes : (x : Opener × Level) (out : Outer) (m : Mode) (k : Level) (r : Tree × Level) → IsReading m → expr_at m k ≡ Some r → step (state m k (x ∷ out)) close ≡ Some (state (Whole (opened_of x.0 r.0)) x.1 out)
closes x out (Whole e) k r h q = behind-close (Whole e) k (x ∷ out) r q
closes x out (Named e) k r h q = behind-close (Named e) k (x ∷ out) r q
closes x out (Tested e) k r h q = behind-close (Tested e) k (x ∷ out) r q
closes x out _ k r h q = absurd h

ends : (out : Outer) → Ends out
ends [] m k r h q = ([], r.0, ap (λ x. x >>= λ x. Some x.0) q)
ends (x ∷ out) m k r h q =
    by-tokens (state m k (x ∷ out)) (state (Whole (opened_of x.0 r.0)) x.1 out) (close ∷ []) (step-then (state m k (x ∷ out)) (state (Whole (opened_of x.0 r.0)) x.1 out) close [] (closes x out m k r h q))
    (whole-finishes out (λ m k r h q. ends out m k r h q) (opened_of x.0 r.0) x.1)

whole : (e : Tree) (k : Level) (out : Outer) → Finishes (state (Whole e) k out)
whole e k out = whole-finishes out (ends out) e k

tested : (e : Tree) (o a : Option Tree) (n : ℕ) (out : Outer) → Finishes (state (Tested e) (level o a n First None None []) out)
tested e o a n out = ends out (Tested e) (level o a n First None None []) _ tt refl

pub by-pred : (P : Level → Type 0) (e : Tree) (k : Level) (vs : Toks) → PredAt e k vs → ((o a : Option Tree) (n : ℕ) → P (level o a n First None None [])) → P k
by-pred P e (level o a n First None None []) vs h f = f o a n
by-pred P e (level o a n First (Some y) t ss) vs h f = absurd h
by-pred P e (level o a n First None (Some y) ss) vs h f = absurd h
by-pred P e (level o a n First None None (y ∷ ss)) vs h f = absurd h
by-pred P e (level o a n _ s t ss) vs h f = absurd h

mode-finishes : (m : Mode) (k : Level) (out : Outer) (vs : Toks) → ModeAt m k vs → Finishes (state m k out)
mode-finishes Operand k out vs h = by-tokens (state Operand k out) (state (Whole (Text [])) k out) (text [] ∷ []) refl (whole (Text []) k out)
mode-finishes (Whole e) k out vs h = whole e k out
mode-finishes (Tested e) k out vs h = by-pred (λ k. Finishes (state (Tested e) k out)) e k vs h (λ o a n. tested e o a n out)
mode-finishes (Named x) k out vs h = by-tokens (state (Named x) k out) (state (Whole (ColumnOf x [])) k out) (dot ∷ name Plain [] ∷ []) refl (whole (ColumnOf x []) k out)
mode-finishes (Dotted x) k out vs h = by-tokens (state (Dotted x) k out) (state (Whole (ColumnOf x [])) k out) (name Plain [] ∷ []) refl (whole (ColumnOf x []) k out)
mode-finishes (AtIs e) k out vs h = by-first (λ k. Finishes (state (AtIs e) k out)) e k (is ∷ []) vs h
    (λ o a n w. by-tokens (state (AtIs e) (level o a n First None None []) out) (state (Tested (IsNull false e)) (level o a n First None None []) out) (null ∷ []) refl (tested (IsNull false e) o a n out))
mode-finishes (AtIsNot e) k out vs h = by-first (λ k. Finishes (state (AtIsNot e) k out)) e k (is ∷ not ∷ []) vs h
    (λ o a n w. by-tokens (state (AtIsNot e) (level o a n First None None []) out) (state (Tested (IsNull true e)) (level o a n First None None []) out) (null ∷ []) refl (tested (IsNull true e) o a n out))
mode-finishes (AtNot e) k out vs h = by-tokens (state (AtNot e) k out) (state (Whole (Text [])) (placed k (Low true e)) out) (between ∷ text [] ∷ []) refl (whole (Text []) (placed k (Low true e)) out)
mode-finishes (AtIn b e) k out vs h = by-tokens (state (AtIn b e) k out) (state (Whole (Text [])) (placed k (Member b e none)) out) (open_ ∷ text [] ∷ []) refl (whole (Text []) (placed k (Member b e none)) out)
mode-finishes (AtCall x) k out vs h = by-tokens (state (AtCall x) k out) (state (Whole (Text [])) fresh ((Calling x, k) ∷ out)) (open_ ∷ text [] ∷ []) refl (whole (Text []) fresh ((Calling x, k) ∷ out))
mode-finishes AtStar k out vs h = by-tokens (state AtStar k out) (state (Whole CountAll) k out) (close ∷ []) refl (whole CountAll k out)

finishes : (x : State) (ts : Toks) → StateAt x ts → Finishes x
finishes (state m k out) ts (us, vs, H, h, q) = mode-finishes m k out vs h

-- ---- the tokens that the machine takes are those that can go on

pub viable-some : (ts : Toks) (x : State) → run start ts ≡ Some x → Viable ts
viable-some ts x q =
    let P : Option State → Type 0 = Holds (λ y. StateAt y ts) in
    let (more, e, h) = finishes x ts (subst P q (run-holds start [] ts start-holds)) in
    (more, e, spelled-read (ts ++ more) e (ap (λ r. r >>= ended) (run-then start x ts more q) ∙ h))

pub viable-none : (ts : Toks) → run start ts ≡ None → Viable ts → ⊥
viable-none ts q (more, e, d) = none-some e (sym (ap (λ r. r >>= (λ y. run y more) >>= ended) q) ∙ sym (ap (λ r. r >>= ended) (run-append start ts more)) ∙ reads-spelled (ts ++ more) e d)

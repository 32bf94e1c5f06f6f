-- The members of an IN, one after the other.
use Rattle.std.proofs.Common.{◌≡◌, ℕ, suc, ◌+◌, ◌<◌, ◌≤◌, List, [], ◌∷◌, ◌++◌, length, get_or, drop, drop-cons, drop_of_length-le, refl, sym, ap, ◌∙◌, subst, arith}
use Rattle.sql_ast.specs.declared.bound.Expr.{Expr}
use Rattle.sql_ast.specs.declared.expression.Expression.{Expression}
use Rattle.dby_types.specs.declared.value.Ty.{Ty}
use Rattle.sql_binding.specs.Expressions.{Scope, bound, calls}
use Rattle.sql_binding.specs.Grouping.{sums_in}
use Rattle.sql_binding.specs.Trees.{Tree, Trees, with, none, tree_of}
use Rattle.expr_binder.proofs.Walks.{stays}
use Rattle.expr_binder.proofs.Arms.{Takes, as_beside, goes_on, stands_beside}
use Rattle.expr_binder.specs.Listing.{before, bound_all, calls_all, faults_all, sums_all, beside_type}
use Rattle.expr_binder.specs.Walking.{Binds, Walked}
use Rattle.expr_binder.specs.declared.walk.Walk.{Walk}

-- what is left of a walk over members
abbrev pub Goes : Scope → Ty → Walk → Walk → List Expression → Type 0
Goes s left a v es = Walked a v (faults_all s left a.next es) (calls_all es) (sums_all s.sources es)

before_snoc : (xs : List Expr) (x : Expr) (rest : Trees) → before (xs ++ x ∷ []) rest ≡ before xs (with (tree_of x) rest)
before_snoc [] x rest = refl
before_snoc (y ∷ ys) x rest = ap (with (tree_of y)) (before_snoc ys x rest)

at_drop : (es : List Expression) (i : ℕ) (e : Expression) → i < length es → e ≡ get_or es i e → drop i es ≡ e ∷ drop (i + 1) es
at_drop es i e h is =
    let next : suc i ≡ i + 1 = omega arith in
    drop-cons es i e h ∙ ap (λ (d : Expression). d ∷ drop (suc i) es) (sym is) ∙ ap (λ (j : ℕ). e ∷ drop j es) next

-- one member more
pub member_walk : (s : Scope) (left : Ty) (es : List Expression) (i : ℕ) (e : Expression) (l w1 w2 : Walk) (x : Expr) → i < length es → e ≡ get_or es i e
    → Binds s e l w1 x → Walked w1 w2 (beside_type left [] (tree_of x)) 0 [] → (P : Walk → Type 0) → ((v : Walk) → Goes s left l v (drop i es) → P v)
    → (v : Walk) → Goes s left w2 v (drop (i + 1) es) → P v
member_walk s left es i e l w1 w2 x h is b k P so v g =
    let first : Takes (as_beside left s e) s e l w2 x = stands_beside left s e l w1 w2 x b k in
    so v (subst (Goes s left l v) (sym (at_drop es i e h is))
    (goes_on (as_beside left s e) (λ n. faults_all s left n (drop (i + 1) es)) (calls e) (calls_all (drop (i + 1) es)) (sums_in s.sources e) (sums_all s.sources (drop (i + 1) es))
    l w2 v first.walk g))

pub member_tree : (s : Scope) (left : Ty) (es : List Expression) (i : ℕ) (e : Expression) (l w1 w2 : Walk) (x : Expr) → i < length es → e ≡ get_or es i e
    → Binds s e l w1 x → Walked w1 w2 (beside_type left [] (tree_of x)) 0 [] → (xs ys : List Expr) → ys ≡ xs ++ x ∷ [] → (all : Trees)
    → before xs (bound_all s l.next (drop i es)) ≡ all → before ys (bound_all s w2.next (drop (i + 1) es)) ≡ all
member_tree s left es i e l w1 w2 x h is b k xs ys more all so =
    let first : Takes (as_beside left s e) s e l w2 x = stands_beside left s e l w1 w2 x b k in
    ap (λ (zs : List Expr). before zs (bound_all s w2.next (drop (i + 1) es))) more
    ∙ before_snoc xs x (bound_all s w2.next (drop (i + 1) es))
    ∙ ap (λ (t : Tree). before xs (with t (bound_all s w2.next (drop (i + 1) es)))) b.tree
    ∙ ap (λ (n : ℕ). before xs (with (bound s l.next e) (bound_all s n (drop (i + 1) es)))) first.walk.next
    ∙ ap (λ (ds : List Expression). before xs (bound_all s l.next ds)) (sym (at_drop es i e h is)) ∙ so

-- behind the last
pub members_end : (s : Scope) (left : Ty) (es : List Expression) (i : ℕ) (l : Walk) → length es ≤ i → (P : Walk → Type 0) → ((v : Walk) → Goes s left l v (drop i es) → P v) → P l
members_end s left es i l h P so = so l (subst (Goes s left l l) (sym (drop_of_length-le es h)) (stays l))

pub trees_end : (s : Scope) (es : List Expression) (i n : ℕ) (xs : List Expr) (all : Trees) → length es ≤ i → before xs (bound_all s n (drop i es)) ≡ all → before xs none ≡ all
trees_end s es i n xs all h so = ap (λ (ds : List Expression). before xs (bound_all s n ds)) (sym (drop_of_length-le es h)) ∙ so

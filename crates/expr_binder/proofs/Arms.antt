-- Each form of an expression, of its parts.
use Rattle.std.specs.Prelude.{map}
use Rattle.std.proofs.Common.{◌≡◌, ℕ, ◌+◌, List, [], ◌++◌, ap, ◌∙◌, subst, append-nil, arith}
use Rattle.dby_types.specs.declared.state.SqlState.{SqlState}
use Rattle.dby_types.specs.declared.value.Ty.{Ty}
use Rattle.sql_ast.specs.declared.bound.Expr.{Expr}
use Rattle.sql_ast.specs.declared.expression.Expression.{Expression}
use Rattle.sql_binding.specs.Bound.{Sum, sum_in}
use Rattle.sql_binding.specs.Expressions.{Scope, bound, calls}
use Rattle.sql_binding.specs.Faults.{faults, operand_faults}
use Rattle.sql_binding.specs.Grouping.{sums_in}
use Rattle.sql_binding.specs.Trees.{Tree, tree_of, ty_of}
use Rattle.expr_binder.proofs.Walks.{walked_on}
use Rattle.expr_binder.specs.Listing.{beside_type}
use Rattle.expr_binder.specs.Walking.{Binds, Walked}
use Rattle.expr_binder.specs.declared.walk.Walk.{Walk}

-- a test behind a walk
pub tested : (a b c : Walk) (fs gs : List SqlState) (n : ℕ) (ss : List Sum) → Walked a b fs n ss → Walked b c gs 0 [] → Walked a c (fs ++ gs) n ss
tested a b c fs gs n ss h k =
    let all : Walked a c (fs ++ gs) (n + 0) (ss ++ []) = walked_on a b c fs gs n 0 ss [] h k in
    let same : n + 0 ≡ n = omega arith in
    record { fault = all.fault; next = all.next ∙ ap (λ (m : ℕ). a.next + m) same; totals = all.totals ∙ ap (λ (l : List Sum). map sum_in a.totals ++ l) (append-nil ss) }

-- a walk whose faults go by where its aggregates begin
pub goes_on : (F G : ℕ → List SqlState) (n m : ℕ) (ss ts : List Sum) (a b c : Walk) → Walked a b (F a.next) n ss → Walked b c (G b.next) m ts
    → Walked a c (F a.next ++ G (a.next + n)) (n + m) (ss ++ ts)
goes_on F G n m ss ts a b c h k = walked_on a b c (F a.next) (G (a.next + n)) n m ss ts h (subst (λ (i : ℕ). Walked b c (G i) m ts) h.next k)

-- the faults of an operand that has to be of a kind, and of one beside another
abbrev pub as_kind : Ty → Scope → Expression → ℕ → List SqlState
as_kind kind s e n = faults s n e ++ operand_faults kind (bound s n e)

abbrev pub as_beside : Ty → Scope → Expression → ℕ → List SqlState
as_beside left s e n = beside_type left (faults s n e) (bound s n e)

pub record Takes (F : ℕ → List SqlState) (s : Scope) (e : Expression) (a b : Walk) (x : Expr) : Type 0 where
  pub tree : tree_of x ≡ bound s a.next e
  pub walk : Walked a b (F a.next) (calls e) (sums_in s.sources e)

pub of_kind : (kind : Ty) (s : Scope) (e : Expression) (a b c : Walk) (x : Expr) → Binds s e a b x → Walked b c (operand_faults kind (tree_of x)) 0 [] → Takes (as_kind kind s e) s e a c x
of_kind kind s e a b c x h k = record {
  tree = h.tree;
  walk = tested a b c (faults s a.next e) (operand_faults kind (bound s a.next e)) (calls e) (sums_in s.sources e) h.walk
      (subst (λ (t : Tree). Walked b c (operand_faults kind t) 0 []) h.tree k);
}

pub stands_beside : (left : Ty) (s : Scope) (e : Expression) (a b c : Walk) (x : Expr) → Binds s e a b x → Walked b c (beside_type left [] (tree_of x)) 0 [] → Takes (as_beside left s e) s e a c x
stands_beside left s e a b c x h k = record {
  tree = h.tree;
  walk = tested a b c (faults s a.next e) (beside_type left [] (bound s a.next e)) (calls e) (sums_in s.sources e) h.walk
      (subst (λ (t : Tree). Walked b c (beside_type left [] t) 0 []) h.tree k);
}

pub alone : (s : Scope) (e : Expression) (a b : Walk) (x : Expr) → Binds s e a b x → Takes (λ n. faults s n e) s e a b x
alone s e a b x h = record { tree = h.tree; walk = h.walk }

-- TWO OPERANDS, one behind the other
pub record TakesTwo (F G : ℕ → List SqlState) (s : Scope) (d e : Expression) (a b : Walk) (x y : Expr) : Type 0 where
  pub left : tree_of x ≡ bound s a.next d
  pub right : tree_of y ≡ bound s (a.next + calls d) e
  pub walk : Walked a b (F a.next ++ G (a.next + calls d)) (calls d + calls e) (sums_in s.sources d ++ sums_in s.sources e)

pub two : (F G : ℕ → List SqlState) (s : Scope) (d e : Expression) (a b c : Walk) (x y : Expr) → Takes F s d a b x → Takes G s e b c y → TakesTwo F G s d e a c x y
two F G s d e a b c x y h k = record {
  left = h.tree;
  right = k.tree ∙ ap (λ (n : ℕ). bound s n e) h.walk.next;
  walk = goes_on F G (calls d) (calls e) (sums_in s.sources d) (sums_in s.sources e) a b c h.walk k.walk;
}

-- the type on the left is that of the bound tree
pub of_type : (left : Ty) (s : Scope) (e : Expression) (a b : Walk) (x : Expr) (t u : Tree) → left ≡ ty_of t → t ≡ u → Takes (as_beside left s e) s e a b x → Takes (as_beside (ty_of u) s e) s e a b x
of_type left s e a b x t u h k there = subst (λ (ty : Ty). Takes (as_beside ty s e) s e a b x) (h ∙ ap ty_of k) there

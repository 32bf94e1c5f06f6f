-- Each form of an expression is bound by its parts.
use Rattle.std.proofs.Common.{rules, ◌≡◌, ℕ, ◌+◌, Bool, List, [], ◌∷◌, ◌++◌, Result, Ok, Err, refl, sym, ap, ◌∙◌, subst, append_assoc, append-nil, arith}
use Rattle.std.specs.Prelude.{IfOk, map, Option}
use Rattle.std.specs.Global.{Box, Vec}
use Rattle.std.specs.declared.alloc.AllocError.{AllocError}
use Rattle.dby_types.specs.declared.state.SqlState.{SqlState}
use Rattle.dby_types.specs.declared.value.Ty.{Ty}
use Rattle.dby_types.specs.declared.value.Ty.TheVariants.{Int}
use Rattle.dby_types.specs.declared.value.Ty.TheVariants.{Bool as Truths}
use Rattle.sql_ast.specs.declared.bound.Arithmetic.{Arithmetic}
use Rattle.sql_ast.specs.declared.bound.Expr.{Expr}
use Rattle.sql_ast.specs.declared.expression.Aggregate.{Aggregate}
use Rattle.sql_ast.specs.declared.expression.Comparison.{Comparison}
use Rattle.sql_ast.specs.declared.expression.Expression.{Expression, Or', And', Not', Compare', Between', In, Add', Multiply', Sign', Call', the_lemmas}
use Rattle.sql_ast.specs.declared.expression.Product.{Product}
use Rattle.sql_ast.specs.declared.expression.Sum.{Sum as Sign}
use Rattle.sql_binding.specs.Bound.{Sum, sum_of, sum_in}
use Rattle.sql_binding.specs.Expressions.{Scope, over_rows, bound, calls, place_in}
use Rattle.sql_binding.specs.Faults.{faults, operand_faults, call_faults, total_faults, key_faults}
use Rattle.sql_binding.specs.Grouping.{sums_in}
use Rattle.expr_binder.specs.Seen.{spot_of}
use Rattle.expr_binder.specs.declared.names.Spot.{Spot as SpotInCode}
use Rattle.sql_binding.specs.Names.{Source, Spot}
use Rattle.sql_binding.specs.Trees.{Tree, Trees, typed, column, or, and, not, compare, between, in_, none, tree_of, ty_of}
use Rattle.sql_binding.specs.Types.{arithmetic_tree, sign_tree, sum_op, product_op, total_type}
use Rattle.expr_binder.proofs.Arms.{as_kind, as_beside, Takes, of_kind, stands_beside, alone, two, of_type, goes_on}
use Rattle.expr_binder.proofs.Rows.{bound_row, calls_row, faults_row, sums_row}
use Rattle.expr_binder.proofs.Walks.{walked_on}
use Rattle.expr_binder.specs.Listing.{before, bound_all, calls_all, faults_all, sums_all, beside_type}
use Rattle.expr_binder.specs.Walking.{kept, Binds, Walked}
use Rattle.expr_binder.specs.declared.walk.Walk.{Walk}

pub if_ok : {X E : Type 0} (P Q : X → Type 0) (r : Result X E) → IfOk r P → ((x : X) → P x → Q x) → IfOk r Q
if_ok P Q (Ok x) h f = f x h
if_ok P Q (Err e) h f = tt

-- two operands
pair : (C : Tree → Tree → Tree) (F G : ℕ → List SqlState) (s : Scope) (e a b : Expression) (w0 w2 w4 : Walk) (x y z : Expr)
    → ((n : ℕ) → bound s n e ≡ C (bound s n a) (bound s (n + calls a) b)) → ((n : ℕ) → faults s n e ≡ F n ++ G (n + calls a))
    → calls e ≡ calls a + calls b → sums_in s.sources e ≡ sums_in s.sources a ++ sums_in s.sources b
    → Takes F s a w0 w2 x → Takes G s b w2 w4 y → tree_of z ≡ C (tree_of x) (tree_of y) → Binds s e w0 w4 z
pair C F G s e a b w0 w2 w4 x y z bounds finds counts sums h k made =
    let t = two F G s a b w0 w2 w4 x y h k in
    record {
      tree = made ∙ ap (λ (u : Tree). C u (tree_of y)) t.left ∙ ap (λ (u : Tree). C (bound s w0.next a) u) t.right ∙ sym (bounds w0.next);
      walk = record {
        fault = t.walk.fault ∙ ap (λ (fs : List SqlState). kept w0.fault fs) (sym (finds w0.next));
        next = t.walk.next ∙ ap (λ (n : ℕ). w0.next + n) (sym counts);
        totals = t.walk.totals ∙ ap (λ (l : List Sum). map sum_in w0.totals ++ l) (sym sums);
      };
    }

-- one
single : (C : Tree → Tree) (F : ℕ → List SqlState) (s : Scope) (e a : Expression) (w0 w2 : Walk) (x z : Expr)
    → ((n : ℕ) → bound s n e ≡ C (bound s n a)) → ((n : ℕ) → faults s n e ≡ F n) → calls e ≡ calls a → sums_in s.sources e ≡ sums_in s.sources a
    → Takes F s a w0 w2 x → tree_of z ≡ C (tree_of x) → Binds s e w0 w2 z
single C F s e a w0 w2 x z bounds finds counts sums h made = record {
  tree = made ∙ ap C h.tree ∙ sym (bounds w0.next);
  walk = record {
    fault = h.walk.fault ∙ ap (λ (fs : List SqlState). kept w0.fault fs) (sym (finds w0.next));
    next = h.walk.next ∙ ap (λ (n : ℕ). w0.next + n) (sym counts);
    totals = h.walk.totals ∙ ap (λ (l : List Sum). map sum_in w0.totals ++ l) (sym sums);
  };
}

pub or_binds : (s : Scope) (e : Expression) (p : _) (a : Expression) (q : _) (b : Expression) → e ≡ Or' p a q b → (w0 w1 w2 w3 w4 : Walk) (x y : Expr)
    → Binds s a w0 w1 x → Walked w1 w2 (operand_faults Truths (tree_of x)) 0 [] → Binds s b w2 w3 y → Walked w3 w4 (operand_faults Truths (tree_of y)) 0 []
    → (r : Result Expr AllocError) → IfOk r (λ z. tree_of z ≡ typed (or (tree_of x) (tree_of y)) Truths) → IfOk r (λ z. Binds s e w0 w4 z)
or_binds s e p a q b is w0 w1 w2 w3 w4 x y h h' k k' r made = if_ok _ _ r made (λ z m.
    subst (λ (d : Expression). Binds s d w0 w4 z) (sym is) (pair (λ t u. typed (or t u) Truths) (as_kind Truths s a) (as_kind Truths s b) s (Or' p a q b) a b w0 w2 w4 x y z
    (λ n. refl) (λ n. refl) refl refl (of_kind Truths s a w0 w1 w2 x h h') (of_kind Truths s b w2 w3 w4 y k k') m))

pub and_binds : (s : Scope) (e : Expression) (p : _) (a : Expression) (q : _) (b : Expression) → e ≡ And' p a q b → (w0 w1 w2 w3 w4 : Walk) (x y : Expr)
    → Binds s a w0 w1 x → Walked w1 w2 (operand_faults Truths (tree_of x)) 0 [] → Binds s b w2 w3 y → Walked w3 w4 (operand_faults Truths (tree_of y)) 0 []
    → (r : Result Expr AllocError) → IfOk r (λ z. tree_of z ≡ typed (and (tree_of x) (tree_of y)) Truths) → IfOk r (λ z. Binds s e w0 w4 z)
and_binds s e p a q b is w0 w1 w2 w3 w4 x y h h' k k' r made = if_ok _ _ r made (λ z m.
    subst (λ (d : Expression). Binds s d w0 w4 z) (sym is) (pair (λ t u. typed (and t u) Truths) (as_kind Truths s a) (as_kind Truths s b) s (And' p a q b) a b w0 w2 w4 x y z
    (λ n. refl) (λ n. refl) refl refl (of_kind Truths s a w0 w1 w2 x h h') (of_kind Truths s b w2 w3 w4 y k k') m))

pub add_binds : (s : Scope) (e : Expression) (op : Sign) (p : _) (a : Expression) (q : _) (b : Expression) → e ≡ Add' op p a q b → (w0 w1 w2 w3 w4 : Walk) (x y : Expr)
    → Binds s a w0 w1 x → Walked w1 w2 (operand_faults Int (tree_of x)) 0 [] → Binds s b w2 w3 y → Walked w3 w4 (operand_faults Int (tree_of y)) 0 []
    → (o : Arithmetic) → o ≡ sum_op op → (r : Result Expr AllocError) → IfOk r (λ z. tree_of z ≡ arithmetic_tree o (tree_of x) (tree_of y)) → IfOk r (λ z. Binds s e w0 w4 z)
add_binds s e op p a q b is w0 w1 w2 w3 w4 x y h h' k k' o by r made = if_ok _ _ r made (λ z m.
    subst (λ (d : Expression). Binds s d w0 w4 z) (sym is) (pair (arithmetic_tree (sum_op op)) (as_kind Int s a) (as_kind Int s b) s (Add' op p a q b) a b w0 w2 w4 x y z
    (λ n. refl) (λ n. refl) refl refl (of_kind Int s a w0 w1 w2 x h h') (of_kind Int s b w2 w3 w4 y k k') (m ∙ ap (λ (i : Arithmetic). arithmetic_tree i (tree_of x) (tree_of y)) by)))

pub multiply_binds : (s : Scope) (e : Expression) (op : Product) (p : _) (a : Expression) (q : _) (b : Expression) → e ≡ Multiply' op p a q b → (w0 w1 w2 w3 w4 : Walk) (x y : Expr)
    → Binds s a w0 w1 x → Walked w1 w2 (operand_faults Int (tree_of x)) 0 [] → Binds s b w2 w3 y → Walked w3 w4 (operand_faults Int (tree_of y)) 0 []
    → (o : Arithmetic) → o ≡ product_op op → (r : Result Expr AllocError) → IfOk r (λ z. tree_of z ≡ arithmetic_tree o (tree_of x) (tree_of y)) → IfOk r (λ z. Binds s e w0 w4 z)
multiply_binds s e op p a q b is w0 w1 w2 w3 w4 x y h h' k k' o by r made = if_ok _ _ r made (λ z m.
    subst (λ (d : Expression). Binds s d w0 w4 z) (sym is) (pair (arithmetic_tree (product_op op)) (as_kind Int s a) (as_kind Int s b) s (Multiply' op p a q b) a b w0 w2 w4 x y z
    (λ n. refl) (λ n. refl) refl refl (of_kind Int s a w0 w1 w2 x h h') (of_kind Int s b w2 w3 w4 y k k') (m ∙ ap (λ (i : Arithmetic). arithmetic_tree i (tree_of x) (tree_of y)) by)))

pub not_binds : (s : Scope) (e : Expression) (p : _) (a : Expression) → e ≡ Not' p a → (w0 w1 w2 : Walk) (x : Expr)
    → Binds s a w0 w1 x → Walked w1 w2 (operand_faults Truths (tree_of x)) 0 []
    → (r : Result Expr AllocError) → IfOk r (λ z. tree_of z ≡ typed (not (tree_of x)) Truths) → IfOk r (λ z. Binds s e w0 w2 z)
not_binds s e p a is w0 w1 w2 x h h' r made = if_ok _ _ r made (λ z m.
    subst (λ (d : Expression). Binds s d w0 w2 z) (sym is) (single (λ t. typed (not t) Truths) (as_kind Truths s a) s (Not' p a) a w0 w2 x z
    (λ n. refl) (λ n. refl) refl refl (of_kind Truths s a w0 w1 w2 x h h') m))

pub sign_binds : (s : Scope) (e : Expression) (op : Sign) (p : _) (a : Expression) → e ≡ Sign' op p a → (w0 w1 w2 : Walk) (x : Expr)
    → Binds s a w0 w1 x → Walked w1 w2 (operand_faults Int (tree_of x)) 0 []
    → (r : Result Expr AllocError) → IfOk r (λ z. tree_of z ≡ sign_tree op (tree_of x)) → IfOk r (λ z. Binds s e w0 w2 z)
sign_binds s e op p a is w0 w1 w2 x h h' r made = if_ok _ _ r made (λ z m.
    subst (λ (d : Expression). Binds s d w0 w2 z) (sym is) (single (sign_tree op) (as_kind Int s a) s (Sign' op p a) a w0 w2 x z
    (λ n. refl) (λ n. refl) refl refl (of_kind Int s a w0 w1 w2 x h h') m))

-- a comparison's right side stands beside the left one's type
beside_left : (left : Ty) (s : Scope) (a b : Expression) (w0 w1 w2 w3 w4 : Walk) (x y : Expr) → left ≡ ty_of (tree_of x) → Binds s a w0 w1 x
    → Binds s b w2 w3 y → Walked w3 w4 (beside_type left [] (tree_of y)) 0 [] → Takes (as_beside (ty_of (bound s w0.next a)) s b) s b w2 w4 y
beside_left left s a b w0 w1 w2 w3 w4 x y is h k k' = of_type left s b w2 w4 y (tree_of x) (bound s w0.next a) is h.tree (stands_beside left s b w2 w3 w4 y k k')

pub compare_binds : (s : Scope) (e : Expression) (op : Comparison) (p : _) (a : Expression) (q : _) (b : Expression) → e ≡ Compare' op p a q b → (w0 w1 w2 w3 : Walk) (x y : Expr) (left : Ty)
    → left ≡ ty_of (tree_of x) → Binds s a w0 w1 x → Binds s b w1 w2 y → Walked w2 w3 (beside_type left [] (tree_of y)) 0 []
    → (r : Result Expr AllocError) → IfOk r (λ z. tree_of z ≡ typed (compare op (tree_of x) (tree_of y)) Truths) → IfOk r (λ z. Binds s e w0 w3 z)
compare_binds s e op p a q b is w0 w1 w2 w3 x y left there h k k' r made = if_ok _ _ r made (λ z m.
    subst (λ (d : Expression). Binds s d w0 w3 z) (sym is) (compared z m))
  where
    compared : (z : Expr) → tree_of z ≡ typed (compare op (tree_of x) (tree_of y)) Truths → Binds s (Compare' op p a q b) w0 w3 z
    compared z m =
        let t = two (λ n. faults s n a) (as_beside (ty_of (bound s w0.next a)) s b) s a b w0 w1 w3 x y (alone s a w0 w1 x h) (beside_left left s a b w0 w1 w1 w2 w3 x y there h k k') in
        record {
          tree = m ∙ ap (λ (u : Tree). typed (compare op u (tree_of y)) Truths) t.left ∙ ap (λ (u : Tree). typed (compare op (bound s w0.next a) u) Truths) t.right;
          walk = t.walk;
        }

pub between_binds : (s : Scope) (e : Expression) (deny : Bool) (p : _) (a : Expression) (q : _) (b : Expression) (u : _) (c : Expression) → e ≡ Between' deny p a q b u c
    → (w0 w1 w2 w3 w4 w5 : Walk) (x y v : Expr) (left right : Ty) → left ≡ ty_of (tree_of x) → right ≡ ty_of (tree_of x)
    → Binds s a w0 w1 x → Binds s b w1 w2 y → Walked w2 w3 (beside_type left [] (tree_of y)) 0 [] → Binds s c w3 w4 v → Walked w4 w5 (beside_type right [] (tree_of v)) 0 []
    → (r : Result Expr AllocError) → IfOk r (λ z. tree_of z ≡ typed (between deny (tree_of x) (tree_of y) (tree_of v)) Truths) → IfOk r (λ z. Binds s e w0 w5 z)
between_binds s e deny p a q b u c is w0 w1 w2 w3 w4 w5 x y v left right there again h k k' l l' r made = if_ok _ _ r made (λ z m.
    subst (λ (d : Expression). Binds s d w0 w5 z) (sym is) (whole z m))
  where
    whole : (z : Expr) → tree_of z ≡ typed (between deny (tree_of x) (tree_of y) (tree_of v)) Truths → Binds s (Between' deny p a q b u c) w0 w5 z
    whole z m =
        let ty = ty_of (bound s w0.next a) in
        let G = as_beside ty s b in
        let H = as_beside ty s c in
        let behind = two G H s b c w1 w3 w5 y v (beside_left left s a b w0 w1 w1 w2 w3 x y there h k k') (beside_left right s a c w0 w1 w3 w4 w5 x v again h l l') in
        record {
          tree = m ∙ ap (λ (t : Tree). typed (between deny t (tree_of y) (tree_of v)) Truths) h.tree
              ∙ ap (λ (t : Tree). typed (between deny (bound s w0.next a) t (tree_of v)) Truths) (behind.left ∙ ap (λ (n : ℕ). bound s n b) h.walk.next)
              ∙ ap (λ (t : Tree). typed (between deny (bound s w0.next a) (bound s (w0.next + calls a) b) t) Truths) (behind.right ∙ ap (λ (n : ℕ). bound s (n + calls b) c) h.walk.next);
          walk = subst (λ (fs : List SqlState). Walked w0 w5 fs (calls a + (calls b + calls c)) (sums_in s.sources a ++ (sums_in s.sources b ++ sums_in s.sources c)))
              (sym (append_assoc (faults s w0.next a) (G (w0.next + calls a)) (H (w0.next + calls a + calls b))))
              (goes_on (λ n. faults s n a) (λ n. G n ++ H (n + calls b)) (calls a) (calls b + calls c) (sums_in s.sources a) (sums_in s.sources b ++ sums_in s.sources c) w0 w1 w5 h.walk behind.walk);
        }

-- IN, by the list of its members
in_calls : (deny : Bool) (a : Box Expression) (list : Vec Expression) → calls (In deny a list) ≡ calls a.value + calls_all list.items
in_calls deny a list = search (rules, the_lemmas, calls_row)

in_bound : (s : Scope) (n : ℕ) (deny : Bool) (a : Box Expression) (list : Vec Expression) → bound s n (In deny a list) ≡ typed (in_ deny (bound s n a.value) (bound_all s (n + calls a.value) list.items)) Truths
in_bound s n deny a list = search (rules, the_lemmas, bound_row)

in_faults : (s : Scope) (n : ℕ) (deny : Bool) (a : Box Expression) (list : Vec Expression)
    → faults s n (In deny a list) ≡ faults s n a.value ++ faults_all s (ty_of (bound s n a.value)) (n + calls a.value) list.items
in_faults s n deny a list = search (rules, the_lemmas, faults_row)

in_sums : (ss : List Source) (deny : Bool) (a : Box Expression) (list : Vec Expression) → sums_in ss (In deny a list) ≡ sums_in ss a.value ++ sums_all ss list.items
in_sums ss deny a list = search (rules, the_lemmas, sums_row)

pub in_binds : (s : Scope) (e : Expression) (deny : Bool) (a : Box Expression) (list : Vec Expression) → e ≡ In deny a list
    → (es : List Expression) → es ≡ list.items → (w0 w1 w2 : Walk) (x : Expr) (ys : List Expr) (left : Ty) → left ≡ ty_of (tree_of x)
    → Binds s a.value w0 w1 x → before ys none ≡ bound_all s w1.next es → Walked w1 w2 (faults_all s left w1.next es) (calls_all es) (sums_all s.sources es)
    → (r : Result Expr AllocError) → IfOk r (λ z. tree_of z ≡ typed (in_ deny (tree_of x) (before ys none)) Truths) → IfOk r (λ z. Binds s e w0 w2 z)
in_binds s e deny a list is es items w0 w1 w2 x ys left there h trees walk r made = if_ok _ _ r made (λ z m.
    subst (λ (d : Expression). Binds s d w0 w2 z) (sym is) (whole z m))
  where
    ty_is : left ≡ ty_of (bound s w0.next a.value)
    ty_is = there ∙ ap ty_of h.tree

    all : Walked w0 w2 (faults s w0.next a.value ++ faults_all s left (w0.next + calls a.value) es) (calls a.value + calls_all es) (sums_in s.sources a.value ++ sums_all s.sources es)
    all = goes_on (λ n. faults s n a.value) (λ n. faults_all s left n es) (calls a.value) (calls_all es) (sums_in s.sources a.value) (sums_all s.sources es) w0 w1 w2 h.walk walk

    whole : (z : Expr) → tree_of z ≡ typed (in_ deny (tree_of x) (before ys none)) Truths → Binds s (In deny a list) w0 w2 z
    whole z m = record {
      tree = m ∙ ap (λ (t : Tree). typed (in_ deny t (before ys none)) Truths) h.tree
          ∙ ap (λ (ts : Trees). typed (in_ deny (bound s w0.next a.value) ts) Truths)
          (trees ∙ ap (λ (n : ℕ). bound_all s n es) h.walk.next ∙ ap (bound_all s (w0.next + calls a.value)) items)
          ∙ sym (in_bound s w0.next deny a list);
      walk = record {
        fault = all.fault ∙ ap (λ (fs : List SqlState). kept w0.fault fs)
            (ap (λ (fs : List SqlState). faults s w0.next a.value ++ fs)
            (ap (faults_all s left (w0.next + calls a.value)) items ∙ ap (λ (ty : Ty). faults_all s ty (w0.next + calls a.value) list.items) ty_is)
            ∙ sym (in_faults s w0.next deny a list));
        next = all.next ∙ ap (λ (n : ℕ). w0.next + n) (ap (λ (n : ℕ). calls a.value + n) (ap calls_all items) ∙ sym (in_calls deny a list));
        totals = all.totals ∙ ap (λ (l : List Sum). map sum_in w0.totals ++ l) (ap (λ (l : List Sum). sums_in s.sources a.value ++ l) (ap (sums_all s.sources) items) ∙ sym (in_sums s.sources deny a list));
      };
    }

pub call_binds : (s : Scope) (e : Expression) (f : Aggregate) (p : _) (a : Expression) → e ≡ Call' f p a → (w0 w1 w2 i0 i1 : Walk) (x : Expr)
    → Walked w0 w1 (call_faults s.keys) 0 [] → i0 ≡ record { fault = w1.fault; next = 0; totals = [] } → Binds (over_rows s.sources) a i0 i1 x
    → (r : Result Expr AllocError)
    → ((fs : List SqlState) → i1.fault ≡ kept w1.fault fs
    → IfOk r (λ z. (tree_of z ≡ typed (column w1.next) (total_type f (ty_of (tree_of x)))) × Walked w1 w2 (fs ++ total_faults f (tree_of x)) 1 (sum_of f (tree_of x) ∷ [])))
    → IfOk r (λ z. Binds s e w0 w2 z)
call_binds s e f p a is w0 w1 w2 i0 i1 x h inner k r made =
    if_ok _ _ r (made (faults (over_rows s.sources) 0 a) fault_is) (λ z m. subst (λ (d : Expression). Binds s d w0 w2 z) (sym is) (whole z m))
  where
    tree_is : tree_of x ≡ bound (over_rows s.sources) 0 a
    tree_is = k.tree ∙ ap (λ (i : Walk). bound (over_rows s.sources) i.next a) inner

    fault_is : i1.fault ≡ kept w1.fault (faults (over_rows s.sources) 0 a)
    fault_is = k.walk.fault ∙ ap (λ (i : Walk). kept i.fault (faults (over_rows s.sources) i.next a)) inner

    next_is : w1.next ≡ w0.next
    next_is = let n : w1.next ≡ w0.next + 0 = h.next in omega arith

    whole : (z : Expr) → (tree_of z ≡ typed (column w1.next) (total_type f (ty_of (tree_of x)))) × Walked w1 w2 (faults (over_rows s.sources) 0 a ++ total_faults f (tree_of x)) 1 (sum_of f (tree_of x) ∷ [])
        → Binds s (Call' f p a) w0 w2 z
    whole z m =
        let there : Walked w1 w2 (faults (over_rows s.sources) 0 a ++ total_faults f (bound (over_rows s.sources) 0 a)) 1 (sum_of f (bound (over_rows s.sources) 0 a) ∷ [])
        = subst (λ (t : Tree). Walked w1 w2 (faults (over_rows s.sources) 0 a ++ total_faults f t) 1 (sum_of f t ∷ [])) tree_is m.1 in
        record {
          tree = m.0 ∙ ap (λ (n : ℕ). typed (column n) (total_type f (ty_of (tree_of x)))) next_is ∙ ap (λ (t : Tree). typed (column w0.next) (total_type f (ty_of t))) tree_is;
          walk = subst (λ (fs : List SqlState). Walked w0 w2 fs 1 (sum_of f (bound (over_rows s.sources) 0 a) ∷ []))
              (sym (append_assoc (call_faults s.keys) (faults (over_rows s.sources) 0 a) (total_faults f (bound (over_rows s.sources) 0 a))))
              (walked_on w0 w1 w2 (call_faults s.keys) (faults (over_rows s.sources) 0 a ++ total_faults f (bound (over_rows s.sources) 0 a)) 0 1 [] (sum_of f (bound (over_rows s.sources) 0 a) ∷ []) h there);
        }

pub at : {s : Scope} {a b : Expression} {w0 w1 : Walk} {x : Expr} → a ≡ b → Binds s a w0 w1 x → Binds s b w0 w1 x
at {s} {a} {b} {w0} {w1} {x} h k = subst (λ (e : Expression). Binds s e w0 w1 x) h k

-- a name: what it stands for, and that it is a key
pub named_is : (keys : Option (List ℕ)) (spot : SpotInCode) (so : Spot) (fs : List SqlState) → spot_of spot ≡ so → (w0 w1 w2 : Walk) → Walked w0 w1 fs 0 []
    → Walked w1 w2 (key_faults keys spot.place) 0 [] → (r : Result Expr AllocError) → IfOk r (λ x. tree_of x ≡ typed (column (place_in keys spot.place)) spot.ty)
    → IfOk r (λ x. (tree_of x ≡ typed (column (place_in keys so.place)) so.ty) × Walked w0 w2 (fs ++ key_faults keys so.place) 0 [])
named_is keys spot so fs is w0 w1 w2 h k r made = if_ok _ _ r made (λ x m. (
  m ∙ ap (λ (p : Spot). typed (column (place_in keys p.place)) p.ty) is,
  walked_on w0 w1 w2 fs (key_faults keys so.place) 0 0 [] [] h (subst (λ (p : Spot). Walked w1 w2 (key_faults keys p.place) 0 []) is k),
))

-- an aggregate behind the walk over its operand
pub called_walk : (w0 i w1 w2 : Walk) (fs gs : List SqlState) (ts : List Sum) → i.fault ≡ kept w0.fault fs
    → Walked (record { fault = i.fault; next = w0.next; totals = w0.totals }) w1 gs 0 [] → Walked w1 w2 [] 1 ts → Walked w0 w2 (fs ++ gs) 1 ts
called_walk w0 i w1 w2 fs gs ts h j k =
    let m : Walk = record { fault = i.fault; next = w0.next; totals = w0.totals } in
    let first : Walked w0 m fs 0 [] = record {
      fault = h;
      next = (let n : w0.next ≡ w0.next + 0 = omega arith in n);
      totals = sym (append-nil (map sum_in w0.totals));
    } in
    let behind : Walked m w2 (gs ++ []) 1 ts = walked_on m w1 w2 gs [] 0 1 [] ts j k in
    subst (λ (l : List SqlState). Walked w0 w2 (fs ++ l) 1 ts) (append-nil gs) (walked_on w0 m w2 fs (gs ++ []) 0 1 [] ts first behind)

pub place_is : (w0 i w1 : Walk) (gs : List SqlState) (n : ℕ) → n ≡ w1.next → Walked (record { fault = i.fault; next = w0.next; totals = w0.totals }) w1 gs 0 [] → n ≡ w0.next
place_is w0 i w1 gs n h k = let on : w1.next ≡ w0.next + 0 = k.next in let here : n ≡ w1.next = h in omega arith

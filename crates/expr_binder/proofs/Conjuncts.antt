-- Conditions, split into their conjuncts.
use Rattle.std.proofs.Common.{◌≡◌, ℕ, ◌+◌, List, [], ◌∷◌, ◌++◌, Result, Ok, Err, refl, sym, ap, ◌∙◌, subst, append_assoc, append-nil}
use Rattle.std.specs.Prelude.{OnOk}
use Rattle.dby_types.specs.declared.state.SqlState.{SqlState}
use Rattle.dby_types.specs.declared.value.Ty.TheVariants.{Bool as Truths}
use Rattle.sql_ast.specs.declared.bound.Expr.{Expr}
use Rattle.sql_ast.specs.declared.expression.Expression.{Expression, And', Brackets'}
use Rattle.sql_binding.specs.Expressions.{over_rows, bound, calls}
use Rattle.sql_binding.specs.Faults.{faults, operand_faults, as_truth}
use Rattle.sql_binding.specs.Grouping.{sums_in}
use Rattle.sql_binding.specs.Names.{Source}
use Rattle.sql_binding.specs.Trees.{Tree, tree_of, trees_of, conjuncts_in}
use Rattle.expr_binder.proofs.Arms.{goes_on, tested}
use Rattle.expr_binder.specs.Splitting.{IsAlone, Splits}
use Rattle.expr_binder.specs.Walking.{Binds, Walked}
use Rattle.expr_binder.specs.declared.walk.Walk.{Walk}

trees_both : (xs ys : List Expr) → trees_of (xs ++ ys) ≡ trees_of xs ++ trees_of ys
trees_both [] ys = refl
trees_both (x ∷ xs) ys = ap (λ (ts : List Tree). tree_of x ∷ ts) (trees_both xs ys)

pub alone_splits : (ss : List Source) (e : Expression) (w0 w1 w2 : Walk) (x : Expr) (before after : List Expr) → IsAlone e → Binds (over_rows ss) e w0 w1 x
    → Walked w1 w2 (operand_faults Truths (tree_of x)) 0 [] → after ≡ before ++ x ∷ [] → Splits ss e w0 w2 before after
alone_splits ss e w0 w1 w2 x before after alone h k more = record {
  parts = ap trees_of more ∙ trees_both before (x ∷ []) ∙ ap (λ (t : Tree). trees_of before ++ t ∷ []) h.tree
      ∙ ap (λ (ts : List Tree). trees_of before ++ ts) (sym (alone (over_rows ss) w0.next));
  walk = tested w0 w1 w2 (faults (over_rows ss) w0.next e) (operand_faults Truths (bound (over_rows ss) w0.next e)) (calls e) (sums_in ss e) h.walk
      (subst (λ (t : Tree). Walked w1 w2 (operand_faults Truths t) 0 []) h.tree k);
}

abbrev truths : List Source → Expression → ℕ → List SqlState
truths ss e n = as_truth (faults (over_rows ss) n e) (bound (over_rows ss) n e)

pub and_splits : (ss : List Source) (e : Expression) (p : _) (a : Expression) (q : _) (b : Expression) → e ≡ And' p a q b → (w0 w1 w2 : Walk) (xs ys zs : List Expr)
    → Splits ss a w0 w1 xs ys → Splits ss b w1 w2 ys zs → Splits ss e w0 w2 xs zs
and_splits ss e p a q b is w0 w1 w2 xs ys zs h k = subst (λ (d : Expression). Splits ss d w0 w2 xs zs) (sym is) (record {
  parts = k.parts ∙ ap (λ (ts : List Tree). ts ++ conjuncts_in (bound (over_rows ss) w1.next b)) h.parts
      ∙ append_assoc (trees_of xs) (conjuncts_in (bound (over_rows ss) w0.next a)) (conjuncts_in (bound (over_rows ss) w1.next b))
      ∙ ap (λ (n : ℕ). trees_of xs ++ (conjuncts_in (bound (over_rows ss) w0.next a) ++ conjuncts_in (bound (over_rows ss) n b))) h.walk.next;
  walk = subst (λ (fs : List SqlState). Walked w0 w2 fs (calls a + calls b) (sums_in ss a ++ sums_in ss b))
      (sym (append-nil (truths ss a w0.next ++ truths ss b (w0.next + calls a))))
      (goes_on (truths ss a) (truths ss b) (calls a) (calls b) (sums_in ss a) (sums_in ss b) w0 w1 w2 h.walk k.walk);
})

pub brackets_splits : (ss : List Source) (e : Expression) (p : _) (a : Expression) → e ≡ Brackets' p a → (w0 w1 : Walk) (xs ys : List Expr)
    → Splits ss a w0 w1 xs ys → Splits ss e w0 w1 xs ys
brackets_splits ss e p a is w0 w1 xs ys h = subst (λ (d : Expression). Splits ss d w0 w1 xs ys) (sym is) (record { parts = h.parts; walk = h.walk })

pub to_part : {ss : List Source} {a b : Expression} {w0 w1 : Walk} {xs ys : List Expr} → a ≡ b → Splits ss a w0 w1 xs ys → Splits ss b w0 w1 xs ys
to_part {ss} {a} {b} {w0} {w1} {xs} {ys} h k = subst (λ (e : Expression). Splits ss e w0 w1 xs ys) h k

pub on_ok : {X E : Type 0} (P Q : Type 0) (r : Result X E) → OnOk r P → (P → Q) → OnOk r Q
on_ok P Q (Ok x) h f = f h
on_ok P Q (Err e) h f = tt

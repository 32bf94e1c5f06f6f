-- Conditions, one behind the other.
use Rattle.std.proofs.Common.{◌≡◌, ℕ, ◌+◌, ◌<◌, ◌≤◌, List, [], ◌∷◌, ◌++◌, length, drop, drop_of_length-le, get_or, Option, Some, None, refl, sym, ap, ◌∙◌, subst, append_assoc, append-nil}
use Rattle.change_binder.proofs.Chains.{behind, next_item}
use Rattle.dby_types.specs.declared.state.SqlState.{SqlState}
use Rattle.expr_binder.specs.Splitting.{Splits}
use Rattle.expr_binder.specs.Walking.{kept}
use Rattle.expr_binder.specs.declared.walk.Walk.{Walk}
use Rattle.query_binder.specs.Showing.{Tests, Joins}
use Rattle.sql_ast.specs.declared.bound.Expr.{Expr}
use Rattle.sql_ast.specs.declared.expression.Expression.{Expression}
use Rattle.sql_ast.specs.declared.statement.FromText.{FromText}
use Rattle.sql_ast.specs.declared.statement.JoinText.{JoinText}
use Rattle.sql_ast.specs.declared.statement.SelectText.{SelectText}
use Rattle.sql_binding.specs.Expressions.{bound_over, conjuncts_of}
use Rattle.sql_binding.specs.Faults.{as_truth, condition_faults, faults_over}
use Rattle.sql_binding.specs.From.{joined_conditions, listed, on_conditions}
use Rattle.sql_binding.specs.Names.{Source}
use Rattle.sql_binding.specs.Trees.{Tree, trees_of, conjuncts_in}

-- a condition was split, by a walk that begins here
pub tested_one : (ss : List Source) (e : Expression) (f g : Option SqlState) (a b : Walk) (xs ys : List Expr) → a.fault ≡ f → a.next ≡ 0 → b.fault ≡ g → Splits ss e a b xs ys → Tests ss (e ∷ []) f g xs ys
tested_one ss e f g a b xs ys start at end h =
    let from : Splits ss e (record { fault = f; next = 0; totals = a.totals }) b xs ys = subst (λ (o : Option SqlState). Splits ss e (record { fault = o; next = 0; totals = a.totals }) b xs ys) start
    (subst (λ (n : ℕ). Splits ss e (record { fault = a.fault; next = n; totals = a.totals }) b xs ys) at h) in
    record {
      parts = from.parts ∙ ap (λ (ts : List Tree). trees_of xs ++ ts) (sym (append-nil (conjuncts_in (bound_over ss e))));
      fault = sym end ∙ from.walk.fault ∙ ap (kept f) (sym (append-nil (as_truth (faults_over ss e) (bound_over ss e))));
    }

conjuncts_both : (ss : List Source) (cs ds : List Expression) → conjuncts_of ss (cs ++ ds) ≡ conjuncts_of ss cs ++ conjuncts_of ss ds
conjuncts_both ss [] ds = refl
conjuncts_both ss (c ∷ cs) ds = ap (λ (l : List Tree). conjuncts_in (bound_over ss c) ++ l) (conjuncts_both ss cs ds)
    ∙ sym (append_assoc (conjuncts_in (bound_over ss c)) (conjuncts_of ss cs) (conjuncts_of ss ds))

faults_both : (ss : List Source) (cs ds : List Expression) → condition_faults ss (cs ++ ds) ≡ condition_faults ss cs ++ condition_faults ss ds
faults_both ss [] ds = refl
faults_both ss (c ∷ cs) ds = ap (λ (l : List SqlState). as_truth (faults_over ss c) (bound_over ss c) ++ l) (faults_both ss cs ds)
    ∙ sym (append_assoc (as_truth (faults_over ss c) (bound_over ss c)) (condition_faults ss cs) (condition_faults ss ds))

pub tests_both : (ss : List Source) (cs ds : List Expression) (f g h : Option SqlState) (xs ys zs : List Expr) → Tests ss cs f g xs ys → Tests ss ds g h ys zs → Tests ss (cs ++ ds) f h xs zs
tests_both ss cs ds f g h xs ys zs a b = record {
  parts = b.parts ∙ ap (λ (l : List Tree). l ++ conjuncts_of ss ds) a.parts ∙ append_assoc (trees_of xs) (conjuncts_of ss cs) (conjuncts_of ss ds)
      ∙ ap (λ (l : List Tree). trees_of xs ++ l) (sym (conjuncts_both ss cs ds));
  fault = behind f g h (condition_faults ss cs) (condition_faults ss ds) a.fault b.fault ∙ ap (kept f) (sym (faults_both ss cs ds));
}

kept_none : (o : Option SqlState) → o ≡ kept o []
kept_none None = refl
kept_none (Some why) = refl

pub tests_none : (ss : List Source) (f : Option SqlState) (xs : List Expr) → Tests ss [] f f xs xs
tests_none ss f xs = record { parts = sym (append-nil (trees_of xs)); fault = kept_none f }

-- what is left of a loop: with the rest it is all
pub record JoinedTests (ss : List Source) (joins : List JoinText) (i : ℕ) (f g : Option SqlState) (xs ys : List Expr) : Type 0 where
  pub rest : (h : Option SqlState) (zs : List Expr) → Tests ss (joined_conditions (drop i joins)) g h ys zs → Tests ss (joined_conditions joins) f h xs zs

pub record OnTests (ss : List Source) (from : List FromText) (i : ℕ) (f g : Option SqlState) (xs ys : List Expr) : Type 0 where
  pub rest : (h : Option SqlState) (zs : List Expr) → Tests ss (on_conditions (drop i from)) g h ys zs → Tests ss (on_conditions from) f h xs zs

pub joined_begins : (ss : List Source) (joins : List JoinText) (f : Option SqlState) (xs : List Expr) → JoinedTests ss joins 0 f f xs xs
joined_begins ss joins f xs = record { rest = λ h zs t. t }

pub joined_more : (ss : List Source) (joins : List JoinText) (i : ℕ) (j : JoinText) (f g h : Option SqlState) (xs ys zs : List Expr) → i < length joins → j ≡ get_or joins i j
    → JoinedTests ss joins i f g xs ys → Tests ss (j.condition ∷ []) g h ys zs → JoinedTests ss joins (i + 1) f h xs zs
joined_more ss joins i j f g h xs ys zs k is l more = record {
  rest = λ u vs t. l.rest u vs (subst (λ (js : List JoinText). Tests ss (joined_conditions js) g u ys vs) (sym (next_item joins i j k is))
      (tests_both ss (j.condition ∷ []) (joined_conditions (drop (i + 1) joins)) g h u ys zs vs more t));
}

pub joined_ends : (ss : List Source) (joins : List JoinText) (i : ℕ) (f g : Option SqlState) (xs ys : List Expr) → length joins ≤ i → JoinedTests ss joins i f g xs ys
    → Tests ss (joined_conditions joins) f g xs ys
joined_ends ss joins i f g xs ys h l = l.rest g ys (subst (λ (js : List JoinText). Tests ss (joined_conditions js) g g ys ys) (sym (drop_of_length-le joins h)) (tests_none ss g ys))

pub on_begins : (ss : List Source) (from : List FromText) (f : Option SqlState) (xs : List Expr) → OnTests ss from 0 f f xs xs
on_begins ss from f xs = record { rest = λ h zs t. t }

pub on_more : (ss : List Source) (from : List FromText) (i : ℕ) (t : FromText) (f g h : Option SqlState) (xs ys zs : List Expr) → i < length from → t ≡ get_or from i t
    → OnTests ss from i f g xs ys → {js : List JoinText} → js ≡ t.joins → Tests ss (joined_conditions js) g h ys zs → OnTests ss from (i + 1) f h xs zs
on_more ss from i t f g h xs ys zs k is l {js} at own = let more : Tests ss (joined_conditions t.joins) g h ys zs = subst (λ (ks : List JoinText). Tests ss (joined_conditions ks) g h ys zs) at own in record {
  rest = λ u vs r. l.rest u vs (subst (λ (ts : List FromText). Tests ss (on_conditions ts) g u ys vs) (sym (next_item from i t k is))
      (tests_both ss (joined_conditions t.joins) (on_conditions (drop (i + 1) from)) g h u ys zs vs more r));
}

pub on_ends : (ss : List Source) (from : List FromText) (i : ℕ) (f g : Option SqlState) (xs ys : List Expr) → length from ≤ i → OnTests ss from i f g xs ys
    → Tests ss (on_conditions from) f g xs ys
on_ends ss from i f g xs ys h l = l.rest g ys (subst (λ (ts : List FromText). Tests ss (on_conditions ts) g g ys ys) (sym (drop_of_length-le from h)) (tests_none ss g ys))

pub joins_all : (ss : List Source) (q : SelectText) (f g h : Option SqlState) (xs ys zs : List Expr) → xs ≡ [] → {from : List FromText} → from ≡ q.from → Tests ss (on_conditions from) f g xs ys → Tests ss (listed q.condition) g h ys zs
    → Joins ss q f h zs
joins_all ss q f g h xs ys zs none {from} at own b =
    let a : Tests ss (on_conditions q.from) f g xs ys = subst (λ (fs : List FromText). Tests ss (on_conditions fs) f g xs ys) at own in
    let both : Tests ss (on_conditions q.from ++ listed q.condition) f h xs zs = tests_both ss (on_conditions q.from) (listed q.condition) f g h xs ys zs a b in
    record {
      parts = both.parts ∙ ap (λ (es : List Expr). trees_of es ++ conjuncts_of ss (on_conditions q.from ++ listed q.condition)) none;
      fault = both.fault;
    }

-- A condition and its conjuncts.
use Rattle.std.specs.Prelude.{◌≡◌, ℕ, List, [], ◌∷◌, ◌++◌}
use Rattle.expr_binder.specs.declared.walk.Walk.{Walk}
use Rattle.expr_binder.specs.Walking.{Walked}
use Rattle.sql_ast.specs.declared.bound.Expr.{Expr}
use Rattle.sql_ast.specs.declared.expression.Expression.{Expression}
use Rattle.sql_binding.specs.Expressions.{Scope, over_rows, bound, calls}
use Rattle.sql_binding.specs.Faults.{faults, as_truth}
use Rattle.sql_binding.specs.Grouping.{sums_in}
use Rattle.sql_binding.specs.Names.{Source}
use Rattle.sql_binding.specs.Trees.{trees_of, conjuncts_in}

-- an expression whose bound tree is one conjunct
abbrev pub IsAlone : Expression → Type 0
IsAlone e = (s : Scope) (n : ℕ) → conjuncts_in (bound s n e) ≡ bound s n e ∷ []

-- A CONDITION IS BOUND: its conjuncts stand behind those that were there
pub record Splits (ss : List Source) (e : Expression) (a b : Walk) (before after : List Expr) : Type 0 where
  pub parts : trees_of after ≡ trees_of before ++ conjuncts_in (bound (over_rows ss) a.next e)
  pub walk : Walked a b (as_truth (faults (over_rows ss) a.next e) (bound (over_rows ss) a.next e)) (calls e) (sums_in ss e)

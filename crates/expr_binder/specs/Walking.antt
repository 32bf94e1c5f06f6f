-- A walk over a statement: what it has found so far.
use Rattle.std.specs.Prelude.{◌≡◌, ℕ, ◌+◌, List, ◌++◌, map, Option}
use Rattle.dby_types.specs.declared.state.SqlState.{SqlState}
use Rattle.expr_binder.specs.declared.walk.Walk.{Walk}
use Rattle.sql_ast.specs.declared.bound.Expr.{Expr}
use Rattle.sql_ast.specs.declared.expression.Expression.{Expression}
use Rattle.sql_binding.specs.Bound.{Sum, sum_in}
use Rattle.sql_binding.specs.Expressions.{Scope, bound, calls}
use Rattle.sql_binding.specs.Faults.{faults}
use Rattle.sql_binding.specs.Grouping.{sums_in}
use Rattle.sql_binding.specs.Order.{kept_with, refusal_of}
use Rattle.sql_binding.specs.Trees.{tree_of}

-- the fault that is told of those so far, and of some behind them
abbrev pub kept : Option SqlState → List SqlState → Option SqlState
kept so_far fs = kept_with so_far (refusal_of fs)

-- A WALK ON: these faults were met, so many aggregates, and these of them to compute
pub record Walked (a b : Walk) (fs : List SqlState) (n : ℕ) (sums : List Sum) : Type 0 where
  pub fault : b.fault ≡ kept a.fault fs
  pub next : b.next ≡ a.next + n
  pub totals : map sum_in b.totals ≡ map sum_in a.totals ++ sums

-- AN EXPRESSION IS BOUND by a walk over it
pub record Binds (s : Scope) (e : Expression) (a b : Walk) (x : Expr) : Type 0 where
  pub tree : tree_of x ≡ bound s a.next e
  pub walk : Walked a b (faults s a.next e) (calls e) (sums_in s.sources e)

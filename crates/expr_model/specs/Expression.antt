-- What an expression gives of a row.
use Rattle.std.specs.Prelude.{ℕ, ◌-◌, List, [], ◌∷◌, false, slice_index_or}
use Rattle.dby_types.specs.declared.value.Ty.{Ty}
use Rattle.dby_types.specs.declared.value.Value.{Value}
use Rattle.dby_types.specs.declared.value.Value.TheVariants.{Null}
use Rattle.dby_types.specs.declared.value.Value.TheVariants.{Bool as Truth}
use Rattle.expr_model.specs.Arithmetic.{arithmetic, negated, denied, on_value, on_values, compared_values, and_values, or_values}
use Rattle.expr_model.specs.declared.evaluated.Evaluated.{Evaluated}
use Rattle.expr_model.specs.declared.evaluated.Evaluated.TheVariants.{Value as Gives}
use Rattle.sql_ast.specs.declared.bound.Expr.{Expr}
use Rattle.sql_ast.specs.declared.bound.Node.{Node, Column, Literal, Arithmetic', Negated', Compare', IsNull', Between', In', And', Or', Not', Row_of-Expr, end_of-Expr, more_of-Expr}
use Rattle.sql_ast.specs.declared.expression.Comparison.TheVariants.{Equal, LessEqual, GreaterEqual}
use Rattle.value_compare.specs.Logic.{not_of, is_null}

-- the columns of a row that stands from a place on in the joined row
abbrev pub columns_from : ℕ → List Value → ℕ → Value
columns_from at row n = slice_index_or row (n - at) Null

abbrev mutual
  -- the value of a node of this type, operands from left to right
  pub node_value : Node → Ty → (ℕ → Value) → Evaluated
  node_value (Column n) ty row = Gives (row n)
  node_value (Literal v) ty row = Gives v
  node_value (Arithmetic' op p a s q b t) ty row = on_values (node_value a s row) (node_value b t row) (λ x y. arithmetic op ty x y)
  node_value (Negated' p a s) ty row = on_value (node_value a s row) (λ x. negated ty x)
  node_value (Compare' op p a s q b t) ty row = compared_values op (node_value a s row) (node_value b t row)
  node_value (IsNull' deny p a s) ty row = on_value (node_value a s row) (λ x. Gives (denied deny (Truth (is_null x))))
  -- a BETWEEN b AND c is a >= b AND a <= c
  node_value (Between' deny p a s q b t r c u) ty row =
      on_value (and_values (compared_values GreaterEqual (node_value a s row) (node_value b t row)) (compared_values LessEqual (node_value a s row) (node_value c u row)))
      (λ x. Gives (denied deny x))
  -- a IN (b, c) is a = b OR a = c
  node_value (In' deny p a s shape members) ty row =
      on_value (node_value a s row) (λ x. on_value (any_equal (Gives (Truth false)) x members row) (λ found. Gives (denied deny found)))
  node_value (And' p a s q b t) ty row = and_values (node_value a s row) (node_value b t row)
  node_value (Or' p a s q b t) ty row = or_values (node_value a s row) (node_value b t row)
  node_value (Not' p a s) ty row = on_value (node_value a s row) (λ x. Gives (not_of x))

  -- what has been found, OR x equals one of these
  pub any_equal : {m : _} → Evaluated → Value → Row_of-Expr m → (ℕ → Value) → Evaluated
  any_equal found x end_of-Expr row = found
  any_equal found x (more_of-Expr b t rest) row = any_equal (or_values found (compared_values Equal (Gives x) (node_value b t row))) x rest row

-- the value of an expression over the columns of a joined row
abbrev pub value_of : Expr → (ℕ → Value) → Evaluated
value_of e row = node_value e.node e.ty row

-- the same over a list of expressions
abbrev pub any_equal_in : Evaluated → Value → List Expr → (ℕ → Value) → Evaluated
any_equal_in found x [] row = found
any_equal_in found x (e ∷ es) row = any_equal_in (or_values found (compared_values Equal (Gives x) (value_of e row))) x es row

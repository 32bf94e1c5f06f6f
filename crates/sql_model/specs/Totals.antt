-- The totals of a group.
use Rattle.std.specs.Prelude.{pos, List, [], ◌∷◌, length}
use Rattle.std.specs.List.{filter_map}
use Rattle.dby_types.specs.declared.state.SqlState.{SqlState}
use Rattle.dby_types.specs.declared.value.Value.TheVariants.{Num}
use Rattle.expr_model.specs.Expression.{value_of, columns_from}
use Rattle.expr_model.specs.Totals.{aggregate_of}
use Rattle.expr_model.specs.declared.evaluated.Evaluated.{Evaluated}
use Rattle.expr_model.specs.declared.evaluated.Evaluated.TheVariants.{Value as Gives}
use Rattle.sql_ast.specs.declared.bound.Expr.{Expr}
use Rattle.sql_ast.specs.declared.bound.Total.{Total}
use Rattle.sql_ast.specs.declared.bound.Total.TheVariants.{CountAll, Over}
use Rattle.sql_model.specs.Lines.{values_of, values_in, refusal_in}
use Rattle.sql_model.specs.Tuples.{Row}

-- the operands of totals, from left to right
abbrev pub operands_of : List Total → List Expr
operands_of [] = []
operands_of (CountAll ∷ ts) = operands_of ts
operands_of (Over a e ∷ ts) = e ∷ operands_of ts

-- an operand over each row
abbrev pub operand_values : Expr → List Row → List Evaluated
operand_values e [] = []
operand_values e (r ∷ rs) = value_of e (columns_from 0 r) ∷ operand_values e rs

-- A TOTAL of a group's rows: of no row, COUNT is 0 and the others are NULL
abbrev pub total_of : List Row → Total → Evaluated
total_of rows CountAll = Gives (Num (pos (length rows)))
total_of rows (Over a e) = aggregate_of a e.ty (values_in (operand_values e rows))

abbrev pub totals_of : List Total → List Row → List Evaluated
totals_of [] rows = []
totals_of (t ∷ ts) rows = total_of rows t ∷ totals_of ts rows

-- the operands of one row after the other
abbrev pub operand_lines : List Total → List Row → List (List Evaluated)
operand_lines ts [] = []
operand_lines ts (r ∷ rs) = values_of (operands_of ts) r ∷ operand_lines ts rs

-- each total that refuses
abbrev pub total_refusals : List Total → List Row → List SqlState
total_refusals ts rows = filter_map refusal_in (totals_of ts rows)

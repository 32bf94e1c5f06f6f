-- Totals: of no row, and of all rows.
use Rattle.std.proofs.Common.{◌≡◌, ◌≢◌, ℤ, pos, ◌+ℤ◌, true, false, List, [], ◌∷◌, ◌++◌, length, map, Some, refl, ap, ◌∙◌, arith}
use Rattle.std.proofs.lemmas.Int.{ints}
use Rattle.dby_types.specs.declared.value.Value.{Value}
use Rattle.expr_model.proofs.TotalLemmas.{sum_of-known}
use Rattle.expr_model.specs.Arithmetic.{in_range}
use Rattle.expr_model.specs.Totals.{known, number_in, total_from}
use Rattle.sql_ast.specs.declared.bound.Expr.{Expr}
use Rattle.sql_ast.specs.declared.bound.Grouping.{Grouping}
use Rattle.sql_ast.specs.declared.bound.Total.TheVariants.{Over}
use Rattle.sql_ast.specs.declared.expression.Aggregate.TheVariants.{Sum}
use Rattle.sql_model.specs.Groups.{first_groups}
use Rattle.sql_model.specs.Lines.{values_in}
use Rattle.sql_model.specs.Query.{base_rows, group_row}
use Rattle.sql_model.specs.Totals.{operand_values, total_of, totals_of}
use Rattle.sql_model.specs.Tuples.{Row}

-- where there is no row, all rows are one group; and by columns there is none
pub one_row : (g : Grouping) → g.whole ≡ true → base_rows (Some g) [] ≡ values_in (totals_of g.totals []) ∷ []
one_row g h = ap (λ w. map (group_row g) (first_groups w)) h

pub no_group : (g : Grouping) → g.whole ≡ false → base_rows (Some g) [] ≡ []
no_group g h = ap (λ w. map (group_row g) (first_groups w)) h

-- a total from another start
total_shift : (s : ℤ) (vs : List Value) → total_from s vs ≡ s +ℤ total_from (pos 0) vs
total_shift s [] = omega (arith, ints)
total_shift s (v ∷ vs) =
    let here : total_from (s +ℤ number_in v) vs ≡ (s +ℤ number_in v) +ℤ total_from (pos 0) vs = total_shift (s +ℤ number_in v) vs in
    let there : total_from (pos 0 +ℤ number_in v) vs ≡ (pos 0 +ℤ number_in v) +ℤ total_from (pos 0) vs = total_shift (pos 0 +ℤ number_in v) vs in
    omega (arith, ints)

total_append : (s : ℤ) (vs ws : List Value) → total_from s (vs ++ ws) ≡ total_from (total_from s vs) ws
total_append s [] ws = refl
total_append s (v ∷ vs) ws = total_append (s +ℤ number_in v) vs ws

-- the whole total is that of its parts, in either order
pub total_of_parts : (vs ws : List Value) → total_from (pos 0) (vs ++ ws) ≡ total_from (pos 0) vs +ℤ total_from (pos 0) ws
total_of_parts vs ws = total_append (pos 0) vs ws ∙ total_shift (total_from (pos 0) vs) ws

pub sum_of_all : (e : Expr) (rows : List Row) → length (known (values_in (operand_values e rows))) ≢ 0
    → total_of rows (Over Sum e) ≡ in_range e.ty (total_from (pos 0) (values_in (operand_values e rows)))
sum_of_all e rows h = sum_of-known e.ty (values_in (operand_values e rows)) h

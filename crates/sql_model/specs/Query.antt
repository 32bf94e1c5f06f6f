-- What a query makes of its joined list: a function of the joined rows alone.
use Rattle.std.specs.Prelude.{◌≡◌, List, [], ◌∷◌, ◌++◌, map, Option, Some, None}
use Rattle.std.specs.List.{flat_map}
use Rattle.std.specs.List.Sorted.{IsSorted, IsPermutation}
use Rattle.dby_types.specs.declared.state.SqlState.{SqlState}
use Rattle.expr_model.specs.declared.evaluated.Evaluated.{Evaluated}
use Rattle.sql_ast.specs.declared.bound.BoundSelect.{BoundSelect}
use Rattle.sql_ast.specs.declared.bound.Expr.{Expr}
use Rattle.sql_ast.specs.declared.bound.Grouping.{Grouping}
use Rattle.sql_ast.specs.declared.bound.Out.{Out}
use Rattle.sql_model.specs.Groups.{Group, groups_of}
use Rattle.sql_model.specs.Lines.{values_of, values_in, refusals_of, unless}
use Rattle.sql_model.specs.Order.{order_cmp}
use Rattle.sql_model.specs.Rows.{distinct_if}
use Rattle.sql_model.specs.Totals.{totals_of, operand_lines, total_refusals}
use Rattle.sql_model.specs.Tuples.{Row}

abbrev pub expressions_of : List Out → List Expr
expressions_of [] = []
expressions_of (o ∷ os) = o.expression ∷ expressions_of os

-- the row of a group: its key, and then its totals
abbrev pub group_row : Grouping → Group → Row
group_row g group = group.key ++ values_in (totals_of g.totals group.rows)

-- the rows of which the select items are computed: the joined rows, or those of the groups
abbrev pub base_rows : Option Grouping → List Row → List Row
base_rows None rows = rows
base_rows (Some g) rows = map (group_row g) (groups_of g rows)

-- the select items of each of them
abbrev pub shown_lines : List Expr → List Row → List (List Evaluated)
shown_lines es [] = []
shown_lines es (r ∷ rs) = values_of es r ∷ shown_lines es rs

-- THE BAG of a query, as a list
abbrev pub answer_rows : BoundSelect → List Row → List Row
answer_rows q rows = distinct_if q.distinct (map values_in (shown_lines (expressions_of q.outs) (base_rows q.grouping rows)))

-- what a group refuses: an operand over one of its rows; a total, where all operands have values; a select item, where all totals have values
abbrev pub group_refusals : List Expr → Grouping → Group → List SqlState
group_refusals es g group =
    unless (refusals_of (operand_lines g.totals group.rows))
    (unless (total_refusals g.totals group.rows) (refusals_of (values_of es (group_row g group) ∷ [])))

-- THE REFUSALS of what stands behind WHERE: those that some tuple, total or row gives
abbrev pub shown_refusals : Option Grouping → List Expr → List Row → List SqlState
shown_refusals None es rows = refusals_of (shown_lines es rows)
shown_refusals (Some g) es rows = flat_map (group_refusals es g) (groups_of g rows)

abbrev pub finish_refusals : BoundSelect → List Row → List SqlState
finish_refusals q rows = shown_refusals q.grouping (expressions_of q.outs) rows

-- ROWS AGREE with a bag: the same rows equally often, and they never descend by ORDER BY
pub record Agrees (q : BoundSelect) (bag rows : List Row) : Type 0 where
  pub same : IsPermutation bag rows
  pub sorted : IsSorted (order_cmp q.order) rows

-- what a query's answer is to its joined rows
pub record Finishes (q : BoundSelect) (joined rows : List Row) : Type 0 where
  pub quiet : finish_refusals q joined ≡ []
  pub agrees : Agrees q (answer_rows q joined) rows

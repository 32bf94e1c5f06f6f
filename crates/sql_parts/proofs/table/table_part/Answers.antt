use Rattle.std.proofs.Common.{◌∙◌, sym}
use Rattle.sql_grammar.specs.Grammar.{table_part, column}
use Rattle.sql_tokens.proofs.Orders.{left_ok, right_ok}
use Rattle.sql_parts.proofs.table.table_part.Goals as goal

pub returns-then-is_next : goal.returns-then-is_next
unfolding table_part column
returns-then-is_next c =
    right_ok _ _ _ _ _ (sym c.is_name_next.ensures ∙ c.if-is_name_next.false)
    (left_ok _ _ _ _ _ (sym c.is_next.ensures ∙ c.if-is_next.true) c.in_ok-columns.ensures)

pub returns : goal.returns
unfolding table_part column
returns c =
    right_ok _ _ _ _ _ (sym c.is_name_next.ensures ∙ c.if-is_name_next.false)
    (right_ok _ _ _ _ _ (sym c.is_next.ensures ∙ c.if-is_next.false) c.in_ok-columns-2.ensures)

use Rattle.std.proofs.Common.{◌∙◌, sym}
use Rattle.sql_grammar.specs.Grammar.{mark}
use Rattle.sql_tokens.proofs.Orders.{left_ok, right_ok, skip_ok}
use Rattle.sql_parts.proofs.table.mark.Goals as goal

pub returns-then-is_next-2 : goal.returns-then-is_next-2
unfolding mark
returns-then-is_next-2 c =
    right_ok _ _ _ _ _ (sym c.is_next.ensures ∙ c.if-is_next.false)
    (left_ok _ _ _ _ _ (sym c.is_next-2.ensures ∙ c.if-is_next-2.true)
    (skip_ok _ _ _ _ _ _ _ c.in_ok-token-3.ensures c.in_ok-token-4.ensures))

pub returns : goal.returns
unfolding mark
returns c =
    right_ok _ _ _ _ _ (sym c.is_next.ensures ∙ c.if-is_next.false)
    (right_ok _ _ _ _ _ (sym c.is_next-2.ensures ∙ c.if-is_next-2.false) c.in_ok-token-5.ensures)

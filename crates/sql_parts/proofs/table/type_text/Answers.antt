use Rattle.std.proofs.Common.{◌∙◌, sym}
use Rattle.sql_grammar.specs.Grammar.{type_rule}
use Rattle.sql_tokens.proofs.Orders.{left_ok, right_ok}
use Rattle.sql_parts.proofs.table.type_text.Goals as goal

pub returns-then-is_integer_next : goal.returns-then-is_integer_next
unfolding type_rule
returns-then-is_integer_next c =
    right_ok _ _ _ _ _ (sym c.is_next.ensures ∙ c.if-is_next.false)
    (left_ok _ _ _ _ _ (sym c.is_integer_next.ensures ∙ c.if-is_integer_next.true) c.in_ok-integer.ensures)

pub returns-then-is_next-2 : goal.returns-then-is_next-2
unfolding type_rule
returns-then-is_next-2 c =
    right_ok _ _ _ _ _ (sym c.is_next.ensures ∙ c.if-is_next.false)
    (right_ok _ _ _ _ _ (sym c.is_integer_next.ensures ∙ c.if-is_integer_next.false)
    (left_ok _ _ _ _ _ (sym c.is_next-2.ensures ∙ c.if-is_next-2.true) c.in_ok-token-2.ensures))

pub returns-then-is_next-3 : goal.returns-then-is_next-3
unfolding type_rule
returns-then-is_next-3 c =
    right_ok _ _ _ _ _ (sym c.is_next.ensures ∙ c.if-is_next.false)
    (right_ok _ _ _ _ _ (sym c.is_integer_next.ensures ∙ c.if-is_integer_next.false)
    (right_ok _ _ _ _ _ (sym c.is_next-2.ensures ∙ c.if-is_next-2.false)
    (left_ok _ _ _ _ _ (sym c.is_next-3.ensures ∙ c.if-is_next-3.true) c.in_ok-token-3.ensures)))

pub returns : goal.returns
unfolding type_rule
returns c =
    right_ok _ _ _ _ _ (sym c.is_next.ensures ∙ c.if-is_next.false)
    (right_ok _ _ _ _ _ (sym c.is_integer_next.ensures ∙ c.if-is_integer_next.false)
    (right_ok _ _ _ _ _ (sym c.is_next-2.ensures ∙ c.if-is_next-2.false)
    (right_ok _ _ _ _ _ (sym c.is_next-3.ensures ∙ c.if-is_next-3.false) c.in_ok-n.ensures)))

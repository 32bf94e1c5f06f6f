use Rattle.std.proofs.Common.{◌∙◌, sym}
use Rattle.sql_grammar.specs.Rules.{nothing, left, right}
use Rattle.sql_tokens.proofs.Orders.{left_ok, right_ok, silent_ok}
use Rattle.sql_parts.proofs.table.integer.Goals as goal

pub returns-then-is_next : goal.returns-then-is_next
returns-then-is_next c =
    silent_ok _ _ _ (left nothing) (left_ok _ _ _ _ _ (sym c.is_next.ensures ∙ c.if-is_next.true) c.in_ok-token.ensures)

pub returns : goal.returns
returns c =
    silent_ok _ _ _ (right nothing) (right_ok _ _ _ _ _ (sym c.is_next.ensures ∙ c.if-is_next.false) c.in_ok-token-2.ensures)

use Rattle.std.proofs.Common.{◌∙◌, sym}
use Rattle.sql_grammar.specs.Grammar.{create, create_table}
use Rattle.sql_tokens.proofs.Orders.{left_ok, right_ok, skip_ok}
use Rattle.sql_parser.proofs.Forms.{create_ok}
use Rattle.sql_parser.proofs.definitions.create.Goals as goal

pub returns-then-is_next : goal.returns-then-is_next
unfolding create create_table
returns-then-is_next c =
    create_ok _ _ _ c.requires
    (skip_ok _ _ _ _ _ _ _ c.in_ok-token.ensures
    (left_ok _ _ _ _ _ (sym c.is_next.ensures ∙ c.if-is_next.true) c.in_ok-name.ensures))

pub returns : goal.returns
unfolding create create_table
returns c =
    create_ok _ _ _ c.requires
    (skip_ok _ _ _ _ _ _ _ c.in_ok-token.ensures
    (right_ok _ _ _ _ _ (sym c.is_next.ensures ∙ c.if-is_next.false) c.in_ok-unique.ensures))

use Rattle.std.proofs.Common.{◌∙◌, sym, ap, get_or}
use Rattle.sql_grammar.specs.Rules.{class_of}
use Rattle.sql_grammar.specs.Tokens.{token_from, text_of}
use Rattle.sql_tokens.proofs.Tokens.{seen_at, seen_end, starts_with, starts_end}
use Rattle.sql_tokens.proofs.token.is_next.Goals as goal

pub returns-then-at-tokens : goal.returns-then-at-tokens
returns-then-at-tokens c = sym (starts_end _ _ (seen_end _ _ c.if-at-tokens.true))

pub returns : goal.returns
returns c =
    let n = text_of (get_or c.args.tokens.now c.args.at c.index-tokens-at.result).kind in
    c.same.ensures
    ∙ sym (starts_with _ _ _ _ _ (seen_at _ _ c.index-tokens-at.result c.if-at-tokens.false) (ap (λ x. class_of (token_from x n)) (sym c.symbol_in.ensures) ∙ c.class_in.ensures n))

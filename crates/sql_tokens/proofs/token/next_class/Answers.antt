use Rattle.std.proofs.Common.{◌∙◌, sym, ap, get_or}
use Rattle.sql_grammar.specs.Rules.{class_of}
use Rattle.sql_grammar.specs.Tokens.{token_from, text_of}
use Rattle.sql_tokens.proofs.Tokens.{seen_at, starts_some}
use Rattle.sql_tokens.proofs.token.next_class.Goals as goal

pub returns : goal.returns
returns c cs =
    let n = text_of (get_or c.args.tokens.now c.args.at c.index-tokens-at.result).kind in
    starts_some _ _ _ cs _ (seen_at _ _ c.index-tokens-at.result c.if-at-tokens.false) (ap (λ x. class_of (token_from x n)) (sym c.symbol_in.ensures) ∙ c.class_in.ensures n)

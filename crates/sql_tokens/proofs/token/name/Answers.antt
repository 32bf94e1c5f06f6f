use Rattle.std.proofs.Common.{◌∙◌, ap, sym, cond, get_or, Some, None}
use Rattle.sql_grammar.specs.Rules.{a_name, named}
use Rattle.sql_grammar.specs.Tokens.{text_of}
use Rattle.sql_tokens.proofs.Tokens.{alone_read, alone_wrong}
use Rattle.sql_tokens.proofs.token.name.Goals as goal

pub returns-then-not-is_name : goal.returns-then-not-is_name
returns-then-not-is_name c =
    alone_wrong a_name (λ n. named n) _ _ c.index-tokens-at.result _ (λ n. cond c.is_name.result (Some n) None) c.if-at-tokens.false c.symbol_in.ensures c.is_name.ensures
    (ap (λ b. cond b (Some (text_of (get_or c.args.tokens.now c.args.at.now c.index-tokens-at.result).kind)) None) c.if-not-is_name.true)

pub returns : goal.returns
returns c =
    alone_read a_name (λ n. named n) _ _ c.index-tokens-at.result _ (λ n. cond c.is_name.result (Some n) None) _ c.if-at-tokens.false c.symbol_in.ensures c.is_name.ensures
    (ap (λ b. cond b (Some (text_of (get_or c.args.tokens.now c.args.at.now c.index-tokens-at.result).kind)) None) c.if-not-is_name.false
    ∙ ap (λ n. Some n) (sym (c.in-Ok.ensures ∙ c.text_in.ensures)))

use Rattle.sql_grammar.specs.Rules.{a_size, counted}
use Rattle.sql_tokens.proofs.Tokens.{alone_read, alone_wrong}
use Rattle.sql_tokens.proofs.token.size.Goals as goal

pub returns-in-None : goal.returns-in-None
returns-in-None c = alone_wrong a_size (λ n. counted n) _ _ c.index-tokens-at.result _ (λ n. c.size_in.result) c.if-at-tokens.false c.symbol_in.ensures c.size_in.ensures c.in-None.is

pub returns-in-Some : goal.returns-in-Some
returns-in-Some c = alone_read a_size (λ n. counted n) _ _ c.index-tokens-at.result _ (λ n. c.size_in.result) _ c.if-at-tokens.false c.symbol_in.ensures c.size_in.ensures c.in-Some.is

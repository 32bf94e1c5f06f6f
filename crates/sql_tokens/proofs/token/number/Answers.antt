use Rattle.sql_grammar.specs.Rules.{a_number, counted}
use Rattle.sql_tokens.proofs.Tokens.{alone_read, alone_wrong}
use Rattle.sql_tokens.proofs.token.number.Goals as goal

pub returns-in-None : goal.returns-in-None
returns-in-None c = alone_wrong a_number (λ n. counted n) _ _ c.index-tokens-at.result _ (λ n. c.number_in.result) c.if-at-tokens.false c.symbol_in.ensures c.number_in.ensures c.in-None.is

pub returns-in-Some : goal.returns-in-Some
returns-in-Some c = alone_read a_number (λ n. counted n) _ _ c.index-tokens-at.result _ (λ n. c.number_in.result) _ c.if-at-tokens.false c.symbol_in.ensures c.number_in.ensures c.in-Some.is

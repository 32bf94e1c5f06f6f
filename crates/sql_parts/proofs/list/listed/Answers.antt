use Rattle.std.proofs.Common.{◌∙◌, sym, ap, drop, [], ◌∷◌, ◌++◌}
use Rattle.sql_grammar.specs.Rules.{many, skip}
use Rattle.sql_grammar.specs.Grammar.{comma}
use Rattle.sql_grammar.specs.Tokens.{seen}
use Rattle.sql_tokens.specs.Reading.{reading}
use Rattle.sql_parts.specs.Lists.{all_said, led}
use Rattle.sql_tokens.proofs.Orders.{failed, order_first, told_as}
use Rattle.sql_parts.proofs.Parts.{listed_begins}
use Rattle.sql_parts.proofs.list.listed.Goals as goal

pub returns-in_err-first : goal.returns-in_err-first
returns-in_err-first g c = failed _ _ _ _ _ c.from_residual.ensures.1 (order_first _ _ _ _ _ _ c.in_err-first.ensures)

pub returns : goal.returns
returns g c =
    told_as (λ xs. all_said g.P.Part.says xs) _ _ _ _
    (listed_begins g.P.Part.says g.P.Part.rule c.in_ok-first.first _ _ c.in_ok-first.ensures
    ∙ ap (λ xs. led g.P.Part.says xs (reading (many (skip comma g.P.Part.rule)) (drop c.read.new.at (seen c.args.tokens.now))))
    (sym (c.in_ok-put.ensures.ok ∙ ap (λ l. l ++ c.in_ok-first.first ∷ []) c.new-parts.ensures.items)))
    c.more.ensures

use Rattle.std.proofs.Common.{◌∙◌, refl, sym, ap, drop}
use Rattle.sql_grammar.specs.Rules.{many, skip, seconds}
use Rattle.sql_grammar.specs.Grammar.{comma}
use Rattle.sql_grammar.specs.Reading.{took}
use Rattle.sql_grammar.specs.Tokens.{seen}
use Rattle.sql_tokens.specs.Reading.{reading}
use Rattle.sql_parts.specs.Lists.{all_said, led}
use Rattle.sql_tokens.proofs.Orders.{failed, order_ok, order_second}
use Rattle.sql_parts.proofs.Parts.{led_next, led_ends, led_fails, reading_shortens}
use Rattle.sql_parts.proofs.list.more.Goals as goal

pub returns-in_err-part : goal.returns-in_err-part
returns-in_err-part g c =
    failed _ _ _ _ _ c.from_residual.ensures.1
    (led_fails g.P.Part.says _ (skip comma g.P.Part.rule) _ _ _ _ refl c.each.invariant c.each-test.ensures.0
    (order_second seconds comma g.P.Part.rule _ _ _ _ _ c.each-test.ensures.1 c.in_err-part.ensures))

pub each-smaller : goal.each-smaller
each-smaller g c = reading_shortens (skip comma g.P.Part.rule) _ _ _ refl (order_ok seconds comma g.P.Part.rule _ _ _ _ _ c.each-test.ensures.1 c.in_ok-part.ensures)

pub each-preserved : goal.each-preserved
each-preserved g c =
    led_next g.P.Part.says _ (skip comma g.P.Part.rule) _ _ _ _ refl c.each.invariant c.each-test.ensures.0
    (order_ok seconds comma g.P.Part.rule _ _ _ _ _ c.each-test.ensures.1 c.in_ok-part.ensures)
    ∙ ap (λ xs. led g.P.Part.says xs (reading (many (skip comma g.P.Part.rule)) (drop c.read.new.at (seen c.args.tokens.now)))) (sym c.in_ok-put.ensures.ok)

pub returns : goal.returns
returns g c =
    led_ends g.P.Part.says _ (skip comma g.P.Part.rule) _ _ c.each.invariant c.each-test.ensures.0
    ∙ ap (λ xs. took (all_said g.P.Part.says xs) (drop c.each.at (seen c.args.tokens.now))) (sym c.from_vec.ensures)
    ∙ ap (λ l. took (all_said g.P.Part.says c.from_vec.result) l) (sym c.each-test.ensures.1)

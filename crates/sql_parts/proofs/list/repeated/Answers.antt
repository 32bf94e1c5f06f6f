use Rattle.std.proofs.Common.{◌∙◌, sym, ap, drop}
use Rattle.sql_grammar.specs.Rules.{many}
use Rattle.sql_grammar.specs.Reading.{took}
use Rattle.sql_grammar.specs.Tokens.{seen}
use Rattle.sql_tokens.specs.Reading.{reading}
use Rattle.sql_parts.specs.Lists.{all_said, led}
use Rattle.sql_tokens.proofs.Orders.{failed}
use Rattle.sql_parts.proofs.Parts.{led_begins, led_next, led_ends, led_fails, reading_shortens}
use Rattle.sql_parts.proofs.list.repeated.Goals as goal

pub each-init : goal.each-init
each-init g c =
    led_begins g.P.Part.says (reading (many g.P.Part.rule) (drop c.args.at.now (seen c.args.tokens.now)))
    ∙ ap (λ xs. led g.P.Part.says xs (reading (many g.P.Part.rule) (drop c.args.at.now (seen c.args.tokens.now)))) (sym c.new-parts.ensures.items)

pub returns-in_err-part : goal.returns-in_err-part
returns-in_err-part g c =
    failed _ _ _ _ _ c.from_residual.ensures.1
    (led_fails g.P.Part.says _ g.P.Part.rule _ _ _ _ g.met.P.Part.is_something c.each.invariant (sym c.is_repeated.ensures ∙ c.each-test.true) c.in_err-part.ensures)

pub each-smaller : goal.each-smaller
each-smaller g c = reading_shortens g.P.Part.rule _ _ _ g.met.P.Part.is_something c.in_ok-part.ensures

pub each-preserved : goal.each-preserved
each-preserved g c =
    led_next g.P.Part.says _ g.P.Part.rule _ _ _ _ g.met.P.Part.is_something c.each.invariant (sym c.is_repeated.ensures ∙ c.each-test.true) c.in_ok-part.ensures
    ∙ ap (λ xs. led g.P.Part.says xs (reading (many g.P.Part.rule) (drop c.read.new.at (seen c.args.tokens.now)))) (sym c.in_ok-put.ensures.ok)

pub returns : goal.returns
returns g c =
    led_ends g.P.Part.says _ g.P.Part.rule _ _ c.each.invariant (sym c.is_repeated.ensures ∙ c.each-test.false)
    ∙ ap (λ xs. took (all_said g.P.Part.says xs) (drop c.each.at (seen c.args.tokens.now))) (sym c.from_vec.ensures)

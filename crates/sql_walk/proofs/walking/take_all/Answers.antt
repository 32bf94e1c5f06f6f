use Rattle.std.proofs.Common.{◌∙◌, ◌+◌, sym, ap, Some, drop, ◌∷◌}
use Rattle.sql_grammar.specs.Machine.{ended}
use Rattle.sql_grammar.specs.Reading.{finish, walk, wrong, deep}
use Rattle.sql_grammar.specs.Tokens.{seen, token_of}
use Rattle.sql_tokens.proofs.Tokens.{seen_at}
use Rattle.sql_expressions.specs.State.{state_of}
use Rattle.sql_walk.specs.Walking.{next_of}
use Rattle.sql_walk.proofs.walking.take_all.Goals as goal

pub returns-in-Ended : goal.returns-in-Ended
returns-in-Ended c =
    let ts = c.args.tokens.now in
    let rest = drop (c.each.at + 1) (seen ts) in
    let e = seen_at ts c.each.at c.index-tokens-at.result c.each-test.true ∙ ap (λ t. token_of t.kind ∷ rest) (sym c.index-tokens-at.is) in
    c.each.invariant ∙ ap (λ l. walk (Some c.args.limit) (state_of c.each.machine) l) e ∙ c.in_ok-take.ensures rest
    ∙ ap (λ n. next_of c.args.limit n (state_of c.take.new.machine) (token_of c.index-tokens-at.result.kind ∷ rest) rest) c.in-Ended.is
    ∙ ap (λ l. finish (ended (state_of c.take.new.machine)) l) (sym e)

pub returns-in-Wrong : goal.returns-in-Wrong
returns-in-Wrong c =
    let ts = c.args.tokens.now in
    let rest = drop (c.each.at + 1) (seen ts) in
    let e = seen_at ts c.each.at c.index-tokens-at.result c.each-test.true ∙ ap (λ t. token_of t.kind ∷ rest) (sym c.index-tokens-at.is) in
    c.each.invariant ∙ ap (λ l. walk (Some c.args.limit) (state_of c.each.machine) l) e ∙ c.in_ok-take.ensures rest
    ∙ ap (λ n. next_of c.args.limit n (state_of c.take.new.machine) (token_of c.index-tokens-at.result.kind ∷ rest) rest) c.in-Wrong.is
    ∙ ap (λ l. wrong l) (sym e)

pub returns-in-Deep : goal.returns-in-Deep
returns-in-Deep c =
    let ts = c.args.tokens.now in
    let rest = drop (c.each.at + 1) (seen ts) in
    let e = seen_at ts c.each.at c.index-tokens-at.result c.each-test.true ∙ ap (λ t. token_of t.kind ∷ rest) (sym c.index-tokens-at.is) in
    c.each.invariant ∙ ap (λ l. walk (Some c.args.limit) (state_of c.each.machine) l) e ∙ c.in_ok-take.ensures rest
    ∙ ap (λ n. next_of c.args.limit n (state_of c.take.new.machine) (token_of c.index-tokens-at.result.kind ∷ rest) rest) c.in-Deep.is
    ∙ ap (λ l. deep l) (sym e)

pub each-preserved : goal.each-preserved
each-preserved c =
    let ts = c.args.tokens.now in
    let rest = drop (c.each.at + 1) (seen ts) in
    let e = seen_at ts c.each.at c.index-tokens-at.result c.each-test.true ∙ ap (λ t. token_of t.kind ∷ rest) (sym c.index-tokens-at.is) in
    c.each.invariant ∙ ap (λ l. walk (Some c.args.limit) (state_of c.each.machine) l) e ∙ c.in_ok-take.ensures rest
    ∙ ap (λ n. next_of c.args.limit n (state_of c.take.new.machine) (token_of c.index-tokens-at.result.kind ∷ rest) rest) c.in-On.is

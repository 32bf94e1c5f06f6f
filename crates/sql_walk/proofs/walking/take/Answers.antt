use Rattle.std.proofs.Common.{◌∙◌, sym, ap, cond, ◌&&◌, Some, None, is_some}
use Rattle.sql_grammar.specs.Machine.{ended, step}
use Rattle.sql_grammar.specs.Reading.{stops}
use Rattle.sql_grammar.specs.Tokens.{token_of}
use Rattle.sql_expressions.specs.State.{state_of}
use Rattle.sql_walk.proofs.Walks.{class_at, token_at, walk_stops, walk_wrong, walk_deep, walk_goes}
use Rattle.sql_walk.proofs.walking.take.Goals as goal

pub returns-then-ends_before : goal.returns-then-ends_before
returns-then-ends_before c rest =
    walk_stops (Some c.args.limit) (state_of c.args.machine.now) (token_of c.args.token.now.kind) rest
    (ap (λ d. stops d && is_some (ended (state_of c.args.machine.now))) (class_at c.symbol_in-symbol.result c.args.token.now.kind _ c.symbol_in-symbol.ensures c.class_in.ensures) ∙ sym c.ends_before.ensures ∙ c.if-ends_before.true)

pub returns-then-not-branch : goal.returns-then-not-branch
returns-then-not-branch c rest =
    walk_wrong (Some c.args.limit) (state_of c.args.machine.now) (token_of c.args.token.now.kind) rest
    (ap (λ d. stops d && is_some (ended (state_of c.args.machine.now))) (class_at c.symbol_in-symbol.result c.args.token.now.kind _ c.symbol_in-symbol.ensures c.class_in.ensures) ∙ sym c.ends_before.ensures ∙ c.if-ends_before.false)
    (ap (λ u. step (state_of c.args.machine.now) u) (sym (token_at c.symbol_in-symbol.result c.args.token.now.kind _ c.symbol_in-symbol.ensures c.text_in.ensures)) ∙ c.in_ok-step.ensures
    ∙ ap (λ b. cond b (Some (state_of c.step.new.self)) None) c.if-not-branch.true)

pub returns-then-is_deep : goal.returns-then-is_deep
returns-then-is_deep c rest =
    walk_deep (Some c.args.limit) (state_of c.args.machine.now) (state_of c.step.new.self) (token_of c.args.token.now.kind) rest
    (ap (λ d. stops d && is_some (ended (state_of c.args.machine.now))) (class_at c.symbol_in-symbol.result c.args.token.now.kind _ c.symbol_in-symbol.ensures c.class_in.ensures) ∙ sym c.ends_before.ensures ∙ c.if-ends_before.false)
    (ap (λ u. step (state_of c.args.machine.now) u) (sym (token_at c.symbol_in-symbol.result c.args.token.now.kind _ c.symbol_in-symbol.ensures c.text_in.ensures)) ∙ c.in_ok-step.ensures
    ∙ ap (λ b. cond b (Some (state_of c.step.new.self)) None) c.if-not-branch.false)
    (sym c.is_deep.ensures ∙ c.if-is_deep.true)

pub returns : goal.returns
returns c rest =
    walk_goes (Some c.args.limit) (state_of c.args.machine.now) (state_of c.step.new.self) (token_of c.args.token.now.kind) rest
    (ap (λ d. stops d && is_some (ended (state_of c.args.machine.now))) (class_at c.symbol_in-symbol.result c.args.token.now.kind _ c.symbol_in-symbol.ensures c.class_in.ensures) ∙ sym c.ends_before.ensures ∙ c.if-ends_before.false)
    (ap (λ u. step (state_of c.args.machine.now) u) (sym (token_at c.symbol_in-symbol.result c.args.token.now.kind _ c.symbol_in-symbol.ensures c.text_in.ensures)) ∙ c.in_ok-step.ensures
    ∙ ap (λ b. cond b (Some (state_of c.step.new.self)) None) c.if-not-branch.false)
    (sym c.is_deep.ensures ∙ c.if-is_deep.false)

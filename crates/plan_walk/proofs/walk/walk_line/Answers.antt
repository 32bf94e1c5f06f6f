use Rattle.std.proofs.Common.{◌≡◌, ◌+◌, ◌<◌, sym, ◌∙◌, subst, arith, Some, None}
use Rattle.plan_walk.specs.Walk.{Goes, IsLine, IsStep}
use Rattle.plan_walk.proofs.WalkLemmas.{goes_one_more, line_done, line_paused, then_does, turn_does, goes_unstopped}
use Rattle.plan_walk.proofs.walk.walk_line.Goals as goal

pub returns-then-pauses-clause-line : goal.returns-then-pauses-clause-line
returns-then-pauses-clause-line g c =
    let a = c.args.engine.now in
    let l = c.loop.engine in
    let n = c.make-step.new.engine in
    then_does (λ old new. Goes a.0 c.args.line.connection c.loop.counter old new) (λ old new. IsStep l.0 c.args.line.connection old new c.make-step.result) (λ old new. IsLine a.0 c.args.line old new (Some c.make-step.result))
    a.1 l.1 n.1 a.5 l.5 n.5 (g.S.RowStore.view a.3) (g.S.RowStore.view l.3) (g.S.RowStore.view n.3)
    (λ old mid new w s. line_paused a.0 c.args.line c.loop.counter old mid new c.make-step.result w (let t = c.loop-test.true in omega (arith, t)) (sym c.pauses.ensures ∙ c.if-pauses.true)
    (subst (λ ss. IsStep ss c.args.line.connection mid new c.make-step.result) c.loop.invariant.same s))
    c.loop.invariant.goes c.make-step.ensures.step

pub loop-preserved : goal.loop-preserved
loop-preserved g c =
    let a = c.args.engine.now in
    let l = c.loop.engine in
    let n = c.make-step.new.engine in
    let apart = sym c.pauses.ensures ∙ c.if-pauses.false in
    record {
      same = c.make-step.ensures.same ∙ c.loop.invariant.same;
      stops = c.make-step.ensures.stops ∙ goes_unstopped c.make-step.result l.4 apart ∙ c.loop.invariant.stops;
      most = (let t = c.loop-test.true in omega (arith, t));
      goes = then_does (λ old new. Goes a.0 c.args.line.connection c.loop.counter old new) (λ old new. IsStep l.0 c.args.line.connection old new c.make-step.result) (λ old new. Goes a.0 c.args.line.connection (c.loop.counter + 1) old new)
          a.1 l.1 n.1 a.5 l.5 n.5 (g.S.RowStore.view a.3) (g.S.RowStore.view l.3) (g.S.RowStore.view n.3)
          (λ old mid new w s. goes_one_more a.0 c.args.line.connection c.loop.counter old mid new c.make-step.result w
          (subst (λ ss. IsStep ss c.args.line.connection mid new c.make-step.result) c.loop.invariant.same s) apart)
          c.loop.invariant.goes c.make-step.ensures.step;
    }

pub returns-clause-line : goal.returns-clause-line
returns-clause-line g c =
    let a = c.args.engine.now in
    let l = c.loop.engine in
    let all : c.loop.counter ≡ c.args.line.steps = (let t = c.loop-test.false in let m = c.loop.invariant.most in omega (arith, t, m)) in
    turn_does (λ old new. Goes a.0 c.args.line.connection c.loop.counter old new) (λ old new. IsLine a.0 c.args.line old new None) a.1 l.1 a.5 l.5 (g.S.RowStore.view a.3) (g.S.RowStore.view l.3)
    (λ old new w. line_done a.0 c.args.line c.loop.counter old new w all) c.loop.invariant.goes

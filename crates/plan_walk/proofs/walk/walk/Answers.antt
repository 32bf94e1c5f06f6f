use Rattle.std.proofs.Common.{◌≡◌, ◌+◌, ◌<◌, length, take, List, refl, sym, ◌∙◌, ap, subst, arith}
use Rattle.std.proofs.lemmas.List.{take_all}
use Rattle.step_plan.specs.declared.plan.StepLine.{StepLine}
use Rattle.plan_walk.specs.Walk.{IsLine, IsWalk, Walks, stop_behind}
use Rattle.plan_walk.specs.declared.walk.Walked.TheVariants.{Whole}
use Rattle.plan_walk.proofs.WalkLemmas.{Does, ends_does, goes_does, not_some, line_unstopped, stops_as, caused_as, turn_does}
use Rattle.plan_walk.proofs.walk.walk.Goals as goal

pub returns-in-Some-clause-walk : goal.returns-in-Some-clause-walk
returns-in-Some-clause-walk g c =
    let a = c.args.engine.now in
    let l = c.loop-line.engine in
    let n = c.walk_line-last.new.engine in
    let items = c.lines-line-items.result.now in
    let lt : c.loop-line.line-index < length items = omega arith in
    let walked : Does (λ old new. IsWalk a.0 items old new c.in-Some.how) a.1 n.1 a.5 n.5 (g.S.RowStore.view a.3) (g.S.RowStore.view n.3) =
    ends_does a.0 l.0 items c.loop-line.line-index _ _ c.walk_line-last.result c.in-Some.how a.1 l.1 n.1 a.5 l.5 n.5 (g.S.RowStore.view a.3) (g.S.RowStore.view l.3) (g.S.RowStore.view n.3)
    c.walk_line-last.ensures.line refl c.loop-line.invariant.same lt (sym c.halt.ensures ∙ c.in-Some.is) c.loop-line.invariant.walks in
    subst (λ (ls : List StepLine). Does (λ old new. IsWalk a.0 ls old new c.in-Some.how) a.1 n.1 a.5 n.5 (g.S.RowStore.view a.3) (g.S.RowStore.view n.3)) c.lines-line-items.ensures.lines walked

pub returns-in-Some-clause-stops : goal.returns-in-Some-clause-stops
returns-in-Some-clause-stops g c =
    c.walk_line-last.ensures.stops ∙ ap (stop_behind c.walk_line-last.result) c.loop-line.invariant.stops ∙ stops_as c.walk_line-last.result c.in-Some.how c.args.engine.now.4 (sym c.halt.ensures ∙ c.in-Some.is)

pub returns-in-Some-clause-cause : goal.returns-in-Some-clause-cause
returns-in-Some-clause-cause g c = λ unstopped.
    caused_as c.walk_line-last.result c.in-Some.how (g.S.RowStore.view c.walk_line-last.new.engine.3) (sym c.halt.ensures ∙ c.in-Some.is) (c.walk_line-last.ensures.cause (c.loop-line.invariant.stops ∙ unstopped))

pub loop-line-preserved : goal.loop-line-preserved
loop-line-preserved g c =
    let a = c.args.engine.now in
    let l = c.loop-line.engine in
    let n = c.walk_line-last.new.engine in
    let items = c.lines-line-items.result.now in
    let lt : c.loop-line.line-index < length items = omega arith in
    let goes = not_some c.walk_line-last.result c.halt.result c.halt.ensures c.in_default.not-Some in
    record {
      same = c.walk_line-last.ensures.same ∙ c.loop-line.invariant.same;
      stops = c.walk_line-last.ensures.stops ∙ line_unstopped c.walk_line-last.result l.4 goes ∙ c.loop-line.invariant.stops;
      walks = goes_does a.0 l.0 items c.loop-line.line-index _ _ c.walk_line-last.result a.1 l.1 n.1 a.5 l.5 n.5 (g.S.RowStore.view a.3) (g.S.RowStore.view l.3) (g.S.RowStore.view n.3)
          c.walk_line-last.ensures.line refl c.loop-line.invariant.same lt goes c.loop-line.invariant.walks;
    }

pub returns-clause-walk : goal.returns-clause-walk
returns-clause-walk g c =
    let a = c.args.engine.now in
    let l = c.loop-line.engine in
    let items = c.lines-line-items.result.now in
    let all : take c.loop-line.line-index items ≡ c.args.plan.now.lines = take_all c.loop-line.line-index items c.loop-line-test.false ∙ c.lines-line-items.ensures.lines in
    turn_does (λ old new. Walks a.0 (take c.loop-line.line-index items) old new) (λ old new. IsWalk a.0 c.args.plan.now.lines old new Whole) a.1 l.1 a.5 l.5 (g.S.RowStore.view a.3) (g.S.RowStore.view l.3)
    (λ old new w. subst (λ (ls : List StepLine). Walks a.0 ls old new) all w) c.loop-line.invariant.walks

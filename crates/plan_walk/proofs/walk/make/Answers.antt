use Rattle.std.proofs.Common.{◌≡◌, ◌≤◌, ap, subst, arith}
use Rattle.session_engine.proofs.KeptLemmas.{grows_none}
use Rattle.session_engine.specs.Pacing.{claims, is_way, waits}
use Rattle.session_engine.specs.Stepped.{HasEnded, least_of}
use Rattle.plan_walk.proofs.WayLemmas.{any_step_left, still_left}
use Rattle.plan_walk.proofs.walk.make.Goals as goal

pub returns-then-connection-eq0-clause-step : goal.returns-then-connection-eq0-clause-step
returns-then-connection-eq0-clause-step g c = λ ways few.
    let same = c.daemon.ensures.same in
    let zero = c.if-connection-eq0.true in
    still_left c.args.engine.now.0 c.args.connection c.daemon.result c.args.engine.now.1 c.daemon.new.self.1 c.args.engine.now.5 c.daemon.new.self.5 (g.S.RowStore.view c.args.engine.now.3) (g.S.RowStore.view c.daemon.new.self.3) ways
    (grows_none _ _ _ _ (ap least_of c.daemon.ensures.ended) (ap (λ e. e.1) same)) (λ e one. absurd (omega (arith, one, zero))) (ap is_way c.daemon.ensures.ended) (ap claims c.daemon.ensures.ended) (ap waits c.daemon.ensures.ended) (ap (λ e. e.5) same) (ap (λ e. g.S.RowStore.view e.3) same) few

pub returns-else-connection-eq0-clause-step : goal.returns-else-connection-eq0-clause-step
returns-else-connection-eq0-clause-step g c = λ ways few.
    let one : 1 ≤ c.args.connection = (let ne = c.if-connection-eq0.false in omega (arith, ne)) in
    let step = c.step-step.ensures in
    any_step_left c.args.engine.now.0 c.args.connection c.step-step.result c.args.engine.now.1 c.step-step.new.self.1 c.args.engine.now.5 c.step-step.new.self.5 (g.S.RowStore.view c.args.engine.now.3) (g.S.RowStore.view c.step-step.new.self.3) ways c.args.engine.now.4
    one (let known = c.requires.known in let all = c.law.ensures.all in omega (arith, known, all)) step.grows (λ e. subst (λ ss. HasEnded ss c.step-step.new.self.1 c.args.connection) step.same (step.ended e)) step.paces (λ s e. ((step.still s e).0, ap (λ x. x.5) (step.still s e).1, ap (λ x. g.S.RowStore.view x.3) (step.still s e).1)) c.law.ensures.sound.turns c.law-else-connection-eq0.ensures.sound.turns few

use Rattle.std.proofs.Common.{◌<◌, ℕ, subst, sym}
use Rattle.step_plan.proofs.PlanLemmas.{past_number}
use Rattle.step_plan.proofs.line.number.Goals as goal

pub returns-then-most-n : goal.returns-then-most-n
returns-then-most-n c =
    past_number c.args.least c.args.most c.loop-b.n c.loop-b.b-index c.args.digits.now c.loop-b-test.true (sym c.if-not-is_digit.ensures) c.loop-b.invariant.number
    (subst (λ (m : ℕ). c.args.most < m) c.with_digit-n.ensures c.if-most-n.true)

use Rattle.std.proofs.Common.{◌≡◌, ◌≤◌, drop}
use Rattle.step_plan.specs.Plan.{number_from, number_of}
use Rattle.step_plan.proofs.line.number.Given as goal

abbrev pub invariant-loop-b : goal.invariant-loop-b
invariant-loop-b l = record {
  number : number_from l.n (drop l.b-index l.digits) ≡ number_of l.digits;
  small : l.n ≤ l.most;
}

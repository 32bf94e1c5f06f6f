use Rattle.std.proofs.Common.{◌≡◌, ◌++◌, take, drop}
use Rattle.step_plan.specs.Plan.{before_blank, behind_blank}
use Rattle.step_plan.proofs.line.blank.Given as goal

abbrev pub invariant-loop-i : goal.invariant-loop-i
invariant-loop-i l = record {
  before : take l.i l.line ++ before_blank (drop l.i l.line) ≡ before_blank l.line;
  behind : behind_blank (drop l.i l.line) ≡ behind_blank l.line;
}

use Rattle.std.proofs.Common.{◌≡◌, ◌≤◌, ◌+◌, ◌++◌, drop}
use Rattle.std.specs.Prelude.{slice_range}
use Rattle.std.specs.List.{All}
use Rattle.step_plan.specs.Lines.{IsInBounds}
use Rattle.step_plan.specs.Plan.{lines_from, plan_from, plan_of, behind_found}
use Rattle.step_plan.proofs.plan.read_plan.Given as goal

abbrev pub invariant-loop-i : goal.invariant-loop-i
invariant-loop-i l = record {
  lines : behind_found l.found.items (plan_from l.scripts l.number (lines_from (slice_range l.text l.from l.i) (drop l.i l.text))) ≡ plan_of l.scripts l.text;
  begun : l.from ≤ l.i;
  numbered : l.number ≤ l.i + 1;
  bounds : All (IsInBounds l.scripts) l.found.items;
}

-- The lines of a plan.
use Rattle.std.specs.Prelude.{◌≤◌, ℕ, List}
use Rattle.step_plan.specs.declared.plan.StepLine.{StepLine}

-- the number of scripts that a plan is for, and its lines, in order
pub record Lines : Type 0 where
  pub scripts : ℕ
  pub lines : List StepLine

-- a line names a connection, or 0, and makes from 1 to 1,000,000 steps
pub record IsInBounds (scripts : ℕ) (line : StepLine) : Type 0 where
  pub connection : line.connection ≤ scripts
  pub some : 1 ≤ line.steps
  pub most : line.steps ≤ 1000000

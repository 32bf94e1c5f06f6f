-- What the files of a run show: a plan and scripts, or why it doesn't begin.
use Rattle.std.specs.Prelude.{◌≡◌, ◌<◌, ◌≤◌, ℕ, List, length, Option, Some, None, Result, Ok, Err, IfSome}
use Rattle.table_model.specs.Tables.{Each}
use Rattle.run_sources.specs.declared.files.ReadError.{ReadError}
use Rattle.run_sources.specs.Files.{IsFile, IsNoText, AreFiles, StopsAt}
use Rattle.step_plan.specs.declared.plan.Plan.{Plan as StepPlan}
use Rattle.step_plan.specs.declared.plan.StepLine.{StepLine}
use Rattle.step_plan.specs.Plan.{plan_of}
use Rattle.derby.specs.declared.ending.InputError.{InputError}
use Rattle.derby.specs.declared.ending.InputError.TheVariants.{Plan, Malformed, Script, Crowded, Starved}
use Rattle.derby.specs.declared.inputs.Inputs.{Inputs}

-- A PLAN for so many scripts, by the bytes of its file where they are told
pub record IsPlan (told : Option (List ℕ)) (scripts : ℕ) (lines : List StepLine) : Type 0 where
  pub text : List ℕ
  pub file : IsFile told text
  pub lines_are : plan_of scripts text ≡ Ok lines

-- a plan whose first malformed line is this one
pub record IsMalformed (told : Option (List ℕ)) (scripts line : ℕ) : Type 0 where
  pub text : List ℕ
  pub file : IsFile told text
  pub line_is : plan_of scripts text ≡ Err line

-- so many scripts, all read, and more than connections
pub record AreTooMany (told : List ℕ → Option (List ℕ)) (names : List (List ℕ)) (count : ℕ) : Type 0 where
  pub texts : List (List ℕ)
  pub files : AreFiles told names texts
  pub all : count ≡ length names
  pub many : 64 < count

abbrev pub HasPlan : Option (List ℕ) → ℕ → Type 0
HasPlan told scripts = (lines : List StepLine) × IsPlan told scripts lines

-- WHY A RUN DOESN'T BEGIN, by its plan, and then by its scripts; want of memory is free
abbrev pub Shows : (List ℕ → Option (List ℕ)) → List ℕ → List (List ℕ) → InputError → Type 0
Shows told plan names (Plan why) = IfSome (told plan) (IsNoText why)
Shows told plan names (Malformed line) = IsMalformed (told plan) (length names) line
Shows told plan names (Script e) = HasPlan (told plan) (length names) × StopsAt told names e.file e.why
Shows told plan names (Crowded count) = HasPlan (told plan) (length names) × AreTooMany told names count
Shows told plan names Starved = Unit {0}

-- THE INPUTS of a run: a plan for its scripts, and these, at most 64
pub record AreInputs (told : List ℕ → Option (List ℕ)) (plan : List ℕ) (names scripts : List (List ℕ)) (lines : List StepLine) : Type 0 where
  pub planned : IsPlan (told plan) (length names) lines
  pub files : AreFiles told names scripts
  pub few : length names ≤ 64

-- WHAT READING THE INPUTS ANSWERS
abbrev pub ReadsInputs : (List ℕ → Option (List ℕ)) → List ℕ → List (List ℕ) → Result Inputs InputError → Type 0
ReadsInputs told plan names (Ok inputs) = AreInputs told plan names inputs.scripts inputs.plan.lines × (inputs.plan.scripts ≡ length names)
ReadsInputs told plan names (Err error) = Shows told plan names error

-- and the plan alone, and the scripts alone
abbrev pub ReadsLines : Option (List ℕ) → ℕ → Result StepPlan InputError → Type 0
ReadsLines told scripts (Ok plan) = (plan.scripts ≡ scripts) × IsPlan told scripts plan.lines
ReadsLines told scripts (Err (Plan why)) = IfSome told (IsNoText why)
ReadsLines told scripts (Err (Malformed line)) = IsMalformed told scripts line
ReadsLines told scripts (Err (Script e)) = ⊥
ReadsLines told scripts (Err (Crowded count)) = ⊥
ReadsLines told scripts (Err Starved) = Unit {0}

abbrev pub ReadsScripts : (List ℕ → Option (List ℕ)) → List (List ℕ) → Result (List (List ℕ)) InputError → Type 0
ReadsScripts told names (Ok scripts) = AreFiles told names scripts × (length names ≤ 64)
ReadsScripts told names (Err (Plan why)) = ⊥
ReadsScripts told names (Err (Malformed line)) = ⊥
ReadsScripts told names (Err (Script e)) = StopsAt told names e.file e.why
ReadsScripts told names (Err (Crowded count)) = AreTooMany told names count
ReadsScripts told names (Err Starved) = ⊥

-- why a file isn't read, where that is what is answered
abbrev pub failure_in : InputError → Option ReadError
failure_in (Plan why) = Some why
failure_in (Malformed line) = None
failure_in (Script e) = Some e.why
failure_in (Crowded count) = None
failure_in Starved = None

abbrev pub failure_of : {T : Type 0} → Result T InputError → Option ReadError
failure_of (Ok t) = None
failure_of (Err error) = failure_in error

-- what an engine's opening needs of inputs
pub record AreReady (inputs : Inputs) : Type 0 where
  pub few : length inputs.scripts ≤ 64
  pub short : Each (λ script. length script ≤ 1048576) inputs.scripts
  pub known : inputs.plan.scripts ≡ length inputs.scripts

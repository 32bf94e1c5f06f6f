-- What a plan's text says: its lines, each read by itself.
use Rattle.std.specs.Prelude.{◌≡◌, ◌≤◌, ◌+◌, ◌*◌, ◌-◌, ℕ, List, [], ◌∷◌, ◌++◌, Option, Some, None, Result, Ok, Err, Bool, ◌&&◌, ◌==◌, nat_le, if◌then◌else◌}
use Rattle.std.specs.Option.{IsSomeAnd}
use Rattle.step_plan.specs.declared.plan.StepLine.{StepLine}
use Rattle.step_plan.specs.declared.plan.Plan.{Plan}
use Rattle.step_plan.specs.declared.plan.PlanError.{PlanError}
use Rattle.step_plan.specs.declared.plan.PlanError.TheVariants.{Malformed, Memory}

abbrev pub is_digit : ℕ → Bool
is_digit b = nat_le 48 b && nat_le b 57

-- a number and one digit more
abbrev pub with_digit : ℕ → ℕ → ℕ
with_digit n b = n * 10 + (b - 48)

-- the number that digits spell behind those that spell n; none where a byte is no digit
abbrev pub number_from : ℕ → List ℕ → Option ℕ
number_from n [] = Some n
number_from n (b ∷ bs) = if is_digit b then number_from (with_digit n b) bs else None

-- the number that one digit or more spell
abbrev pub number_of : List ℕ → Option ℕ
number_of [] = None
number_of (b ∷ bs) = number_from 0 (b ∷ bs)

-- a number from `least` to `most`
abbrev pub within : ℕ → ℕ → Option ℕ → Option ℕ
within least most None = None
within least most (Some n) = if nat_le least n && nat_le n most then Some n else None

-- the bytes before the first blank, and those behind it
abbrev pub before_blank : List ℕ → List ℕ
before_blank [] = []
before_blank (b ∷ bs) = if b == 32 then [] else b ∷ before_blank bs

abbrev pub behind_blank : List ℕ → List ℕ
behind_blank [] = []
behind_blank (b ∷ bs) = if b == 32 then bs else behind_blank bs

abbrev pub step_line : Option ℕ → Option ℕ → Option StepLine
step_line (Some c) (Some n) = Some (record { connection = c; steps = n })
step_line _ _ = None

-- A LINE is a connection from 0 to the number of scripts, one blank, and a number of steps from 1 to 1,000,000
abbrev pub line_of : ℕ → List ℕ → Option StepLine
line_of scripts line = step_line (within 0 scripts (number_of (before_blank line))) (within 1 1000000 (number_of (behind_blank line)))

-- the lines of a text; `line` is what stands before it without a line feed
abbrev pub lines_from : List ℕ → List ℕ → List (List ℕ)
lines_from line [] = line ∷ []
lines_from line (b ∷ bs) = if b == 10 then line ∷ lines_from [] bs else lines_from (line ++ b ∷ []) bs

-- this line, and then others; or the number of the first malformed one
abbrev pub with_line : ℕ → Option StepLine → Result (List StepLine) ℕ → Result (List StepLine) ℕ
with_line number None rest = Err number
with_line number (Some line) (Ok lines) = Ok (line ∷ lines)
with_line number (Some line) (Err malformed) = Err malformed

-- lines that are numbered from here on; empty ones are passed over
abbrev pub plan_from : ℕ → ℕ → List (List ℕ) → Result (List StepLine) ℕ
plan_from scripts number [] = Ok []
plan_from scripts number ([] ∷ lines) = plan_from scripts (number + 1) lines
plan_from scripts number ((b ∷ bs) ∷ lines) = with_line number (line_of scripts (b ∷ bs)) (plan_from scripts (number + 1) lines)

-- THE PLAN of a text for so many scripts, or the number of its first malformed line
abbrev pub plan_of : ℕ → List ℕ → Result (List StepLine) ℕ
plan_of scripts text = plan_from scripts 1 (lines_from [] text)

-- a reading that ends early: at a malformed line, or for want of memory
abbrev pub StopsAt : PlanError → Result (List StepLine) ℕ → Type 0
StopsAt (Malformed line) read = read ≡ Err line
StopsAt Memory read = Unit {0}

-- WHAT READING A PLAN ANSWERS
abbrev pub ReadsPlan : ℕ → List ℕ → Result Plan PlanError → Type 0
ReadsPlan scripts text (Ok plan) = (plan.scripts ≡ scripts) × (plan_of scripts text ≡ Ok plan.lines)
ReadsPlan scripts text (Err e) = StopsAt e (plan_of scripts text)

-- what one line adds to those found
abbrev pub ReadsLine : ℕ → ℕ → List ℕ → List StepLine → List StepLine → Result Unit PlanError → Type 0
ReadsLine scripts number [] old new (Ok done) = new ≡ old
ReadsLine scripts number [] old new (Err e) = ⊥
ReadsLine scripts number (b ∷ bs) old new (Ok done) = IsSomeAnd (line_of scripts (b ∷ bs)) (λ line. new ≡ old ++ line ∷ [])
ReadsLine scripts number (b ∷ bs) old new (Err (Malformed line)) = (line ≡ number) × (line_of scripts (b ∷ bs) ≡ None)
ReadsLine scripts number (b ∷ bs) old new (Err Memory) = Unit {0}

-- the lines found so far, and those of the rest
abbrev pub behind_found : List StepLine → Result (List StepLine) ℕ → Result (List StepLine) ℕ
behind_found found (Ok lines) = Ok (found ++ lines)
behind_found found (Err malformed) = Err malformed

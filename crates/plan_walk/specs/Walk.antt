-- A walk by a plan: each step begins with what the one before left.
use Rattle.std.specs.Prelude.{◌≡◌, ◌≢◌, ◌≤◌, ◌<◌, ◌+◌, ◌*◌, ◌++◌, ℕ, zero, suc, Bool, true, false, List, [], ◌∷◌, Option, Some, None, if◌then◌else◌}
use Rattle.store_api.specs.View.{View}
use Rattle.journal_model.specs.declared.journal.Entry.{Entry}
use Rattle.session_engine.specs.Pacing.{Acts, ComesOn, IsDone, claims, is_way, next_at, rank, waits}
use Rattle.session_engine.specs.declared.next.Next.{Next}
use Rattle.session_engine.specs.Stepped.{Grows, HasEnded, Shows, stop_after}
use Rattle.session_engine.specs.declared.step.Event.{Event}
use Rattle.session_engine.specs.declared.step.Stop.{Stop}
use Rattle.session_engine.specs.declared.step.Step.{Step}
use Rattle.session_engine.specs.declared.step.Step.TheVariants.{Went, Stopped, Ended, Memory as NoMemory}
use Rattle.step_plan.specs.declared.plan.StepLine.{StepLine}
use Rattle.plan_walk.specs.declared.walk.Walked.{Walked}
use Rattle.plan_walk.specs.declared.walk.Walked.TheVariants.{Whole, Stopped as HasStopped, Memory}

-- WHAT IS SEEN between two steps: the journal, what each connection does next, the store, and how many of each connection's last steps were
-- only on the way to something that is done
pub record Seen : Type 0 where
  pub entries : List Entry
  pub nexts : List Next
  pub store : View
  pub ways : ℕ → ℕ

abbrev pub seen : List Entry → List Next → View → (ℕ → ℕ) → Seen
seen entries nexts store ways = record { entries = entries; nexts = nexts; store = store; ways = ways }

-- one step on the way more, or something was done
abbrev pub ways_after : Step → ℕ → ℕ
ways_after answer n = if is_way answer then n + 1 else 0

-- ONE STEP of connection c, or of the daemon, 0: the journal grows by what is c's and comes with the answer; Ended is the answer of a connection
-- that has ended; only c moved, and its own pages, by one more at most; what the answer tells of was done; and no connection spends its steps on nothing
pub record IsStep (scripts : List (List ℕ)) (c : ℕ) (old new : Seen) (answer : Step) : Type 0 where
  pub grows : Grows c answer old.entries new.entries
  pub moves : (k : ℕ) → k + 1 ≢ c → next_at new.nexts k ≡ next_at old.nexts k
  pub comes : (k : ℕ) → k + 1 ≡ c → is_way answer ≡ true → ComesOn (next_at new.nexts k) (next_at old.nexts k)
  pub does : (k : ℕ) → k + 1 ≡ c → claims answer ≡ true → IsDone (next_at old.nexts k) (next_at new.nexts k) old.entries new.entries old.store new.store
  pub ended : answer ≡ Ended → 1 ≤ c → HasEnded scripts new.entries c
  pub acts : Acts c old.store new.store
  pub bare : waits answer ≡ true → (new.store.actors c).pages ≡ 0
  pub counted : new.ways c ≡ ways_after answer (old.ways c)
  pub others : (b : ℕ) → b ≢ c → new.ways b ≡ old.ways b
  pub few : new.ways c ≤ 20 * new.store.pages + 64

-- how many steps on the way may lie behind a connection, by how far it is from something that is done: for each look at most 4 a page and 17
abbrev pub most : (rank pages turns : ℕ) → ℕ
most zero pages turns = 12 * pages + 51
most (suc zero) pages turns = 8 * pages + 34 + turns
most (suc (suc zero)) pages turns = 4 * pages + 17 + turns
most _ pages turns = turns

abbrev pub AreFew : (ℕ → ℕ) → List Next → View → Type 0
AreFew ways nexts v = (c : ℕ) → ways (c + 1) ≤ most (rank (next_at nexts c)) v.pages (v.actors (c + 1)).turns

-- what an engine leaves that is seen so
pub record Leaves (P : Seen → Type 0) (entries : List Entry) (nexts : List Next) (v : View) : Type 0 where
  pub ways : ℕ → ℕ
  pub few : AreFew ways nexts v
  pub does : P (seen entries nexts v ways)

-- so many steps, of which each went
abbrev pub Goes : List (List ℕ) → ℕ → ℕ → Seen → Seen → Type 0
Goes scripts c zero old new = new ≡ old
Goes scripts c (suc k) old new = (mid : Seen) × (event : Event) × Goes scripts c k old mid × IsStep scripts c mid new (Went event)

-- an answer with which a line ends, whatever is left of it
abbrev pub pauses : Step → Bool
pauses (Went event) = false
pauses _ = true

-- behind the steps that went: nothing, where they are all of the line; or one step more, with which it ends
abbrev pub EndsLine : List (List ℕ) → StepLine → ℕ → Seen → Seen → Option Step → Type 0
EndsLine scripts line k mid new None = (k ≡ line.steps) × (new ≡ mid)
EndsLine scripts line k mid new (Some answer) = (k < line.steps) × (pauses answer ≡ true) × IsStep scripts line.connection mid new answer

-- A LINE: as many steps of its connection as it says, or fewer where one of them answers otherwise than that it went
pub record IsLine (scripts : List (List ℕ)) (line : StepLine) (old new : Seen) (last : Option Step) : Type 0 where
  pub went : ℕ
  pub mid : Seen
  pub goes : Goes scripts line.connection went old mid
  pub ends : EndsLine scripts line went mid new last

-- how the walk ends where a line ends so
abbrev pub halt_of : Option Step → Option Walked
halt_of (Some (Stopped stop)) = Some (HasStopped stop)
halt_of (Some NoMemory) = Some Memory
halt_of _ = None

-- lines in turn, of which none ends the walk
abbrev pub Walks : List (List ℕ) → List StepLine → Seen → Seen → Type 0
Walks scripts [] old new = new ≡ old
Walks scripts (line ∷ lines) old new = (mid : Seen) × (last : Option Step) × IsLine scripts line old mid last × (halt_of last ≡ None) × Walks scripts lines mid new

-- a line in which the walk ends, behind those before it
pub record Halts (scripts : List (List ℕ)) (lines : List StepLine) (old new : Seen) (how : Walked) : Type 0 where
  pub before : List StepLine
  pub line : StepLine
  pub behind : List StepLine
  pub lines_are : lines ≡ before ++ line ∷ behind
  pub mid : Seen
  pub walks : Walks scripts before old mid
  pub last : Option Step
  pub halts : IsLine scripts line mid new last
  pub how_is : halt_of last ≡ Some how

-- A WALK by a plan's lines: all of them, or up to the one in which the engine stopped or had no memory
abbrev pub IsWalk : List (List ℕ) → List StepLine → Seen → Seen → Walked → Type 0
IsWalk scripts lines old new Whole = Walks scripts lines old new
IsWalk scripts lines old new how = Halts scripts lines old new how

-- what the engine has stopped for, behind a line and behind a walk
abbrev pub stop_behind : Option Step → Option Stop → Option Stop
stop_behind None old = old
stop_behind (Some answer) old = stop_after answer old

abbrev pub stop_left : Walked → Option Stop → Option Stop
stop_left (HasStopped stop) old = Some stop
stop_left _ old = old

-- THE CAUSE of a walk's end: the store keeps the failure that is told, and want of memory is free
abbrev pub HasCause : Walked → View → Type 0
HasCause (HasStopped stop) v = Shows stop v
HasCause _ v = Unit {0}

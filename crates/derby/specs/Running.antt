-- A run: the journal that a walk by a plan leaves.
use Rattle.std.specs.Prelude.{◌≡◌, ◌==◌, ℕ, List, [], length, Option, Some, None, if◌then◌else◌}
use Rattle.table_model.specs.Tables.{no_tables}
use Rattle.store_api.specs.View.{View}
use Rattle.session_engine.specs.Opening.{IsEmptyStore}
use Rattle.session_engine.specs.declared.next.Next.{Next}
use Rattle.engine_close.specs.Closing.{AllAtRest, Ends}
use Rattle.session_model.specs.declared.journal.Journal.{Journal}
use Rattle.session_model.specs.Legal.{IsLegal}
use Rattle.step_plan.specs.declared.plan.StepLine.{StepLine}
use Rattle.plan_walk.specs.Walk.{IsWalk, Seen, seen}
use Rattle.plan_walk.specs.declared.walk.Walked.{Walked}
use Rattle.plan_walk.specs.declared.walk.Walked.TheVariants.{Whole, Stopped, Memory}
use Rattle.derby.specs.declared.ending.Ending.{Ending}
use Rattle.derby.specs.declared.ending.Ending.TheVariants.{Usage, Unready, Cut, Ran}
use Rattle.derby.specs.declared.ending.InputError.TheVariants.{Starved}
use Rattle.derby.specs.Inputs.{AreInputs}

-- THE JOURNAL of scripts is legal for them, over no tables; it is what a walk by a plan's lines leaves, and what closing the engine then
-- takes back, so that no transaction is open
pub record IsJournal (scripts : List (List ℕ)) (lines : List StepLine) (how : Walked) (journal : Journal) : Type 0 where
  pub legal : IsLegal no_tables scripts journal.entries journal.locks
  -- the store as it was opened, of which nobody holds a page, what each connection does first, and what was seen behind the walk
  pub store : View
  pub empty : IsEmptyStore store
  pub firsts : List Next
  pub walked : Seen
  pub walk : IsWalk scripts lines (seen [] firsts store (λ c. 0)) walked how
  pub ends : Ends walked.entries journal.entries
  pub rest : AllAtRest (length scripts) journal.entries

-- THE JOURNAL OF A RUN: that of its inputs
pub record IsRunOf (told : List ℕ → Option (List ℕ)) (plan : List ℕ) (names : List (List ℕ)) (how : Walked) (journal : Journal) : Type 0 where
  pub scripts : List (List ℕ)
  pub lines : List StepLine
  pub inputs : AreInputs told plan names scripts lines
  pub run : IsJournal scripts lines how journal

-- a store in memory doesn't fail
abbrev pub NotStopped : Walked → Type 0
NotStopped Whole = Unit {0}
NotStopped (Stopped stop) = ⊥
NotStopped Memory = Unit {0}

-- how a run ends by its walk
abbrev pub EndsBy : Walked → Ending → Type 0
EndsBy Whole ending = ending ≡ Ran
EndsBy (Stopped stop) ending = ⊥
EndsBy Memory ending = ending ≡ Cut

-- and how the walk went, by the status
abbrev pub how_of : ℕ → Walked
how_of status = if status == 6 then Memory else Whole

-- what running leaves: a journal, or none for want of memory to open the engine
abbrev pub RunIf : Ending → List (List ℕ) → List StepLine → Option Journal → Type 0
RunIf Usage scripts lines journal = ⊥
RunIf (Unready error) scripts lines journal = (error ≡ Starved) × (journal ≡ None)
RunIf Cut scripts lines None = ⊥
RunIf Cut scripts lines (Some j) = IsJournal scripts lines Memory j
RunIf Ran scripts lines None = ⊥
RunIf Ran scripts lines (Some j) = IsJournal scripts lines Whole j

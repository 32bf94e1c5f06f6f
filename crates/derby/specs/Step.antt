-- What a run of the program owes: its ending and the cause, what the sink took, the status, the journal.
use Rattle.std.specs.Prelude.{◌≡◌, ℕ, List, [], ◌∷◌, ◌++◌, length, Option, Some, None, IsSome}
use Rattle.device.specs.Streams.{SourceSeen, SinkSeen, HostSeen}
use Rattle.program_words.specs.Words.{HasForm}
use Rattle.run_sources.specs.declared.files.ReadError.{ReadError}
use Rattle.run_sources.specs.Files.{Opens}
use Rattle.session_model.specs.declared.journal.Journal.{Journal}
use Rattle.plan_walk.specs.declared.walk.Walked.TheVariants.{Whole, Memory}
use Rattle.derby.specs.declared.ending.Ending.{Ending}
use Rattle.derby.specs.declared.ending.Ending.TheVariants.{Usage, Unready, Cut, Ran}
use Rattle.derby.specs.declared.running.Went.{Went}
use Rattle.derby.specs.Inputs.{Shows, failure_in}
use Rattle.derby.specs.Running.{IsRunOf}
use Rattle.derby.specs.Text.{journal_text, last_line, Tells}

-- the names that the words give to the plan and to the scripts
abbrev pub plan_in : List (List ℕ) → List ℕ
plan_in (step ∷ db ∷ plan ∷ scripts) = plan
plan_in _ = []

abbrev pub scripts_in : List (List ℕ) → List (List ℕ)
scripts_in (step ∷ db ∷ plan ∷ scripts) = scripts
scripts_in _ = []

-- THE CAUSE of an ending: the words don't have the form, and nothing was opened; or a file failed, alone and last; or none failed,
-- and the files show why the run didn't begin, or it did
abbrev pub HasCause : Ending → List (List ℕ) → HostSeen → HostSeen → List SourceSeen → Type 0
HasCause Usage words old new sources = (HasForm words → ⊥) × (new ≡ old) × (sources ≡ [])
HasCause (Unready error) words old new sources = HasForm words × Opens (failure_in error) old new [] sources × Shows old.scripts (plan_in words) (scripts_in words) error
HasCause Cut words old new sources = HasForm words × Opens None old new [] sources
HasCause Ran words old new sources = HasForm words × Opens None old new [] sources

-- a journal stands exactly where the engine was opened
abbrev pub OpenedIf : Ending → Option Journal → Type 0
OpenedIf Usage journal = journal ≡ None
OpenedIf (Unready error) journal = journal ≡ None
OpenedIf Cut journal = IsSome journal
OpenedIf Ran journal = IsSome journal

-- WHAT A RUN OWES: its ending has its cause, the text is that of the journal and of the ending, and the status is that of both
pub record Owes (words : List (List ℕ)) (host host' : HostSeen) (sources : List SourceSeen) (sink sink' : SinkSeen) (status : ℕ) (journal : Option Journal) : Type 0 where
  pub ending : Ending
  pub cause : HasCause ending words host host' sources
  pub text : Tells ending status sink sink' (journal_text (length (scripts_in words)) journal ++ last_line ending (plan_in words) (scripts_in words))
  pub opened : OpenedIf ending journal

-- how a run went whose files have these names
abbrev pub Ends : Ending → (List ℕ → Option (List ℕ)) → List ℕ → List (List ℕ) → Option Journal → Type 0
Ends Usage told plan names journal = ⊥
Ends (Unready error) told plan names journal = Shows told plan names error × (journal ≡ None)
Ends Cut told plan names None = ⊥
Ends Cut told plan names (Some j) = IsRunOf told plan names Memory j
Ends Ran told plan names None = ⊥
Ends Ran told plan names (Some j) = IsRunOf told plan names Whole j

abbrev pub failure_by : Ending → Option ReadError
failure_by Usage = None
failure_by (Unready error) = failure_in error
failure_by Cut = None
failure_by Ran = None

pub record Goes (plan : List ℕ) (names : List (List ℕ)) (old new : HostSeen) (before after : List SourceSeen) (went : Went) : Type 0 where
  pub opens : Opens (failure_by went.ending) old new before after
  pub ends : Ends went.ending old.scripts plan names went.journal

-- What a whole run owes, put together.
use Rattle.std.proofs.Common.{◌≡◌, ◌≤◌, ◌⊎◌, ◌++◌, ℕ, List, [], ◌∷◌, length, map, false, refl, sym, ◌∙◌, ap, subst, inl, inr, Option, Some, None}
use Rattle.std.specs.Prelude.{IfSome, IsSome}
use Rattle.device.specs.Streams.{SourceSeen, SinkSeen, HostSeen}
use Rattle.journal_text.specs.Printing.{Waits, Printed, PrintedIf}
use Rattle.journal_text.proofs.Sending.{took-nothing}
use Rattle.program_words.specs.Words.{HasForm}
use Rattle.run_sources.specs.Files.{Opens}
use Rattle.session_model.specs.declared.journal.Journal.{Journal}
use Rattle.step_plan.specs.declared.plan.StepLine.{StepLine}
use Rattle.plan_walk.specs.declared.walk.Walked.TheVariants.{Whole, Memory}
use Rattle.derby.specs.declared.ending.Ending.{Ending}
use Rattle.derby.specs.declared.ending.Ending.TheVariants.{Usage, Unready, Cut, Ran}
use Rattle.derby.specs.declared.ending.InputError.{InputError}
use Rattle.derby.specs.Inputs.{AreInputs, Shows}
use Rattle.derby.specs.Running.{IsRunOf, RunIf, how_of}
use Rattle.derby.specs.Step.{Ends, HasCause, OpenedIf, failure_by, plan_in, scripts_in}
use Rattle.derby.specs.Text.{Tells, status_of, faulted}

-- nothing was printed yet
pub starts : (s : SinkSeen) (o : Waits) → o.pending ≡ [] → o.failed ≡ false → Printed s s o []
starts s o empty well = subst (λ f. PrintedIf f s s o.pending []) (sym well) (record { sent = []; whole = sym empty; took = took-nothing s })

-- a journal stands where the engine was opened
pub opened_if : (ending : Ending) (told : List ℕ → Option (List ℕ)) (plan : List ℕ) (names : List (List ℕ)) (journal : Option Journal) → Ends ending told plan names journal → OpenedIf ending journal
opened_if Usage told plan names journal ends = absurd ends
opened_if (Unready error) told plan names journal ends = ends.1
opened_if Cut told plan names None ends = absurd ends
opened_if Cut told plan names (Some j) ends = refl
opened_if Ran told plan names None ends = absurd ends
opened_if Ran told plan names (Some j) ends = refl

-- the cause, with the names as the words have them
pub caused : (ending : Ending) (words : List (List ℕ)) (old new : HostSeen) (sources : List SourceSeen) (journal : Option Journal) → HasForm words
    → Opens (failure_by ending) old new [] sources → Ends ending old.scripts (plan_in words) (scripts_in words) journal → HasCause ending words old new sources
caused Usage words old new sources journal form opens ends = absurd ends
caused (Unready error) words old new sources journal form opens ends = (form, opens, ends.0)
caused Cut words old new sources journal form opens ends = (form, opens)
caused Ran words old new sources journal form opens ends = (form, opens)

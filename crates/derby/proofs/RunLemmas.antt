-- What a run leaves, of its walk and of the engine that is closed behind it.
use Rattle.std.proofs.Common.{◌≡◌, ◌≤◌, ℕ, zero, suc, ◌+◌, List, [], length, refl, sym, subst, arith, Option, Some, None}
use Rattle.std.specs.Prelude.{IfSome}
use Rattle.list_store.specs.Lists.{Lists, seen as shown}
use Rattle.store_api.specs.declared.answers.StoreAnswer.TheVariants.{Failed, Damaged}
use Rattle.session_engine.specs.Stepped.{Shows}
use Rattle.session_engine.specs.declared.step.Stop.{Stop}
use Rattle.session_engine.specs.declared.step.Stop.TheVariants.{Fault, Damage}
use Rattle.table_model.specs.Tables.{no_tables}
use Rattle.store_api.specs.View.{View}
use Rattle.journal_model.specs.declared.journal.Entry.{Entry}
use Rattle.session_model.specs.declared.journal.Journal.{Journal}
use Rattle.session_model.specs.Legal.{IsLegal}
use Rattle.session_engine.specs.Opening.{IsEmptyStore}
use Rattle.session_engine.specs.declared.next.Next.{Next}
use Rattle.engine_close.specs.Closing.{AllAtRest, Ends}
use Rattle.step_plan.specs.declared.plan.StepLine.{StepLine}
use Rattle.plan_walk.specs.Walk.{AreFew, HasCause, IsWalk, Leaves, seen, stop_left}
use Rattle.plan_walk.specs.declared.walk.Walked.{Walked}
use Rattle.plan_walk.specs.declared.walk.Walked.TheVariants.{Whole, Stopped, Memory}
use Rattle.derby.specs.declared.ending.Ending.{Ending}
use Rattle.derby.specs.Running.{EndsBy, IsJournal, NotStopped, RunIf}

-- at first nothing was spent
journal_of : (scripts : List (List ℕ)) (lines : List StepLine) (how : Walked) (store v : View) (es : List Entry) (ns ns' : List Next) (journal : Journal) → IsEmptyStore store
    → ((ways : ℕ → ℕ) → AreFew ways ns store → Leaves (λ new. IsWalk scripts lines (seen [] ns store ways) new how) es ns' v)
    → IsLegal no_tables scripts journal.entries journal.locks → Ends es journal.entries → AllAtRest (length scripts) journal.entries → IsJournal scripts lines how journal
journal_of scripts lines how store v es ns ns' journal empty walk legal ends rest =
    let walked = walk (λ c. 0) (λ c. omega arith) in
    record {
      legal = legal;
      store = store;
      empty = empty;
      firsts = ns;
      walked = seen es ns' v walked.ways;
      walk = walked.does;
      ends = ends;
      rest = rest;
    }

pub ran : (scripts : List (List ℕ)) (lines : List StepLine) (how : Walked) (ending : Ending) (store v : View) (es es' : List Entry) (ns ns' : List Next) (journal : Journal) → EndsBy how ending → es ≡ [] → IsEmptyStore store
    → ((ways : ℕ → ℕ) → AreFew ways ns store → Leaves (λ new. IsWalk scripts lines (seen es ns store ways) new how) es' ns' v)
    → IsLegal no_tables scripts journal.entries journal.locks → Ends es' journal.entries → AllAtRest (length scripts) journal.entries → RunIf ending scripts lines (Some journal)
ran scripts lines Whole ending store v es es' ns ns' journal is none empty walk legal ends rest =
    subst (λ (e : Ending). RunIf e scripts lines (Some journal)) (sym is) (journal_of scripts lines Whole store v es' ns ns' journal empty
    (subst (λ (xs : List Entry). (ways : ℕ → ℕ) → AreFew ways ns store → Leaves (λ new. IsWalk scripts lines (seen xs ns store ways) new Whole) es' ns' v) none walk) legal ends rest)
ran scripts lines Memory ending store v es es' ns ns' journal is none empty walk legal ends rest =
    subst (λ (e : Ending). RunIf e scripts lines (Some journal)) (sym is) (journal_of scripts lines Memory store v es' ns ns' journal empty
    (subst (λ (xs : List Entry). (ways : ℕ → ℕ) → AreFew ways ns store → Leaves (λ new. IsWalk scripts lines (seen xs ns store ways) new Memory) es' ns' v) none walk) legal ends rest)
ran scripts lines (Stopped stop) ending store v es es' ns ns' journal is none empty walk legal ends rest = absurd is

-- A STORE IN MEMORY keeps no failure: neither a walk of it stops, nor its closing
pub not_stopped : (how : Walked) (l : Lists) → HasCause how (shown l) → NotStopped how
not_stopped Whole l h = tt
not_stopped Memory l h = tt
not_stopped (Stopped (Fault n)) l h = let none = h.0 in let x : None ≡ Some Failed = none in cc
not_stopped (Stopped (Damage d)) l h = let x : None ≡ Some (Damaged d) = h in cc

pub walk_goes : (how : Walked) (old : Option Stop) → NotStopped how → old ≡ None → stop_left how old ≡ None
walk_goes Whole old goes none = none
walk_goes Memory old goes none = none
walk_goes (Stopped stop) old goes none = absurd goes

pub closes_well : (stop : Option Stop) (l : Lists) → IfSome stop (λ s. Shows s (shown l)) → stop ≡ None
closes_well None l h = refl
closes_well (Some (Fault n)) l h = let none = h.0 in let x : None ≡ Some Failed = none in cc
closes_well (Some (Damage d)) l h = let x : None ≡ Some (Damaged d) = h in cc

-- What a step leaves of the engine's journal, how it ended, and why it stopped.
use Rattle.std.specs.Prelude.{◌≡◌, ◌+◌, ◌≤◌, ◌++◌, ℕ, slice_index_or, Bool, true, false, List, [], ◌∷◌, length, Option, Some, None}
use Rattle.table_model.specs.Tables.{Each, no_tables}
use Rattle.store_api.specs.View.{View}
use Rattle.store_api.specs.declared.answers.StoreAnswer.{StoreAnswer}
use Rattle.store_api.specs.declared.answers.StoreAnswer.TheVariants.{Failed, Damaged, Memory as NoMemory}
use Rattle.journal_model.specs.declared.journal.Entry.{Entry}
use Rattle.journal_model.specs.declared.journal.Entry.TheVariants as entry
use Rattle.sql_lexer.specs.Splitting.{spans_of}
use Rattle.session_model.specs.World.{World, apply, opening, replay}
use Rattle.session_engine.specs.declared.next.Next.{Next}
use Rattle.session_engine.specs.declared.next.Next.TheVariants.{End}
use Rattle.session_engine.specs.declared.session.Phase.{Phase}
use Rattle.session_engine.specs.declared.session.Phase.TheVariants.{Idle}
use Rattle.session_engine.specs.declared.step.Event.{Event}
use Rattle.session_engine.specs.declared.step.Event.TheVariants.{Begin, Change, Undo, Rollback, Finish, Append}
use Rattle.session_engine.specs.declared.step.Stop.{Stop}
use Rattle.session_engine.specs.declared.step.Stop.TheVariants.{Fault, Damage}
use Rattle.session_engine.specs.declared.step.Step.{Step}
use Rattle.session_engine.specs.declared.step.Step.TheVariants.{Went, Answered, Ended, Stopped}

-- a statement's answer or refusal
abbrev pub is_told : Entry → Bool
is_told (entry.Answered t a j f u) = true
is_told (entry.Refused t w) = true
is_told _ = false

-- a transaction's end, as its connection is told
abbrev pub is_end : Entry → Bool
is_end (entry.Acknowledged t) = true
is_end (entry.RolledBack t) = true
is_end _ = false

-- an end in which the store may fail
abbrev pub may_fail : Entry → Bool
may_fail (entry.Committed t) = true
may_fail (entry.RolledBack t) = true
may_fail _ = false

-- THE ENTRIES THAT COME WITH AN EVENT
abbrev pub comes_with : Event → Entry → Bool
comes_with Begin (entry.Started t c l s) = true
comes_with Begin (entry.Refused t w) = true
comes_with Change (entry.Did t n r old new) = true
comes_with Undo (entry.Undone t d) = true
comes_with Rollback (entry.RolledBack t) = true
comes_with Finish e = is_told e
comes_with Append (entry.Committed t) = true
comes_with _ _ = false

abbrev pub either : Bool → Bool → Bool
either true b = true
either false b = b

-- and those that come with a step's answer
abbrev pub comes_in : Step → Entry → Bool
comes_in (Went event) e = comes_with event e
comes_in Answered e = either (is_told e) (is_end e)
comes_in (Stopped s) e = may_fail e
comes_in _ e = false

-- how many at most: two where a statement is refused as it begins
abbrev pub most_of : Step → ℕ
most_of (Went Begin) = 2
most_of _ = 1

-- and how few: an answer that tells of an entry has put one
abbrev pub least_of : Step → ℕ
least_of (Went Begin) = 1
least_of (Went Rollback) = 1
least_of (Went Finish) = 1
least_of (Went Append) = 1
least_of Answered = 1
least_of _ = 0

-- the transaction of an entry
abbrev pub txn_in : Entry → ℕ
txn_in (entry.Started t c l s) = t.0
txn_in (entry.Did t n r old new) = t.0
txn_in (entry.Undone t d) = t.0
txn_in (entry.Answered t a j f u) = t.0
txn_in (entry.Refused t w) = t.0
txn_in (entry.Committed t) = t.0
txn_in (entry.Acknowledged t) = t.0
txn_in (entry.RolledBack t) = t.0

-- WHOSE AN ENTRY IS: of the connection that begins a statement, or whose the transaction is
abbrev pub IsOwn : (c : ℕ) → World → Entry → Type 0
IsOwn c w (entry.Started t k l s) = k.0 ≡ c
IsOwn c w e = (w.txns (txn_in e)).conn ≡ c

-- entries one behind another
abbrev pub AreOwn : (c : ℕ) → World → List Entry → Type 0
AreOwn c w [] = Unit {0}
AreOwn c w (e ∷ es) = IsOwn c w e × AreOwn c (apply w e) es

-- THE JOURNAL GROWS at its end, by few entries, of connection c, that come with the answer
pub record Grows (c : ℕ) (result : Step) (old new : List Entry) : Type 0 where
  pub added : List Entry
  pub at_end : new ≡ old ++ added
  pub few : length added ≤ most_of result
  pub least : least_of result ≤ length added
  pub kinds : Each (λ e. comes_in result e ≡ true) added
  pub own : AreOwn c (replay (opening no_tables) old) added

-- what the engine has stopped for
abbrev pub stop_after : Step → Option Stop → Option Stop
stop_after (Stopped s) old = Some s
stop_after _ old = old

-- the store keeps the answer for which the engine stops
abbrev pub Shows : Stop → View → Type 0
Shows (Fault n) v = (v.meters.keeps ≡ Some Failed) × (v.meters.faults ≡ n)
Shows (Damage d) v = v.meters.keeps ≡ Some (Damaged d)

abbrev pub HasStopped : Step → View → Type 0
HasStopped (Stopped s) v = Shows s v
HasStopped _ v = Unit {0}

-- an answer of the store that it keeps for good, and for which the engine stops
abbrev pub HaltsFor : View → StoreAnswer → Type 0
HaltsFor v Failed = v.meters.keeps ≡ Some Failed
HaltsFor v (Damaged d) = v.meters.keeps ≡ Some (Damaged d)
HaltsFor v _ = ⊥

-- the same, or want of memory
abbrev pub Refuses : View → StoreAnswer → Type 0
Refuses v NoMemory = Unit {0}
Refuses v answer = HaltsFor v answer

-- an answer that it keeps, or any other
abbrev pub KeepsFor : View → StoreAnswer → Type 0
KeepsFor v Failed = v.meters.keeps ≡ Some Failed
KeepsFor v (Damaged d) = v.meters.keeps ≡ Some (Damaged d)
KeepsFor v _ = Unit {0}

-- it has stopped in this step
abbrev pub IsHalt : Step → Type 0
IsHalt (Stopped s) = Unit {0}
IsHalt _ = ⊥

abbrev pub NotEnded : Step → Type 0
NotEnded Ended = ⊥
NotEnded _ = Unit {0}

-- the event of a step that may have stopped
abbrev pub IsNoted : Event → Step → Type 0
IsNoted event (Went e) = e ≡ event
IsNoted event (Stopped s) = Unit {0}
IsNoted event _ = ⊥

-- a statement is told, now or at its transaction's end
abbrev pub IsFinished : Step → Type 0
IsFinished Answered = Unit {0}
IsFinished (Went e) = e ≡ Finish
IsFinished _ = ⊥

-- a rollback that is told, where the store hasn't stopped
abbrev pub IsTold : Step → Step → Type 0
IsTold (Went e) Answered = Unit {0}
IsTold (Went e) (Went e') = e' ≡ Rollback
IsTold (Stopped s) (Stopped s') = s' ≡ s
IsTold _ _ = ⊥

-- what ends a connection: no transaction is open, and its script is through
abbrev pub ends_now : Phase → Bool → Bool
ends_now Idle through = through
ends_now _ through = false

abbrev pub is_end_of : Next → Bool
is_end_of End = true
is_end_of _ = false

-- A CONNECTION HAS ENDED: no statement of its script is left, and no transaction of it is open
pub record HasEnded (scripts : List (List ℕ)) (es : List Entry) (c : ℕ) : Type 0 where
  pub none : ((replay (opening no_tables) es).conns c).txn ≡ None
  pub all : (k : ℕ) (d : List ℕ) → k + 1 ≡ c → length (spans_of (slice_index_or scripts k d)) ≤ ((replay (opening no_tables) es).conns c).begun

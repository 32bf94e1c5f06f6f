-- What holds of an engine between any two of its steps: the state that it keeps, and room for what must not fail.
use Rattle.std.specs.Prelude.{ℕ, List, Vec}
use Rattle.lock_manager.specs.declared.table.LockTable.{LockTable}
use Rattle.lock_manager.specs.Table.{lock, woken_of}
use Rattle.std.specs.Prelude.{◌≡◌, ◌<◌, ◌≤◌, [], true, length, slice_index_or}
use Rattle.store_api.specs.View.{View}
use Rattle.journal_model.specs.declared.journal.Entry.{Entry}
use Rattle.session_model.specs.declared.journal.Locked.{Locked}
use Rattle.session_engine.specs.declared.session.Session.{Session}
use Rattle.session_engine.specs.Dictionary.{Named}
use Rattle.session_engine.specs.State.{State, Holds, HasRoom}

abbrev pub state : {Z : Type 0} → Vec Entry Z → Vec Locked Z → LockTable → List Session → View → List Named → State
state entries events locks ss v named = record { es = entries.items; ls = events.items; lock = lock locks; ss = ss; view = v; named = named }

-- a connection whose transaction was rolled back without a cause has begun all its statements
abbrev pub IsSpent : Session → Type 0
IsSpent s = s.closed ≡ true → length s.spans ≤ s.begun

abbrev pub AreSpent : List Session → Type 0
AreSpent ss = (i : ℕ) (d : Session) → i < length ss → IsSpent (slice_index_or ss i d)

pub record EngineHolds {Z : Type 0} (entries : Vec Entry Z) (events : Vec Locked Z) (locks : LockTable) (ss : List Session) (v : View) (named : List Named) (last owed owed_events : ℕ) : Type 0 where
  pub holds : Holds (state entries events locks ss v named) last
  pub room : HasRoom entries events ss (lock locks) owed owed_events
  pub woken : woken_of locks ≡ []
  pub spent : AreSpent ss

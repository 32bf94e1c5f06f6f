-- When a journal is legal, over the tables that it opened with and for the scripts of its connections.
use Rattle.std.specs.Prelude.{◌≡◌, ◌≢◌, ◌<◌, ◌≤◌, ◌+◌, ℕ, List, [], ◌∷◌, ◌++◌, length, map, take, Option, Some, None, Bool, true, false, ◌&&◌, ◌||◌, slice_index_or}
use Rattle.dby_types.specs.declared.answer.Answer.{Answer}
use Rattle.dby_types.specs.declared.answer.Answer.TheVariants.{Done}
use Rattle.dby_types.specs.declared.answer.Component.{Component}
use Rattle.dby_types.specs.declared.definition.ColumnDef.{ColumnDef}
use Rattle.dby_types.specs.declared.definition.TableDef.{TableDef}
use Rattle.dby_types.specs.declared.number.Level.{Level}
use Rattle.dby_types.specs.declared.number.Level.TheVariants.{Rr}
use Rattle.dby_types.specs.declared.number.RowId.{RowId}
use Rattle.dby_types.specs.declared.state.SqlState.TheVariants as state
use Rattle.dby_types.specs.declared.value.Value.{Value}
use Rattle.lock_modes.specs.declared.event.LockEvent.{LockEvent}
use Rattle.lock_modes.specs.declared.event.LockEvent.TheVariants as event
use Rattle.lock_modes.specs.declared.mode.Mode.{Mode}
use Rattle.lock_modes.specs.declared.mode.Mode.TheVariants.{TS, TX}
use Rattle.lock_modes.specs.declared.name.LockName.{LockName}
use Rattle.lock_modes.specs.declared.name.LockName.TheVariants.{Dictionary, Table}
use Rattle.lock_modes.specs.Proper.{IsProperAfter}
use Rattle.sql_ast.specs.declared.statement.Statement.{Statement}
use Rattle.sql_ast.specs.declared.statement.Statement.TheVariants.{Unread}
use Rattle.sql_forms.specs.declared.form.Form.TheVariants.{CreateTable, Insert, Select}
use Rattle.table_model.specs.Tables.{Tables, Made, Each, laid_over}
use Rattle.journal_model.specs.declared.journal.Entry.{Entry}
use Rattle.journal_model.specs.declared.journal.Entry.TheVariants.{Started, Did, Undone, Answered, Refused, Committed, Acknowledged, RolledBack}
use Rattle.journal_model.specs.declared.journal.Refusal.{Refusal}
use Rattle.journal_model.specs.declared.journal.Refusal.TheVariants.{Sql, Memory}
use Rattle.journal_model.specs.World.{given_by}
use Rattle.journal_model.specs.Catalog.{Defines, table_row, column_rows}
use Rattle.journal_model.specs.Meaning.{Names, NullIn}
use Rattle.journal_model.specs.Levels.{ReadsCommitted, meets, row_of}
use Rattle.journal_model.specs.Legal.{statement_of, Wrote, written, row_put, Agrees, AnswersSelect, AnswersInsert, CommitsFit}
use Rattle.session_model.specs.declared.journal.Locked.{Locked}
use Rattle.session_model.specs.declared.order.Order.{Order}
use Rattle.session_model.specs.declared.order.Order.TheVariants.{Command as bids, Form as runs}
use Rattle.session_model.specs.Orders.{order_of, is_create, told_of, IsRefused, Passes}
use Rattle.session_model.specs.World.{World, running, resting, committing, settled, over, Told, said, denied, Pin, opening, replay, world_at, seen, seen_over, is_ended, is_returnable, is_untold}

-- THE SESSION RULE. A Started belongs to its connection's open transaction, or to a new one with a number above all before
abbrev pub Begins : World → ℕ → Option ℕ → Type 0
Begins w t None = w.last < t
Begins w t (Some u) = (u ≡ t) × ((w.txns t).stage ≡ resting)

-- it carries the connection's next statement, and the level that stands
pub record Starts (scripts : List (List ℕ)) (w : World) (t c : ℕ) (statement : Statement) : Type 0 where
  pub text : List ℕ
  pub carried : statement ≡ Unread text
  pub next : statement_of scripts c (w.conns c).begun ≡ Some text
  pub begins : Begins w t (w.conns c).txn
  pub goes_on : (w.conns c).closed ≡ false

-- which entry may come at a stage of its transaction
abbrev pub SessionsHold : List (List ℕ) → World → Entry → Type 0
SessionsHold scripts w (Started t c level statement) = (level ≡ (w.conns c.0).level) × Starts scripts w t.0 c.0 statement
SessionsHold scripts w (Did t table rid old new) = (w.txns t.0).stage ≡ running
SessionsHold scripts w (Undone t did) = is_returnable (w.txns t.0).stage ≡ true
SessionsHold scripts w (Answered t answer joined from to) = (w.txns t.0).stage ≡ running
SessionsHold scripts w (Refused t why) = is_untold (w.txns t.0).stage ≡ true
SessionsHold scripts w (Committed t) = (w.txns t.0).stage ≡ committing
SessionsHold scripts w (Acknowledged t) = (w.txns t.0).stage ≡ settled
SessionsHold scripts w (RolledBack t) = is_returnable (w.txns t.0).stage ≡ true

-- THE UNDO RULE. An Undone names the latest change that stands. A refused statement and a transaction rolled back have none left
abbrev pub UndoesHold : World → Entry → Type 0
UndoesHold w (Undone t did) = (m : Made) × (older : List Made) × ((w.txns t.0).changes ≡ m ∷ older) × (m.number ≡ did)
UndoesHold w (Refused t why) = (w.txns t.0).changes ≡ (w.txns t.0).begun
UndoesHold w (RolledBack t) = (w.txns t.0).changes ≡ []
UndoesHold w _ = Unit {0}

-- the number of a new table was never given before
abbrev pub IsFree : World → ℕ → Type 0
IsFree w n = Each (λ k. k ≢ n) w.given × ((d : TableDef) → Defines w.opened d → d.number ≢ n)

-- WHAT A CHANGE CHANGES. Its old row is the one that stood, and no other open transaction has changed it
pub record IsChange (w : World) (t table : ℕ) (rid : RowId) (old new : Option (List Value)) : Type 0 where
  pub was : old ≡ w.current table rid
  pub apart : (u : ℕ) → u ≢ t → Each (λ m. m.change.table ≡ table → m.change.rid ≡ rid → ⊥) (w.txns u).standing
  pub free : old ≡ None → Each (IsFree w) (given_by table new)

abbrev pub ChangesHold : World → Entry → Type 0
ChangesHold w (Did t table rid old new) = IsChange w t.0 table rid old new
ChangesHold w _ = Unit {0}

-- a tuple of an INSERT has NULL in a column that is NOT NULL
abbrev pub NullInOrder : Option Order → Tables → Type 0
NullInOrder (Some (runs f)) tables = NullIn (Some f) tables
NullInOrder _ tables = ⊥

-- EVIDENCE OF A REFUSAL. A code of grammar, size or dictionary is the text's single refusal now; NULL refused stands in a tuple of
-- VALUES; that pages or log room are spent, and want of memory, are shown by the steps that met them
abbrev pub HasEvidence : List ℕ → Tables → Refusal → Type 0
HasEvidence text tables (Sql state.NullNotAllowed rows) = (rows ≡ []) × Passes text tables × NullInOrder (order_of text) tables
HasEvidence text tables (Sql state.PagesSpent rows) = rows ≡ []
HasEvidence text tables (Sql state.LogSpent rows) = rows ≡ []
HasEvidence text tables (Sql why rows) = (rows ≡ []) × IsRefused text tables why
HasEvidence text tables Memory = Unit {0}

-- and a text that has a single refusal now is not answered
abbrev pub RefusalsHold : World → Entry → Type 0
RefusalsHold w (Refused t why) = HasEvidence (w.txns t.0).text (seen w t.0) why
RefusalsHold w (Answered t answer joined from to) = Passes (w.txns t.0).text (seen w t.0)
RefusalsHold w _ = Unit {0}

-- ENTRY CLAUSES are fixed by the world before the entry
pub record EntryHolds (scripts : List (List ℕ)) (w : World) (e : Entry) : Type 0 where
  pub session : SessionsHold scripts w e
  pub undo : UndoesHold w e
  pub change : ChangesHold w e
  pub refusal : RefusalsHold w e

-- a command: its word, and nothing read or changed
pub record AnswersCommand (told : Answer) (answer : Answer) (joined : List (List Component)) (own : List Made) : Type 0 where
  pub is_told : answer ≡ told
  pub unread : joined ≡ []
  pub none : own ≡ []

-- the catalog rows of a new table, in order: its columns, and then the table that has them
abbrev pub puts_of : ℕ → List ℕ → List ColumnDef → List Wrote
puts_of number name columns = map (row_put 2) (column_rows number 0 columns) ++ row_put 1 (table_row number name) ∷ []

-- a CREATE TABLE: its catalog rows, each where none was
pub record AnswersCreate (name : List ℕ) (columns : List ColumnDef) (answer : Answer) (joined : List (List Component)) (own : List Made) : Type 0 where
  pub number : ℕ
  pub puts : written own ≡ puts_of number name columns
  pub told : answer ≡ Done
  pub unread : joined ≡ []

-- the relation of an answer to its statement, over the views of its span, with the changes of its own
abbrev pub Owes : Option Order → (ℕ → Tables) → ℕ → ℕ → Answer → List (List Component) → List Made → Type 0
Owes (Some (bids c)) views from to answer joined own = AnswersCommand (told_of c) answer joined own
Owes (Some (runs (Select name))) views from to answer joined own = AnswersSelect views from to name answer joined own
Owes (Some (runs (Insert name tuples))) views from to answer joined own = AnswersInsert views to name tuples answer joined own
Owes (Some (runs (CreateTable name columns))) views from to answer joined own = AnswersCreate name columns answer joined own
Owes None views from to answer joined own = ⊥

-- what a transaction's running statement, which began at the end of these entries' world, sees at place m
abbrev pub view : Tables → List Entry → World → ℕ → ℕ → Tables
view opened past w t m = seen_over w t (world_at opened past m).committed

-- READ COMMITTED: an answer meets its relation, over places of its span
pub record AnswerMeets (opened : Tables) (past : List Entry) (w : World) (t : ℕ) (answer : Answer) (joined : List (List Component)) (from to : ℕ) : Type 0 where
  pub after : (w.txns t).started < from
  pub order : from ≤ to
  pub within : to ≤ length past
  pub own : List Made
  pub changes : (w.txns t).changes ≡ own ++ (w.txns t).begun
  pub owes : Owes (order_of (w.txns t).text) (view opened past w t) from to answer joined own

-- SPAN CLAUSES are fixed by the entries before the Answered
abbrev pub AnswersHold : Tables → List Entry → Entry → Type 0
AnswersHold opened past (Answered t answer joined from to) = AnswerMeets opened past (replay (opening opened) past) t.0 answer joined from to
AnswersHold opened past _ = Unit {0}

-- SERIALIZABLE. A query's answer agrees with the bag that its table, which has this number, gives over one view
pub record SelectsAt (tables : Tables) (number : ℕ) (name : List ℕ) (answer : Answer) : Type 0 where
  pub table : Names tables name
  pub number_is : table.def.number ≡ number
  pub rows : List (List Component)
  pub read : ReadsCommitted (λ m. tables) 0 0 (number ∷ []) (λ row. meets) rows
  pub told : Agrees answer (map (λ c. c.name) table.def.columns) (map row_of rows)

-- an INSERT's own changes are those that its tuples give, in the table of this number
pub record InsertsAt (tables : Tables) (number : ℕ) (name : List ℕ) (tuples : List (List Value)) (answer : Answer) (before after : List Made) : Type 0 where
  pub own : List Made
  pub changes : after ≡ own ++ before
  pub answers : AnswersInsert (λ m. tables) 0 name tuples answer [] own
  pub number_is : answers.suits.target.def.number ≡ number

-- what was told is right over one view: what a statement of the table with this number means there
abbrev pub IsMeant : Option Order → List ℕ → Tables → ℕ → Told → List Made → List Made → Type 0
IsMeant (Some (runs (Select name))) text tables number (said answer) before after = SelectsAt tables number name answer
IsMeant (Some (runs (Insert name tuples))) text tables number (said answer) before after = InsertsAt tables number name tuples answer before after
IsMeant (Some (runs (CreateTable name columns))) text tables number (said answer) before after = Passes text tables
IsMeant order text tables number (said answer) before after = Unit {0}
IsMeant order text tables number (denied why) before after = Passes text tables × NullInOrder order tables

-- what is owed beyond its own place: an answer, and a refusal for a row
abbrev pub is_lasting : Told → Bool
is_lasting (said answer) = true
is_lasting (denied (Sql state.NullNotAllowed rows)) = true
is_lasting (denied why) = false

abbrev pub is_serializable : Level → Bool
is_serializable Rr = true
is_serializable _ = false

-- what was told is owed: of a serializable transaction, and of a CREATE at each level
abbrev pub is_owed : Level → Option Order → Told → Bool
is_owed level order told = is_lasting told && (is_serializable level || is_create order)

-- it is right over the tables of this place, while its transaction is open
abbrev pub PinHolds : World → Pin → Type 0
PinHolds w p = is_ended (w.txns p.txn).stage ≡ false → is_owed p.level (order_of p.text) p.told ≡ true
    → (number : ℕ) × IsMeant (order_of p.text) p.text (laid_over p.before w.committed) number p.told p.before p.after

-- OWED CLAUSES hold at each place, for what is open there; and in what is committed each row fits its columns
pub record IsOwed (w : World) : Type 0 where
  pub pins : Each (PinHolds w) w.pins
  pub commits : CommitsFit w.committed

-- LOCKS. The mode in which an order asks for the dictionary
abbrev pub dictionary_mode : Option Order → Mode
dictionary_mode (Some (runs (CreateTable name columns))) = TX
dictionary_mode _ = TS

-- the table that a form names has this number
abbrev pub IsTarget : Tables → List ℕ → ℕ → Type 0
IsTarget tables name number = (target : Names tables name) × (target.def.number ≡ number)

-- the purposes of a lock: the dictionary; the table of a query in S, that of an INSERT in X
abbrev pub IsPurpose : Option Order → Tables → LockName → Mode → Type 0
IsPurpose order tables Dictionary mode = mode ≡ dictionary_mode order
IsPurpose (Some (runs (Select name))) tables (Table n) mode = (mode ≡ TS) × IsTarget tables name n
IsPurpose (Some (runs (Insert name tuples))) tables (Table n) mode = (mode ≡ TX) × IsTarget tables name n
IsPurpose order tables name mode = ⊥

-- a running statement may ask for it
pub record Wants (w : World) (t : ℕ) (name : LockName) (mode : Mode) : Type 0 where
  pub runs : (w.txns t).stage ≡ running
  pub purpose : IsPurpose (order_of (w.txns t).text) (seen w t) name mode

-- an event is due: all is kept to the transaction's end
abbrev pub IsDue : World → LockEvent → Type 0
IsDue w (event.Granted t name mode) = Wants w t.0 name mode
IsDue w (event.Queued t name mode) = Wants w t.0 name mode
IsDue w (event.Released t name) = ⊥
IsDue w (event.ReleasedAll t) = (w.txns t.0).stage ≡ over
IsDue w (event.Chosen t) = Unit {0}

-- EVENT CLAUSES: over the world at the event's place, and the events before it
pub record EventHolds (w : World) (before : List Locked) (e : Locked) : Type 0 where
  pub proper : IsProperAfter (map (λ l. l.event) before) e.event
  pub due : IsDue w e.event

-- places are those of entries, and never fall
pub record ArePlaces (count : ℕ) (ls : List Locked) : Type 0 where
  pub within : (k : ℕ) (d : Locked) → k < length ls → (slice_index_or ls k d).place ≤ count
  pub never_fall : (k : ℕ) (d : Locked) → k + 1 < length ls → (slice_index_or ls k d).place ≤ (slice_index_or ls (k + 1) d).place

-- THE JOURNAL IS LEGAL
pub record IsLegal (opened : Tables) (scripts : List (List ℕ)) (es : List Entry) (ls : List Locked) : Type 0 where
  pub entries : (i : ℕ) (d : Entry) → i < length es → EntryHolds scripts (world_at opened es i) (slice_index_or es i d)
  pub answers : (i : ℕ) (d : Entry) → i < length es → AnswersHold opened (take i es) (slice_index_or es i d)
  pub owed : (m : ℕ) → m ≤ length es → IsOwed (world_at opened es m)
  pub places : ArePlaces (length es) ls
  pub events : (k : ℕ) (d : Locked) → k < length ls → EventHolds (world_at opened es (slice_index_or ls k d).place) (take k ls) (slice_index_or ls k d)

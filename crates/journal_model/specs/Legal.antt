-- When a journal is legal, over the tables that it opened with and for the scripts of its connections.
use Rattle.std.specs.Prelude.{◌≡◌, ◌≢◌, ◌<◌, ◌≤◌, ◌-◌, ℕ, List, [], ◌∷◌, ◌++◌, length, map, take, Option, Some, None, true, false, ◌==◌, if◌then◌else◌, slice_get, slice_index_or}
use Rattle.std.specs.List.Sorted.{IsPermutation}
use Rattle.dby_types.specs.declared.answer.Answer.{Answer}
use Rattle.dby_types.specs.declared.answer.Answer.TheVariants.{Rows, Changed, Done}
use Rattle.dby_types.specs.declared.answer.Component.{Component}
use Rattle.dby_types.specs.declared.definition.ColumnDef.{ColumnDef}
use Rattle.dby_types.specs.declared.definition.TableDef.{TableDef}
use Rattle.dby_types.specs.declared.number.RowId.{RowId}
use Rattle.dby_types.specs.declared.state.SqlState.TheVariants as state
use Rattle.dby_types.specs.declared.value.Value.{Value}
use Rattle.sql_ast.specs.declared.statement.Statement.{Statement}
use Rattle.sql_ast.specs.declared.statement.Statement.TheVariants.{Unread}
use Rattle.sql_forms.specs.declared.form.Form.{Form}
use Rattle.sql_forms.specs.declared.form.Form.TheVariants.{CreateTable, Insert, Select}
use Rattle.sql_forms.specs.Forms.{form_of}
use Rattle.sql_lexer.specs.Splitting.{statements_of}
use Rattle.journal_model.specs.declared.journal.Entry.{Entry}
use Rattle.journal_model.specs.declared.journal.Entry.TheVariants.{Started, Did, Undone, Answered, Refused, Committed, Acknowledged, RolledBack}
use Rattle.journal_model.specs.declared.journal.Refusal.{Refusal}
use Rattle.journal_model.specs.declared.journal.Refusal.TheVariants.{Sql, Memory}
use Rattle.table_model.specs.Tables.{Tables, Made, Each, laid_over}
use Rattle.journal_model.specs.World.{World, running, resting, committing, settled, Told, said, Pin, opening, replay, world_at, seen, seen_over, is_ended, is_returnable, is_untold, given_by}
use Rattle.journal_model.specs.Catalog.{Defines, FitsColumns, table_row, column_rows}
use Rattle.journal_model.specs.Meaning.{IsRefused, Passes, Names, Suits, NullIn, some_null}
use Rattle.journal_model.specs.Levels.{ReadsCommitted, meets, row_of}

-- the k-th statement of connection c, from 0; connections count from 1
abbrev pub statement_of : List (List ℕ) → ℕ → ℕ → Option (List ℕ)
statement_of [] c k = None
statement_of (script ∷ scripts) c k = if c == 1 then slice_get (statements_of script) k else statement_of scripts (c - 1) k

-- THE SESSION RULE. A Started belongs to its connection's open transaction, or to a new one with a number above all before
abbrev pub Begins : World → ℕ → Option ℕ → Type 0
Begins w t None = w.last < t
Begins w t (Some u) = (u ≡ t) × ((w.txns t).stage ≡ resting)

-- it carries the connection's next statement, and the level that stands
pub record Starts (scripts : List (List ℕ)) (w : World) (t c : ℕ) (statement : Statement) : Type 0 where
  pub text : List ℕ
  pub carried : statement ≡ Unread text
  pub next : statement_of scripts c (w.conns c).begun ≡ Some text
  pub begins : Begins w t (w.conns c).txn
  pub goes_on : (w.conns c).closed ≡ false

-- which entry may come at a stage of its transaction
abbrev pub SessionsHold : List (List ℕ) → World → Entry → Type 0
SessionsHold scripts w (Started t c level statement) = (level ≡ (w.conns c.0).level) × Starts scripts w t.0 c.0 statement
SessionsHold scripts w (Did t table rid old new) = (w.txns t.0).stage ≡ running
SessionsHold scripts w (Undone t did) = is_returnable (w.txns t.0).stage ≡ true
SessionsHold scripts w (Answered t answer joined from to) = (w.txns t.0).stage ≡ running
SessionsHold scripts w (Refused t why) = is_untold (w.txns t.0).stage ≡ true
SessionsHold scripts w (Committed t) = (w.txns t.0).stage ≡ committing
SessionsHold scripts w (Acknowledged t) = (w.txns t.0).stage ≡ settled
SessionsHold scripts w (RolledBack t) = is_returnable (w.txns t.0).stage ≡ true

-- THE UNDO RULE. An Undone names the latest change that stands. A refused statement and a transaction rolled back have none left
abbrev pub UndoesHold : World → Entry → Type 0
UndoesHold w (Undone t did) = (m : Made) × (older : List Made) × ((w.txns t.0).changes ≡ m ∷ older) × (m.number ≡ did)
UndoesHold w (Refused t why) = (w.txns t.0).changes ≡ (w.txns t.0).begun
UndoesHold w (RolledBack t) = (w.txns t.0).changes ≡ []
UndoesHold w _ = Unit {0}

-- the number of a new table was never given before
abbrev pub IsFree : World → ℕ → Type 0
IsFree w n = Each (λ k. k ≢ n) w.given × ((d : TableDef) → Defines w.opened d → d.number ≢ n)

-- WHAT A CHANGE CHANGES. Its old row is the one that stood, and no other open transaction has changed it
pub record IsChange (w : World) (t table : ℕ) (rid : RowId) (old new : Option (List Value)) : Type 0 where
  pub was : old ≡ w.current table rid
  pub apart : (u : ℕ) → u ≢ t → Each (λ m. m.change.table ≡ table → m.change.rid ≡ rid → ⊥) (w.txns u).standing
  pub free : old ≡ None → Each (IsFree w) (given_by table new)

abbrev pub ChangesHold : World → Entry → Type 0
ChangesHold w (Did t table rid old new) = IsChange w t.0 table rid old new
ChangesHold w _ = Unit {0}

-- EVIDENCE OF A REFUSAL. A code of grammar, size or dictionary is the text's single refusal now; NULL refused stands in a tuple of VALUES
abbrev pub HasEvidence : List ℕ → Tables → Refusal → Type 0
HasEvidence text tables (Sql state.NullNotAllowed rows) = (rows ≡ []) × Passes text tables × NullIn (form_of text) tables
HasEvidence text tables (Sql why rows) = (rows ≡ []) × IsRefused text tables why
HasEvidence text tables Memory = Unit {0}

-- and a text that has a single refusal now is not answered
abbrev pub RefusalsHold : World → Entry → Type 0
RefusalsHold w (Refused t why) = HasEvidence (w.txns t.0).text (seen w t.0) why
RefusalsHold w (Answered t answer joined from to) = Passes (w.txns t.0).text (seen w t.0)
RefusalsHold w _ = Unit {0}

-- ENTRY CLAUSES are fixed by the world before the entry
pub record EntryHolds (scripts : List (List ℕ)) (w : World) (e : Entry) : Type 0 where
  pub session : SessionsHold scripts w e
  pub undo : UndoesHold w e
  pub change : ChangesHold w e
  pub refusal : RefusalsHold w e

-- what a statement put, took away or changed, in order
pub record Wrote : Type 0 where
  pub table : ℕ
  pub old : Option (List Value)
  pub new : Option (List Value)

abbrev pub wrote : Made → Wrote
wrote m = record { table = m.change.table; old = m.change.old; new = m.change.new }

-- of changes with the newest first, the oldest first
abbrev pub written : List Made → List Wrote
written [] = []
written (m ∷ ms) = written ms ++ wrote m ∷ []

-- a row that was put where none was
abbrev pub row_put : ℕ → List Value → Wrote
row_put table row = record { table = table; old = None; new = Some row }

-- AGREEMENT: the same columns, and the same rows equally often
pub record Agrees (answer : Answer) (names : List (List ℕ)) (rows : List (List Value)) : Type 0 where
  pub shown : List (List Value)
  pub answered : answer ≡ Rows names shown
  pub same : IsPermutation rows shown

-- a query of all rows of a table, at read committed
pub record AnswersSelect (views : ℕ → Tables) (from to : ℕ) (name : List ℕ) (answer : Answer) (joined : List (List Component)) (own : List Made) : Type 0 where
  pub table : Names (views to) name
  pub read : ReadsCommitted views from to (table.def.number ∷ []) (λ row. meets) joined
  pub told : Agrees answer (map (λ c. c.name) table.def.columns) (map row_of joined)
  pub none : own ≡ []

-- an INSERT: a row for each tuple, in order, each where none was, and their count
pub record AnswersInsert (views : ℕ → Tables) (to : ℕ) (name : List ℕ) (tuples : List (List Value)) (answer : Answer) (joined : List (List Component)) (own : List Made) : Type 0 where
  pub suits : Suits (views to) name tuples
  pub whole : some_null suits.target.def.columns tuples ≡ false
  pub puts : written own ≡ map (row_put suits.target.def.number) tuples
  pub told : answer ≡ Changed (length tuples)
  pub unread : joined ≡ []

-- a CREATE TABLE: its catalog rows, each where none was
pub record AnswersCreate (name : List ℕ) (columns : List ColumnDef) (answer : Answer) (joined : List (List Component)) (own : List Made) : Type 0 where
  pub number : ℕ
  pub puts : written own ≡ row_put 1 (table_row number name) ∷ map (row_put 2) (column_rows number 0 columns)
  pub told : answer ≡ Done
  pub unread : joined ≡ []

-- the relation of an answer to its statement, over the views of its span, with the changes of its own
abbrev pub Owes : Option Form → (ℕ → Tables) → ℕ → ℕ → Answer → List (List Component) → List Made → Type 0
Owes (Some (Select name)) views from to answer joined own = AnswersSelect views from to name answer joined own
Owes (Some (Insert name tuples)) views from to answer joined own = AnswersInsert views to name tuples answer joined own
Owes (Some (CreateTable name columns)) views from to answer joined own = AnswersCreate name columns answer joined own
Owes None views from to answer joined own = ⊥

-- what a transaction's running statement, which began at the end of these entries' world, sees at place m
abbrev pub view : Tables → List Entry → World → ℕ → ℕ → Tables
view opened past w t m = seen_over w t (world_at opened past m).committed

-- AN ANSWER MEETS ITS RELATION, over places of its span
pub record AnswerMeets (opened : Tables) (past : List Entry) (w : World) (t : ℕ) (answer : Answer) (joined : List (List Component)) (from to : ℕ) : Type 0 where
  pub after : (w.txns t).started < from
  pub order : from ≤ to
  pub within : to ≤ length past
  pub own : List Made
  pub changes : (w.txns t).changes ≡ own ++ (w.txns t).begun
  pub owes : Owes (form_of (w.txns t).text) (view opened past w t) from to answer joined own

-- SPAN CLAUSES are fixed by the entries before the Answered
abbrev pub AnswersHold : Tables → List Entry → Entry → Type 0
AnswersHold opened past (Answered t answer joined from to) = AnswerMeets opened past (replay (opening opened) past) t.0 answer joined from to
AnswersHold opened past _ = Unit {0}

-- what an answer still owes over the tables that its statement would see: a table's definition passes there, too
abbrev pub Stays : Option Form → List ℕ → Told → Tables → Type 0
Stays (Some (CreateTable name columns)) text (said answer) tables = Passes text tables
Stays form text told tables = Unit {0}

-- what was told is right over the tables of this place, while its transaction is open
abbrev pub PinHolds : World → Pin → Type 0
PinHolds w p = is_ended (w.txns p.txn).stage ≡ false → Stays (form_of p.text) p.text p.told (laid_over p.before w.committed)

-- each row fits the columns of its table, NOT NULL among them
abbrev pub CommitsFit : Tables → Type 0
CommitsFit tables = (d : TableDef) (rid : RowId) (row : List Value) → Defines tables d → tables d.number rid ≡ Some row → FitsColumns d.columns row

-- OWED CLAUSES hold at each place, for what is open there
pub record IsOwed (w : World) : Type 0 where
  pub pins : Each (PinHolds w) w.pins
  pub commits : CommitsFit w.committed

-- THE JOURNAL IS LEGAL
pub record IsLegal (opened : Tables) (scripts : List (List ℕ)) (es : List Entry) : Type 0 where
  pub entries : (i : ℕ) (d : Entry) → i < length es → EntryHolds scripts (world_at opened es i) (slice_index_or es i d)
  pub answers : (i : ℕ) (d : Entry) → i < length es → AnswersHold opened (take i es) (slice_index_or es i d)
  pub owed : (m : ℕ) → m ≤ length es → IsOwed (world_at opened es m)

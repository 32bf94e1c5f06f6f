-- What holds of an engine between any two of its steps.
use Rattle.std.specs.Prelude.{◌≡◌, ◌≢◌, ◌⊎◌, ℕ, ◌+◌, ◌<◌, ◌≤◌, ◌^◌, Bool, true, false, List, [], ◌∷◌, ◌++◌, length, map, reverse, take, slice_get, Vec, vec_len, vec_capacity, slice_index_or, Option, Some, None, All, if◌then◌else◌}
use Rattle.dby_types.specs.declared.definition.ColumnDef.{ColumnDef}
use Rattle.dby_types.specs.declared.number.RowId.{RowId}
use Rattle.dby_types.specs.declared.number.TxnNo.{TxnNo}
use Rattle.lock_modes.specs.declared.entry.Request.{Request}
use Rattle.lock_modes.specs.declared.event.LockEvent.{LockEvent}
use Rattle.lock_modes.specs.declared.mode.Mode.{Mode}
use Rattle.lock_modes.specs.declared.name.LockName.{LockName}
use Rattle.lock_modes.specs.declared.mode.Mode.TheVariants.{TS, TX}
use Rattle.lock_modes.specs.declared.name.LockName.TheVariants.{Dictionary, Table}
use Rattle.lock_modes.specs.Apart.{IsApart}
use Rattle.lock_modes.specs.Lock.{Lock, lock_of, queue, request}
use Rattle.lock_modes.specs.Modes.{has_mode}
use Rattle.lock_modes.specs.Names.{same_txn}
use Rattle.lock_modes.specs.Waits.{waiting}
use Rattle.table_model.specs.Fitting.{fits_columns}
use Rattle.table_model.specs.Tables.{Tables, Made, Each, no_tables, laid_over, rest_of}
use Rattle.store_api.specs.declared.slot.Item.{Item}
use Rattle.store_api.specs.declared.slot.Item.TheVariants.{Changed, Created, Discarded}
use Rattle.store_api.specs.View.{View, live, changes_in}
use Rattle.journal_model.specs.declared.journal.Entry.{Entry}
use Rattle.sql_lexer.specs.Splitting.{spans_of}
use Rattle.session_model.specs.declared.journal.Locked.{Locked}
use Rattle.session_model.specs.Orders.{order_of, is_built, is_create}
use Rattle.session_model.specs.World.{World, Txn, Stage, denied, seen, running, resting, committing, leaving, settled, opening, replay, no_txn, is_untold, is_returnable}
use Rattle.session_model.specs.Legal.{IsLegal, Wants, HasEvidence, is_lasting, dictionary_mode, puts_of}
use Rattle.session_model.specs.Places.{Shared, Others, ReadsCatalog, WritesCatalog, locks_of, is_catalog}
use Rattle.session_engine.specs.declared.session.Phase.{Phase}
use Rattle.session_engine.specs.declared.session.Phase.TheVariants.{Idle, Resting, Asking, Preparing, Claiming, Working, Refusing, Committing, Forcing, Acknowledging, Leaving}
use Rattle.session_engine.specs.declared.session.Session.{Session}
use Rattle.session_engine.specs.declared.session.Plan.{Plan}
use Rattle.session_engine.specs.declared.session.Plan.TheVariants as plan
use Rattle.sql_commands.specs.declared.command.Command.{Command}
use Rattle.session_model.specs.declared.order.Order.TheVariants as ordered
use Rattle.journal_model.specs.declared.journal.Refusal.{Refusal}
use Rattle.dby_types.specs.declared.definition.TableDef.{TableDef}
use Rattle.journal_model.specs.Catalog.{Defines, IsOf, NoTable, column_row, table_row}
use Rattle.journal_model.specs.Meaning.{is_long, Names, Suits, names_twice, some_null}
use Rattle.journal_model.specs.Levels.{row_of}
use Rattle.journal_model.specs.Legal.{written, row_put}
use Rattle.dby_types.specs.declared.value.Value.{Value}
use Rattle.sql_forms.specs.declared.form.Form.TheVariants.{Select, Insert, CreateTable}
use Rattle.session_engine.specs.declared.session.Scan.{Scan}
use Rattle.session_engine.specs.declared.session.Fill.{Fill}
use Rattle.session_engine.specs.declared.session.Make.{Make}
use Rattle.session_engine.specs.Scanning.{IsScanned, IsUnread, IsWhere}
use Rattle.session_engine.specs.Dictionary.{Named, Among}
use Rattle.session_engine.specs.Listed.{Cataloged}
use Rattle.session_engine.specs.Listing.{table_at}

-- ALL THAT THE ENGINE KEEPS: entries, lock events, the lock table's state, its connections, what its store is seen with, its dictionary
pub record State : Type 0 where
  pub es : List Entry
  pub ls : List Locked
  pub lock : Lock
  pub ss : List Session
  pub view : View
  pub named : List Named

abbrev pub scripts_of : List Session → List (List ℕ)
scripts_of ss = map (λ s. s.script) ss

abbrev pub events_of : List Locked → List LockEvent
events_of ls = map (λ l. l.event) ls

abbrev pub world_of : List Entry → World
world_of es = replay (opening no_tables) es

abbrev pub txn_of : Session → ℕ
txn_of s = s.txn.0

-- what a connection's phase says of its transaction
abbrev pub IsStage : Phase → Stage → Type 0
IsStage Idle x = ⊥
IsStage Resting x = x ≡ resting
IsStage Asking x = x ≡ running
IsStage Preparing x = x ≡ running
IsStage Claiming x = x ≡ running
IsStage Working x = x ≡ running
IsStage Refusing x = is_untold x ≡ true
IsStage Committing x = x ≡ committing
IsStage Forcing x = x ≡ settled
IsStage Acknowledging x = x ≡ settled
IsStage Leaving x = is_returnable x ≡ true

-- THE STORE'S LIST of a transaction's changes is the journal's, which says nothing of the containers that it made
abbrev pub Mirrors : List Item → List Made → Type 0
Mirrors [] [] = Unit {0}
Mirrors [] (m ∷ ms) = ⊥
Mirrors (Created c ∷ items) ms = Mirrors items ms
Mirrors (Changed table rid before ∷ items) [] = ⊥
Mirrors (Changed table rid before ∷ items) (m ∷ ms) = (m.change.table ≡ table) × (m.change.rid ≡ rid) × (live before ≡ m.change.old) × Mirrors items ms
Mirrors (Discarded c ∷ items) ms = ⊥

-- a transaction that is open in the store, or one without changes that isn't
abbrev pub Reflects : Bool → Option (List Item) → List Made → Type 0
Reflects true items ms = (list : List Item) × (items ≡ Some list) × Mirrors list ms
Reflects false items ms = (items ≡ None) × (ms ≡ [])

-- of a statement that runs: its own items are the newest, behind those that stood when it began
pub record Stands (mark : ℕ) (items : List Item) (x : Txn) : Type 0 where
  pub own_items : List Item
  pub base : List Item
  pub own : List Made
  pub items_are : items ≡ own_items ++ base
  pub length_is : length base ≡ mark
  pub changes_are : x.changes ≡ own ++ x.begun
  pub mirrors_own : Mirrors own_items own
  pub mirrors_base : Mirrors base x.begun

-- the place of each change has a row, live or marked
abbrev pub HaveSlots : View → List Made → Type 0
HaveSlots v ms = Each (λ m. v.content.heaps m.change.table m.change.rid ≢ None) ms

-- as a container was made, behind these changes, no row stood in it, and no table had its number
pub record IsNewContainer (f : Tables) (ms : List Made) (c : ℕ) : Type 0 where
  pub user : is_catalog c ≡ false
  pub apart : Each (λ m. m.change.table ≢ c) ms
  pub none : (rid : RowId) → laid_over ms f c rid ≡ None
  pub unknown : (d : TableDef) → Defines (laid_over ms f) d → d.number ≢ c

abbrev pub AreNew : Tables → List Item → List Made → Type 0
AreNew f [] ms = Unit {0}
AreNew f (Created c ∷ items) ms = IsNewContainer f ms c × AreNew f items ms
AreNew f (Changed table rid before ∷ items) ms = AreNew f items (rest_of ms)
AreNew f (Discarded c ∷ items) ms = ⊥

abbrev pub has_made : List Item → Bool
has_made [] = false
has_made (Created c ∷ items) = true
has_made (Changed table rid before ∷ items) = has_made items
has_made (Discarded c ∷ items) = has_made items

-- who makes containers has the catalog alone, so that nothing changes beside it
abbrev pub MakesAlone : Tables → Lock → ℕ → List Item → List Made → Type 0
MakesAlone f l t items ms = (has_made items ≡ false) ⊎ (WritesCatalog (locks_of l.grants) t × AreNew f items ms)

-- no change is of the catalog
abbrev pub AreUsers : List Made → Type 0
AreUsers ms = Each (λ m. is_catalog m.change.table ≡ false) ms

-- THE TRANSACTION THAT A CONNECTION HAS
pub record Busy (w : World) (l : Lock) (v : View) (last c : ℕ) (s : Session) : Type 0 where
  pub stage : IsStage s.phase (w.txns (txn_of s)).stage
  pub conn : (w.txns (txn_of s)).conn ≡ c
  pub mine : (w.conns c).txn ≡ Some (txn_of s)
  pub positive : 1 ≤ txn_of s
  pub numbered : txn_of s ≤ last
  pub numbers : map (λ m. m.number) (w.txns (txn_of s)).changes ≡ reverse s.made.items
  pub reflects : Reflects s.opened (v.content.changes (txn_of s)) (w.txns (txn_of s)).changes
  pub slots : HaveSlots v (w.txns (txn_of s)).changes
  pub containers : MakesAlone w.committed l (txn_of s) (changes_in (v.content.changes (txn_of s))) (w.txns (txn_of s)).changes
  pub idle : s.queued ≡ false → waiting l s.txn ≡ None

-- A REQUEST OF ITS OWN: it waits, or was granted since
abbrev pub IsPromised : Lock → Session → LockName → Mode → Type 0
IsPromised l s name mode = (waiting l s.txn ≡ Some (request s.txn name mode)) ⊎ (has_mode (l.grants s.txn name) mode ≡ true)

-- a running statement
pub record Runs (w : World) (s : Session) : Type 0 where
  pub first : (w.txns (txn_of s)).first ≡ s.first
  pub since : (w.txns (txn_of s)).started < w.count
  pub short : is_long (w.txns (txn_of s)).text ≡ false

-- the changes are those of before it
abbrev pub IsUnchanged : World → Session → Type 0
IsUnchanged w s = (w.txns (txn_of s)).changes ≡ (w.txns (txn_of s)).begun

-- the items that stand are those of before it
abbrev pub IsMarked : View → Session → Type 0
IsMarked v s = length (changes_in (v.content.changes (txn_of s))) ≡ s.mark

-- it asks for the dictionary
pub record Asks (w : World) (l : Lock) (v : View) (s : Session) : Type 0 where
  pub runs : Runs w s
  pub marked : IsMarked v s
  pub unchanged : IsUnchanged w s
  pub order : s.order ≡ order_of (w.txns (txn_of s)).text
  pub promised : s.queued ≡ true → IsPromised l s Dictionary (dictionary_mode s.order)

-- it has the dictionary, and is to be bound
pub record Prepares (w : World) (l : Lock) (v : View) (s : Session) : Type 0 where
  pub runs : Runs w s
  pub marked : IsMarked v s
  pub unchanged : IsUnchanged w s
  pub order : s.order ≡ order_of (w.txns (txn_of s)).text
  pub catalog : ReadsCatalog (locks_of l.grants) (txn_of s)
  -- who makes a table has it alone
  pub alone : is_create s.order ≡ true → WritesCatalog (locks_of l.grants) (txn_of s)

-- a command: nothing is changed by it
pub record Commands (w : World) (l : Lock) (v : View) (s : Session) (c : Command) : Type 0 where
  pub runs : Runs w s
  pub marked : IsMarked v s
  pub unchanged : IsUnchanged w s
  pub order : order_of (w.txns (txn_of s)).text ≡ Some (ordered.Command c)
  pub built : is_built c ≡ true
  pub catalog : ReadsCatalog (locks_of l.grants) (txn_of s)

-- a refusal with its evidence: it needs no table, or the catalog alone
abbrev pub IsShown : World → Lock → Session → Refusal → Type 0
IsShown w l s why =
    (((tables : Tables) → HasEvidence (w.txns (txn_of s)).text tables why) × (is_lasting (denied why) ≡ false))
    ⊎ (ReadsCatalog (locks_of l.grants) (txn_of s) × HasEvidence (w.txns (txn_of s)).text (seen w (txn_of s)) why)

-- it is refused: what it changed is taken back
pub record Refuses (w : World) (l : Lock) (v : View) (s : Session) (why : Refusal) : Type 0 where
  pub first : (w.txns (txn_of s)).first ≡ s.first
  pub shown : IsShown w l s why
  pub stands : Stands s.mark (changes_in (v.content.changes (txn_of s))) (w.txns (txn_of s))

-- A QUERY, bound: nothing is changed by it
pub record Selects (w : World) (l : Lock) (v : View) (s : Session) (scan : Scan) : Type 0 where
  pub runs : Runs w s
  pub marked : IsMarked v s
  pub unchanged : IsUnchanged w s
  pub name : List ℕ
  pub order : order_of (w.txns (txn_of s)).text ≡ Some (ordered.Form (Select name))
  pub catalog : ReadsCatalog (locks_of l.grants) (txn_of s)
  pub target : Names (seen w (txn_of s)) name
  pub number : target.def.number ≡ scan.number
  pub user : is_catalog scan.number ≡ false
  pub names : scan.names ≡ map (λ c. c.name) target.def.columns

-- and reads its table, which it has to itself and other readers
pub record Scans (w : World) (l : Lock) (v : View) (s : Session) (scan : Scan) : Type 0 where
  pub selects : Selects w l v s scan
  pub reads : (rid : RowId) → (locks_of l.grants).reads (txn_of s) scan.number rid ≡ true
  pub read : IsScanned (w.current scan.number) scan.after scan.tuples.items
  pub rows : scan.rows.items ≡ map row_of scan.tuples.items
  pub at : IsWhere v.content.heaps scan.number scan.after scan.at

-- AN INSERT, bound
pub record Inserts (w : World) (l : Lock) (s : Session) (fill : Fill) : Type 0 where
  pub runs : Runs w s
  pub name : List ℕ
  pub tuples : List (List Value)
  pub order : order_of (w.txns (txn_of s)).text ≡ Some (ordered.Form (Insert name tuples))
  pub catalog : ReadsCatalog (locks_of l.grants) (txn_of s)
  pub suits : Suits (seen w (txn_of s)) name tuples
  pub whole : some_null suits.target.def.columns tuples ≡ false
  pub fitting : Each (λ t. fits_columns suits.target.def.columns t ≡ true) tuples
  pub number : suits.target.def.number ≡ fill.number
  pub user : is_catalog fill.number ≡ false
  pub count : fill.count ≡ length tuples

-- and puts its rows, one after another, into its table, which it has to itself
pub record Fills (w : World) (l : Lock) (v : View) (c : ℕ) (s : Session) (fill : Fill) : Type 0 where
  pub inserts : Inserts w l s fill
  pub writes : (rid : RowId) → (locks_of l.grants).writes (txn_of s) fill.number rid ≡ true
  pub stands : Stands s.mark (changes_in (v.content.changes (txn_of s))) (w.txns (txn_of s))
  pub users : AreUsers stands.own
  pub done : List (List Value)
  pub rest : done ++ reverse fill.rows.items ≡ inserts.tuples
  pub puts : written stands.own ≡ map (row_put fill.number) done
  pub room : fill.has_room ≡ true → (v.actors c).room ≡ Some fill.number

-- it has put no row
pub record Waiting (w : World) (l : Lock) (v : View) (s : Session) (fill : Fill) : Type 0 where
  pub inserts : Inserts w l s fill
  pub marked : IsMarked v s
  pub unchanged : IsUnchanged w s
  pub all : reverse fill.rows.items ≡ inserts.tuples
  pub no_room : fill.has_room ≡ false

-- A CREATE TABLE, bound: no table has its name, its columns have different names, and they are few
pub record Bears (w : World) (l : Lock) (s : Session) (make : Make) : Type 0 where
  pub runs : Runs w s
  pub order : order_of (w.txns (txn_of s)).text ≡ Some (ordered.Form (CreateTable make.def.name make.def.columns))
  pub alone : WritesCatalog (locks_of l.grants) (txn_of s)
  pub fresh : NoTable (seen w (txn_of s)) make.def.name
  pub distinct : names_twice make.def.columns ≡ false
  pub few : length make.def.columns ≤ 64

-- the rows of a table's first columns stand in the catalog, and no others of this table
pub record HasFirst (tables : Tables) (number done : ℕ) (columns : List ColumnDef) : Type 0 where
  pub each : (place : ℕ) (c : ColumnDef) → place < done → slice_get columns place ≡ Some c → (rid : RowId) × (tables 2 rid ≡ Some (column_row number place c))
  pub only : (rid : RowId) (row : List Value) → tables 2 rid ≡ Some row → IsOf number row
      → (place : ℕ) × (c : ColumnDef) × (place < done) × (slice_get columns place ≡ Some c) × (row ≡ column_row number place c)

-- its container stands, and is described; nobody knows the table yet
pub record IsFounded (w : World) (v : View) (def : TableDef) (done : ℕ) : Type 0 where
  pub described : v.content.columns def.number ≡ Some def.columns
  pub made : def.number < v.content.next_container
  pub small : def.number < 2 ^ 31
  pub user : 16 ≤ def.number
  pub empty : (rid : RowId) → w.current def.number rid ≡ None
  pub free : Each (λ k. k ≢ def.number) w.given
  pub absent : NoTable w.current def.name
  pub unlisted : (rid : RowId) (name : List ℕ) → w.current 1 rid ≡ Some (table_row def.number name) → ⊥
  pub columns : HasFirst w.current def.number done def.columns

-- it makes its container, and puts its catalog rows, one after another
pub record Makes (w : World) (l : Lock) (v : View) (c : ℕ) (s : Session) (make : Make) : Type 0 where
  pub bears : Bears w l s make
  pub stands : Stands s.mark (changes_in (v.content.changes (txn_of s))) (w.txns (txn_of s))
  pub puts : written stands.own ≡ take make.done (puts_of make.def.number make.def.name make.def.columns)
  pub within : make.done ≤ length make.def.columns + 1
  pub unmade : make.made ≡ false → (make.done ≡ 0) × (make.has_room ≡ false)
  pub founded : make.made ≡ true → make.done ≤ length make.def.columns → IsFounded w v make.def make.done
  pub room : make.has_room ≡ true → (v.actors c).room ≡ Some (table_at make.done make.def.columns)

-- it asks for the table that it was bound to
abbrev pub Claims : World → Lock → View → Session → Plan → Type 0
Claims w l v s (plan.Select scan) = Selects w l v s scan × IsUnread scan × (s.queued ≡ true → IsPromised l s (Table scan.number) TS)
Claims w l v s (plan.Insert fill) = Waiting w l v s fill × (s.queued ≡ true → IsPromised l s (Table fill.number) TX)
Claims w l v s _ = ⊥

-- what it was bound to do
abbrev pub Works : World → Lock → View → ℕ → Session → Plan → Type 0
Works w l v c s (plan.Command d) = Commands w l v s d
Works w l v c s (plan.Select scan) = Scans w l v s scan
Works w l v c s (plan.Insert fill) = Fills w l v c s fill
Works w l v c s (plan.Create make) = Makes w l v c s make
Works w l v c s _ = ⊥

abbrev pub RefusesFor : World → Lock → View → Session → Plan → Type 0
RefusesFor w l v s (plan.Refuse why) = Refuses w l v s why
RefusesFor w l v s _ = ⊥

-- no request of it waits
abbrev pub WaitsNot : Session → Type 0
WaitsNot s = s.queued ≡ false

abbrev pub IsOpened : Session → Type 0
IsOpened s = s.opened ≡ true

abbrev pub PhaseHolds : Phase → World → Lock → View → ℕ → ℕ → Session → Type 0
PhaseHolds Idle w l v last c s = WaitsNot s × ((w.conns c).txn ≡ None) × (txn_of s ≡ 0) × (s.opened ≡ false) × (s.made.items ≡ [])
PhaseHolds Resting w l v last c s = Busy w l v last c s × WaitsNot s × IsOpened s
PhaseHolds Asking w l v last c s = Busy w l v last c s × IsOpened s × Asks w l v s
PhaseHolds Preparing w l v last c s = Busy w l v last c s × WaitsNot s × IsOpened s × Prepares w l v s
PhaseHolds Claiming w l v last c s = Busy w l v last c s × IsOpened s × Claims w l v s s.plan
PhaseHolds Working w l v last c s = Busy w l v last c s × WaitsNot s × IsOpened s × Works w l v c s s.plan
PhaseHolds Refusing w l v last c s = Busy w l v last c s × WaitsNot s × IsOpened s × RefusesFor w l v s s.plan
PhaseHolds Committing w l v last c s = Busy w l v last c s × WaitsNot s × IsOpened s
PhaseHolds Forcing w l v last c s = Busy w l v last c s × WaitsNot s × (s.opened ≡ false)
PhaseHolds Acknowledging w l v last c s = Busy w l v last c s × WaitsNot s × (s.opened ≡ false)
PhaseHolds Leaving w l v last c s = Busy w l v last c s × WaitsNot s × (s.closed ≡ false → (w.txns (txn_of s)).stage ≡ leaving)

-- A CONNECTION'S OWN PART
pub record SessionHolds (w : World) (l : Lock) (v : View) (last c : ℕ) (s : Session) : Type 0 where
  pub begun : (w.conns c).begun ≡ s.begun
  pub level : (w.conns c).level ≡ s.level
  pub automatic : (w.conns c).automatic ≡ s.automatic
  pub closed : s.closed ≡ false → (w.conns c).closed ≡ false
  pub spans : s.spans ≡ spans_of s.script
  pub phase : PhaseHolds s.phase w l v last c s

-- a request that waits is due, and who asks for a table has the dictionary
pub record Waits (w : World) (l : Lock) (r : Request) : Type 0 where
  pub wants : Wants w r.txn.0 r.name r.mode
  pub rooted : (r.name ≡ Dictionary) ⊎ ReadsCatalog (locks_of l.grants) r.txn.0

-- THE GUARANTEE OF A STEP to a connection of another, whose transaction is t: locks only grow, and a request of its own may be granted
pub record LockKept (t : TxnNo) (l l' : Lock) : Type 0 where
  pub none : waiting l t ≡ None → waiting l' t ≡ None
  pub some : (n : LockName) (m : Mode) → waiting l t ≡ Some (request t n m) → (waiting l' t ≡ Some (request t n m)) ⊎ (has_mode (l'.grants t n) m ≡ true)
  pub has : (n : LockName) (m : Mode) → has_mode (l.grants t n) m ≡ true → has_mode (l'.grants t n) m ≡ true

-- and the store leaves what it holds and has changed
pub record Beside (t : TxnNo) (b : ℕ) (w : World) (l : Lock) (v : View) (w' : World) (l' : Lock) (v' : View) : Type 0 where
  pub others : Others t.0 w (locks_of l.grants) w' (locks_of l'.grants)
  pub locks : LockKept t l l'
  pub changes : v'.content.changes t.0 ≡ v.content.changes t.0
  pub actor : v'.actors b ≡ v.actors b
  -- of what it relies on, with the catalog
  pub heaps : ReadsCatalog (locks_of l.grants) t.0 → (table : ℕ) (rid : RowId) → (locks_of l.grants).reads t.0 table rid ≡ true → v'.content.heaps table rid ≡ v.content.heaps table rid
  pub columns : ReadsCatalog (locks_of l.grants) t.0 → (table : ℕ) → v'.content.columns table ≡ v.content.columns table
  pub next : v.content.next_container ≤ v'.content.next_container

-- how often a transaction asks
abbrev pub times_in : TxnNo → List Request → ℕ
times_in t [] = 0
times_in t (r ∷ rs) = if same_txn r.txn t then times_in t rs + 1 else times_in t rs

-- THE INVARIANT
pub record Holds (st : State) (last : ℕ) : Type 0 where
  pub legal : IsLegal no_tables (scripts_of st.ss) st.es st.ls
  pub shared : Shared (world_of st.es) (locks_of st.lock.grants)
  pub apart : IsApart st.lock.grants
  pub fold : lock_of (events_of st.ls) ≡ st.lock
  pub alone : (t : TxnNo) → times_in t (queue st.lock) ≤ 1
  pub waits : All (Waits (world_of st.es) st.lock) (queue st.lock)
  pub each : (i : ℕ) (d : Session) → i < length st.ss → SessionHolds (world_of st.es) st.lock st.view last (i + 1) (slice_index_or st.ss i d)
  pub last_is : (world_of st.es).last ≡ last
  pub fresh : (t : ℕ) → last < t → (world_of st.es).txns t ≡ no_txn
  pub given : Each (λ n. n < st.view.content.next_container) (world_of st.es).given
  pub stored : (table : ℕ) (rid : RowId) → live (st.view.content.heaps table rid) ≡ (world_of st.es).current table rid
  pub zero : st.view.content.changes 0 ≡ None
  pub known : (t : ℕ) → st.view.content.changes t ≢ None → Among t (map txn_of st.ss)
  pub holders : (b : ℕ) → (st.view.actors b).pages ≢ 0 → (1 ≤ b) × (b ≤ length st.ss)
  pub few : length st.ss < st.view.limit
  pub cataloged : Cataloged st.view (world_of st.es) st.named

-- ROOM. How many entries a connection may still have to put, whatever happens: its changes taken back, and its statement's and its transaction's end
abbrev pub ends_in : Phase → ℕ
ends_in Idle = 0
ends_in Resting = 1
ends_in Asking = 3
ends_in Preparing = 3
ends_in Claiming = 3
ends_in Working = 3
ends_in Refusing = 2
ends_in Committing = 2
ends_in Forcing = 1
ends_in Acknowledging = 1
ends_in Leaving = 1

abbrev pub entries_of : Session → ℕ
entries_of s = length s.made.items + ends_in s.phase

-- and lock events: all that it has goes at the end
abbrev pub opens : Phase → ℕ
opens Idle = 0
opens _ = 1

abbrev pub releases_of : Session → ℕ
releases_of s = opens s.phase

abbrev pub sum_of : (Session → ℕ) → List Session → ℕ
sum_of f [] = 0
sum_of f (s ∷ ss) = f s + sum_of f ss

-- room is kept for all of it, and for the grants of all requests that wait
pub record HasRoom {Z : Type 0} (entries : Vec Entry Z) (events : Vec Locked Z) (ss : List Session) (l : Lock) (owed owed_events : ℕ) : Type 0 where
  pub owed_is : owed ≡ sum_of entries_of ss
  pub owed_events_is : owed_events ≡ sum_of releases_of ss
  pub entries_fit : vec_len entries + owed ≤ vec_capacity entries
  pub events_fit : vec_len events + owed_events + length (queue l) ≤ vec_capacity events

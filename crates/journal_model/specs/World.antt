-- The world that a journal tells of: a fold over its entries.
use Rattle.std.specs.Prelude.{ℕ, pos, ◌+◌, Bool, true, false, not, ◌||◌, ◌==◌, if◌then◌else◌, List, [], ◌∷◌, ◌++◌, take, Option, Some, None}
use Rattle.dby_types.specs.declared.answer.Answer.{Answer}
use Rattle.dby_types.specs.declared.number.Level.{Level}
use Rattle.dby_types.specs.declared.number.Level.TheVariants.{Cs}
use Rattle.dby_types.specs.declared.value.Value.{Value}
use Rattle.dby_types.specs.declared.value.Value.TheVariants.{Num}
use Rattle.sql_ast.specs.declared.statement.Statement.{Statement}
use Rattle.sql_ast.specs.declared.statement.Statement.TheVariants.{Unread}
use Rattle.journal_model.specs.declared.journal.Entry.{Entry}
use Rattle.journal_model.specs.declared.journal.Entry.TheVariants.{Started, Did, Undone, Answered, Refused, Committed, Acknowledged, RolledBack}
use Rattle.journal_model.specs.declared.journal.Refusal.{Refusal}
use Rattle.table_model.specs.Tables.{Tables, Made, put, laid_over, newest_undone, rest_of}

-- Where a transaction is in its life. It fixes which of its entries may come next.
pub data Stage : Type 0 where
  unborn : Stage  -- it has no entry
  running : Stage  -- a statement of it is not told yet
  undoing : Stage  -- the same, and a change of it was taken back
  resting : Stage  -- its last statement is told, and it stays open
  committing : Stage  -- its last statement is answered, and it is to be committed
  leaving : Stage  -- it is to be rolled back
  settled : Stage  -- committed, and not acknowledged yet
  over : Stage

pub record Txn : Type 0 where
  pub stage : Stage
  pub conn : ℕ  -- the connection that it belongs to
  pub level : Level  -- of its last Started
  pub text : List ℕ  -- of its last Started
  pub started : ℕ  -- the place of its last Started
  pub begun : List Made  -- its changes that stood there
  pub changes : List Made  -- those that stand, the newest first, none after its Committed
  pub standing : List Made  -- the same, but kept until Acknowledged

pub record Conn : Type 0 where
  pub level : Level  -- of its next transaction
  pub automatic : Bool  -- autocommit
  pub begun : ℕ  -- the number of its statements so far
  pub txn : Option ℕ  -- its open transaction
  pub closed : Bool  -- its open transaction was rolled back without a cause of its own: at the script's end, or at close

-- what a statement was told
pub data Told : Type 0 where
  said : Answer → Told
  denied : Refusal → Told

-- what was told, owed as long as its transaction is open
pub record Pin : Type 0 where
  pub txn : ℕ
  pub level : Level
  pub text : List ℕ
  pub before : List Made  -- the transaction's own changes as the statement began
  pub told : Told

pub record World : Type 0 where
  pub count : ℕ  -- of the entries
  pub last : ℕ  -- the greatest number of a transaction
  pub opened : Tables  -- the tables before the first entry
  pub committed : Tables
  pub current : Tables  -- as they stand, changes of open transactions among them
  pub given : List ℕ  -- the numbers of tables that were given so far
  pub txns : ℕ → Txn
  pub conns : ℕ → Conn
  pub pins : List Pin

-- a function with another value at one number
abbrev pub at_number : {X : Type 0} → (ℕ → X) → ℕ → X → ℕ → X
at_number f n x = λ m. if m == n then x else f m

abbrev pub no_txn : Txn
no_txn = record { stage = unborn; conn = 0; level = Cs; text = []; started = 0; begun = []; changes = []; standing = [] }

abbrev pub no_statement : Conn
no_statement = record { level = Cs; automatic = true; begun = 0; txn = None; closed = false }

-- the world before the first entry
abbrev pub opening : Tables → World
opening tables = record {
  count = 0;
  last = 0;
  opened = tables;
  committed = tables;
  current = tables;
  given = [];
  txns = λ t. no_txn;
  conns = λ c. no_statement;
  pins = [];
}

-- the text that a Started carries
abbrev pub text_in : Statement → List ℕ
text_in (Unread text) = text
text_in _ = []

-- the number of a table that a catalog row gives to it
abbrev pub number_in : List Value → List ℕ
number_in (Num (pos n) ∷ vs) = n ∷ []
number_in _ = []

abbrev pub numbers_of : Option (List Value) → List ℕ
numbers_of None = []
numbers_of (Some row) = number_in row

-- the numbers of tables that a change gives: the rows of catalog table 1 are tables
abbrev pub given_by : ℕ → Option (List Value) → List ℕ
given_by table new = if table == 1 then numbers_of new else []

-- a transaction has an end
abbrev pub is_ended : Stage → Bool
is_ended settled = true
is_ended over = true
is_ended _ = false

-- a transaction from which changes may be taken back
abbrev pub is_returnable : Stage → Bool
is_returnable running = true
is_returnable undoing = true
is_returnable resting = true
is_returnable committing = true
is_returnable leaving = true
is_returnable _ = false

-- its statement is not told
abbrev pub is_untold : Stage → Bool
is_untold running = true
is_untold undoing = true
is_untold _ = false

-- it is to be rolled back for a cause of its own
abbrev pub is_leaving : Stage → Bool
is_leaving leaving = true
is_leaving _ = false

abbrev pub after_undone : Stage → Stage
after_undone running = undoing
after_undone undoing = undoing
after_undone _ = leaving

-- with autocommit an answer commits and a refusal rolls back; else the transaction stays open
abbrev pub after_answered : Bool → Stage
after_answered automatic = if automatic then committing else resting

abbrev pub after_refused : Bool → Stage
after_refused automatic = if automatic then leaving else resting

-- a change is taken back from a transaction that had no cause for it: the connection is being closed
abbrev pub closes_by_undone : Stage → Bool
closes_by_undone resting = true
closes_by_undone committing = true
closes_by_undone _ = false

-- what one entry makes of the world
abbrev pub apply : World → Entry → World
apply w (Started t c level statement) =
    let x = w.txns t.0 in
    let k = w.conns c.0 in
    record w {
      count = w.count + 1;
      last = t.0;
      txns = at_number w.txns t.0 (record x { stage = running; conn = c.0; level = level; text = text_in statement; started = w.count; begun = x.changes });
      conns = at_number w.conns c.0 (record k { begun = k.begun + 1; txn = Some t.0 });
    }
apply w (Did t table rid old new) =
    let x = w.txns t.0 in
    let made : Made = record { number = w.count; change = record { table = table; rid = rid; old = old; new = new } } in
    record w {
      count = w.count + 1;
      current = put w.current table rid new;
      given = given_by table new ++ w.given;
      txns = at_number w.txns t.0 (record x { changes = made ∷ x.changes; standing = made ∷ x.standing });
    }
apply w (Undone t did) =
    let x = w.txns t.0 in
    let k = w.conns x.conn in
    record w {
      count = w.count + 1;
      current = newest_undone x.changes w.current;
      txns = at_number w.txns t.0 (record x { stage = after_undone x.stage; changes = rest_of x.changes; standing = rest_of x.standing });
      conns = at_number w.conns x.conn (record k { closed = closes_by_undone x.stage || k.closed });
    }
apply w (Answered t answer joined from to) =
    let x = w.txns t.0 in
    record w {
      count = w.count + 1;
      txns = at_number w.txns t.0 (record x { stage = after_answered (w.conns x.conn).automatic });
      pins = record { txn = t.0; level = x.level; text = x.text; before = x.begun; told = said answer } ∷ w.pins;
    }
apply w (Refused t why) =
    let x = w.txns t.0 in
    record w {
      count = w.count + 1;
      txns = at_number w.txns t.0 (record x { stage = after_refused (w.conns x.conn).automatic });
      pins = record { txn = t.0; level = x.level; text = x.text; before = x.begun; told = denied why } ∷ w.pins;
    }
apply w (Committed t) =
    let x = w.txns t.0 in
    record w {
      count = w.count + 1;
      committed = laid_over x.changes w.committed;
      txns = at_number w.txns t.0 (record x { stage = settled; changes = [] });
    }
apply w (Acknowledged t) =
    let x = w.txns t.0 in
    let k = w.conns x.conn in
    record w {
      count = w.count + 1;
      txns = at_number w.txns t.0 (record x { stage = over; standing = [] });
      conns = at_number w.conns x.conn (record k { txn = None });
    }
apply w (RolledBack t) =
    let x = w.txns t.0 in
    let k = w.conns x.conn in
    record w {
      count = w.count + 1;
      txns = at_number w.txns t.0 (record x { stage = over; changes = []; standing = [] });
      conns = at_number w.conns x.conn (record k { txn = None; closed = not (is_leaving x.stage) || k.closed });
    }

-- what entries make of a world, the first of them first
abbrev pub replay : World → List Entry → World
replay w [] = w
replay w (e ∷ es) = replay (apply w e) es

-- the world before place i
abbrev pub world_at : Tables → List Entry → ℕ → World
world_at opened es i = replay (opening opened) (take i es)

-- what a transaction's running statement sees over these committed tables: its own earlier changes laid over them
abbrev pub seen_over : World → ℕ → Tables → Tables
seen_over w t committed = laid_over (w.txns t).begun committed

-- what it sees now
abbrev pub seen : World → ℕ → Tables
seen w t = seen_over w t w.committed

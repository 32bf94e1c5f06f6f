-- The world that a journal tells of: a fold over its entries.
use Rattle.std.specs.Prelude.{ℕ, ◌+◌, Bool, true, false, not, ◌&&◌, ◌||◌, if◌then◌else◌, List, [], ◌∷◌, ◌++◌, take, Option, Some, None}
use Rattle.dby_types.specs.declared.answer.Answer.{Answer}
use Rattle.dby_types.specs.declared.number.Level.{Level}
use Rattle.dby_types.specs.declared.number.Level.TheVariants.{Cs}
use Rattle.dby_types.specs.declared.state.SqlState.TheVariants as state
use Rattle.sql_commands.specs.declared.command.Command.TheVariants as command
use Rattle.journal_model.specs.declared.journal.Entry.{Entry}
use Rattle.journal_model.specs.declared.journal.Entry.TheVariants.{Started, Did, Undone, Answered, Refused, Committed, Acknowledged, RolledBack}
use Rattle.journal_model.specs.declared.journal.Refusal.{Refusal}
use Rattle.journal_model.specs.declared.journal.Refusal.TheVariants.{Sql}
use Rattle.journal_model.specs.World.{at_number, text_in, given_by}
use Rattle.session_model.specs.declared.order.Order.{Order}
use Rattle.session_model.specs.declared.order.Order.TheVariants.{Command as bids, Form as runs}
use Rattle.session_model.specs.Orders.{order_of}
use Rattle.table_model.specs.Tables.{Tables, Made, put, laid_over, newest_undone, rest_of}

-- Where a transaction is in its life. It fixes which of its entries may come next.
pub data Stage : Type 0 where
  unborn : Stage  -- it has no entry
  running : Stage  -- a statement of it is not told yet
  undoing : Stage  -- the same, and a change of it was taken back
  resting : Stage  -- its last statement is told, and it stays open
  committing : Stage  -- its last statement is answered, and it is to be committed
  leaving : Stage  -- it is to be rolled back
  settled : Stage  -- committed, and not acknowledged yet
  over : Stage

pub record Txn : Type 0 where
  pub stage : Stage
  pub conn : ℕ  -- the connection that it belongs to
  pub level : Level  -- of its last Started
  pub text : List ℕ  -- of its last Started
  pub started : ℕ  -- the place of its last Started
  pub first : Bool  -- that Started began it
  pub begun : List Made  -- its changes that stood there
  pub changes : List Made  -- those that stand, the newest first, none after its Committed
  pub standing : List Made  -- the same, but kept until Acknowledged

pub record Conn : Type 0 where
  pub level : Level  -- of its next transaction
  pub automatic : Bool  -- autocommit
  pub begun : ℕ  -- the number of its statements so far
  pub txn : Option ℕ  -- its open transaction
  pub closed : Bool  -- its open transaction was rolled back without a cause of its own: at the script's end, or at close

-- what a statement was told
pub data Told : Type 0 where
  said : Answer → Told
  denied : Refusal → Told

-- what was told, owed as long as its transaction is open
pub record Pin : Type 0 where
  pub txn : ℕ
  pub level : Level
  pub text : List ℕ
  pub before : List Made  -- the transaction's own changes as the statement began
  pub after : List Made  -- and as it was told
  pub told : Told

pub record World : Type 0 where
  pub count : ℕ  -- of the entries
  pub last : ℕ  -- the greatest number of a transaction
  pub opened : Tables  -- the tables before the first entry
  pub committed : Tables
  pub current : Tables  -- as they stand, changes of open transactions among them
  pub given : List ℕ  -- the numbers of tables that were given so far
  pub txns : ℕ → Txn
  pub conns : ℕ → Conn
  pub pins : List Pin

abbrev pub no_txn : Txn
no_txn = record { stage = unborn; conn = 0; level = Cs; text = []; started = 0; first = true; begun = []; changes = []; standing = [] }

abbrev pub no_statement : Conn
no_statement = record { level = Cs; automatic = true; begun = 0; txn = None; closed = false }

-- the world before the first entry
abbrev pub opening : Tables → World
opening tables = record {
  count = 0;
  last = 0;
  opened = tables;
  committed = tables;
  current = tables;
  given = [];
  txns = λ t. no_txn;
  conns = λ c. no_statement;
  pins = [];
}

-- a transaction has an end
abbrev pub is_ended : Stage → Bool
is_ended settled = true
is_ended over = true
is_ended _ = false

-- a transaction from which changes may be taken back
abbrev pub is_returnable : Stage → Bool
is_returnable running = true
is_returnable undoing = true
is_returnable resting = true
is_returnable committing = true
is_returnable leaving = true
is_returnable _ = false

-- its statement is not told
abbrev pub is_untold : Stage → Bool
is_untold running = true
is_untold undoing = true
is_untold _ = false

-- it is to be rolled back for a cause of its own
abbrev pub is_leaving : Stage → Bool
is_leaving leaving = true
is_leaving _ = false

abbrev pub after_undone : Stage → Stage
after_undone running = undoing
after_undone undoing = undoing
after_undone _ = leaving

-- an answer commits with autocommit; else the transaction stays open
abbrev pub ends_if : Bool → Stage
ends_if ends = if ends then committing else resting

-- what follows an answer: `automatic` tells of autocommit, `first` that the statement began its transaction
abbrev pub after_answered : Option Order → Bool → Bool → Stage
after_answered (Some (bids command.Commit)) automatic first = committing
after_answered (Some (bids command.Rollback)) automatic first = leaving
after_answered (Some (bids (command.SetIsolation level))) automatic first = committing
after_answered (Some (bids (command.Autocommit on))) automatic first = ends_if (on || (automatic || first))
after_answered (Some (runs f)) automatic first = ends_if automatic
after_answered None automatic first = ends_if automatic

-- a refusal that wants log room
abbrev pub wants_log : Refusal → Bool
wants_log (Sql state.LogSpent rows) = true
wants_log _ = false

-- what follows a refusal: a transaction whose first statement wants log room isn't kept
abbrev pub after_refused : Refusal → Bool → Bool → Stage
after_refused why automatic first = if automatic || (wants_log why && first) then leaving else resting

-- what an answer leaves of its connection
abbrev pub set_conn : Option Order → Conn → Conn
set_conn (Some (bids (command.SetIsolation level))) k = record k { level = level }
set_conn (Some (bids (command.Autocommit on))) k = record k { automatic = on }
set_conn _ k = k

-- a change is taken back from a transaction that had no cause for it: the connection is being closed
abbrev pub closes_by_undone : Stage → Bool
closes_by_undone resting = true
closes_by_undone committing = true
closes_by_undone _ = false

abbrev pub is_none : Option ℕ → Bool
is_none None = true
is_none (Some t) = false

-- one more entry, and this transaction
abbrev pub with_txn : World → ℕ → Txn → World
with_txn w t x = record w { count = w.count + 1; txns = at_number w.txns t x }

-- and this connection
abbrev pub with_both : World → ℕ → Txn → ℕ → Conn → World
with_both w t x c k = record w { count = w.count + 1; txns = at_number w.txns t x; conns = at_number w.conns c k }

-- what is owed of a transaction's statement, told so
abbrev pub pin_of : ℕ → Txn → Told → Pin
pin_of t x told = record { txn = t; level = x.level; text = x.text; before = x.begun; after = x.changes; told = told }

-- what one entry makes of the world
abbrev pub apply : World → Entry → World
apply w (Started t c level statement) =
    let x = w.txns t.0 in
    let k = w.conns c.0 in
    record (with_both w t.0 (record x { stage = running; conn = c.0; level = level; text = text_in statement; started = w.count; first = is_none k.txn; begun = x.changes })
    c.0 (record k { begun = k.begun + 1; txn = Some t.0 })) { last = if is_none k.txn then t.0 else w.last }
apply w (Did t table rid old new) =
    let x = w.txns t.0 in
    let made : Made = record { number = w.count; change = record { table = table; rid = rid; old = old; new = new } } in
    record (with_txn w t.0 (record x { changes = made ∷ x.changes; standing = made ∷ x.standing })) {
      current = put w.current table rid new;
      given = given_by table new ++ w.given;
    }
apply w (Undone t did) =
    let x = w.txns t.0 in
    let k = w.conns x.conn in
    record (with_both w t.0 (record x { stage = after_undone x.stage; changes = rest_of x.changes; standing = rest_of x.standing })
    x.conn (record k { closed = closes_by_undone x.stage || k.closed })) { current = newest_undone x.changes w.current }
apply w (Answered t answer joined from to) =
    let x = w.txns t.0 in
    let k = w.conns x.conn in
    record (with_both w t.0 (record x { stage = after_answered (order_of x.text) k.automatic x.first })
    x.conn (set_conn (order_of x.text) k)) { pins = pin_of t.0 x (said answer) ∷ w.pins }
apply w (Refused t why) =
    let x = w.txns t.0 in
    record (with_txn w t.0 (record x { stage = after_refused why (w.conns x.conn).automatic x.first })) { pins = pin_of t.0 x (denied why) ∷ w.pins }
apply w (Committed t) =
    let x = w.txns t.0 in
    record (with_txn w t.0 (record x { stage = settled; changes = [] })) { committed = laid_over x.changes w.committed }
apply w (Acknowledged t) =
    let x = w.txns t.0 in
    let k = w.conns x.conn in
    with_both w t.0 (record x { stage = over; standing = [] }) x.conn (record k { txn = None })
apply w (RolledBack t) =
    let x = w.txns t.0 in
    let k = w.conns x.conn in
    with_both w t.0 (record x { stage = over; changes = []; standing = [] }) x.conn (record k { txn = None; closed = not (is_leaving x.stage) || k.closed })

-- what entries make of a world, the first of them first
abbrev pub replay : World → List Entry → World
replay w [] = w
replay w (e ∷ es) = replay (apply w e) es

-- the world before place i
abbrev pub world_at : Tables → List Entry → ℕ → World
world_at opened es i = replay (opening opened) (take i es)

-- what a transaction's running statement sees over these committed tables: its own earlier changes laid over them
abbrev pub seen_over : World → ℕ → Tables → Tables
seen_over w t committed = laid_over (w.txns t).begun committed

-- what it sees now
abbrev pub seen : World → ℕ → Tables
seen w t = seen_over w t w.committed

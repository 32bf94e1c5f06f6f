-- What a statement begins with.
use Rattle.std.specs.Prelude.{◌≡◌, ◌+◌, ◌<◌, ◌≤◌, ◌^◌, ℕ, List, [], Vec, vec_len, vec_capacity, Bool, true, false, Option, Some, None, length, slice_get, if◌then◌else◌}
use Rattle.dby_types.specs.declared.number.Level.{Level}
use Rattle.dby_types.specs.declared.number.TxnNo.{TxnNo}
use Rattle.dby_types.specs.declared.state.SqlState.TheVariants.{NotBuilt, LogSpent}
use Rattle.journal_model.specs.declared.journal.Entry.{Entry}
use Rattle.journal_model.specs.declared.journal.Entry.TheVariants.{Started, Refused}
use Rattle.journal_model.specs.declared.journal.Refusal.TheVariants.{Sql}
use Rattle.journal_model.specs.Meaning.{is_long}
use Rattle.sql_ast.specs.declared.statement.Statement.TheVariants.{Unread}
use Rattle.sql_lexer.specs.Splitting.{statements_of}
use Rattle.session_model.specs.declared.journal.Locked.{Locked}
use Rattle.session_model.specs.declared.order.Order.{Order}
use Rattle.session_model.specs.Orders.{order_of}
use Rattle.session_engine.specs.declared.beginning.Asked.{Asked}
use Rattle.session_engine.specs.declared.session.Phase.TheVariants.{Asking, Refusing, Leaving}
use Rattle.session_engine.specs.declared.session.Plan.TheVariants.{Nothing, Refuse}
use Rattle.session_engine.specs.declared.session.Session.{Session}

-- a text, and what it asks for where it isn't too long
pub record IsRead (a : Asked) : Type 0 where
  pub long : a.long ≡ is_long a.text
  pub order : a.long ≡ false → a.order ≡ order_of a.text

-- the next statement of a connection's script
abbrev pub IsNext : Session → Option Asked → Type 0
IsNext s None = length s.spans ≤ s.begun
IsNext s (Some a) = (slice_get (statements_of s.script) s.begun ≡ Some a.text) × IsRead a × (s.begun + 1 < 2 ^ 64)

-- the connection once its statement has begun in this transaction; one that is too long is refused
abbrev pub begun : Session → TxnNo → Bool → ℕ → Bool → Option Order → Session
begun s t first mark long order = record s {
  begun = s.begun + 1;
  phase = if long then Refusing else Asking;
  txn = t;
  opened = true;
  first = first;
  queued = false;
  mark = mark;
  order = order;
  plan = if long then Refuse (Sql NotBuilt []) else Nothing;
}

-- the entry of a statement that begins, and of one for whose transaction there is no number
abbrev pub started : TxnNo → ℕ → Level → List ℕ → Entry
started t c level text = Started t (record { 0 = c + 1 }) level (Unread text)

abbrev pub turned_away : TxnNo → Entry
turned_away t = Refused t (Sql LogSpent [])

-- the connection once its statement was refused so
abbrev pub away : Session → TxnNo → Session
away s t = record s { begun = s.begun + 1; phase = Leaving; txn = t; first = true }

-- there is room for so many entries and events
pub record HasBoth {Z : Type 0} (entries : Vec Entry Z) (events : Vec Locked Z) (n m : ℕ) : Type 0 where
  pub entries_fit : vec_len entries + n ≤ vec_capacity entries
  pub events_fit : vec_len events + m ≤ vec_capacity events

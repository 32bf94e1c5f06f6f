-- What closing an engine leaves: every open transaction rolled back, in a journal that stays legal.
use Rattle.std.specs.Prelude.{◌≡◌, ◌≢◌, ◌⊎◌, ◌+◌, ◌-◌, ◌*◌, ◌<◌, ◌≤◌, ◌++◌, ℕ, Bool, true, false, List, [], length, map, reverse, take, drop, slice_index_or, Vec, vec_len, vec_capacity, Option, Some, None}
use Rattle.dby_types.specs.declared.number.TxnNo.{TxnNo}
use Rattle.table_model.specs.Tables.{Each, no_tables}
use Rattle.store_api.specs.View.{View, changes_in}
use Rattle.store_api.specs.declared.answers.StoreAnswer.{StoreAnswer}
use Rattle.store_api.specs.declared.answers.StoreAnswer.TheVariants.{Failed, Damaged}
use Rattle.journal_model.specs.declared.journal.Entry.{Entry}
use Rattle.journal_model.specs.declared.journal.Entry.TheVariants as entry
use Rattle.session_model.specs.declared.journal.Locked.{Locked}
use Rattle.session_model.specs.World.{World, settled, is_returnable}
use Rattle.session_model.specs.Legal.{IsLegal}
use Rattle.session_engine.specs.declared.session.Phase.{Phase}
use Rattle.session_engine.specs.declared.session.Phase.TheVariants.{Idle, Forcing, Acknowledging}
use Rattle.session_engine.specs.declared.session.Session.{Session}
use Rattle.session_engine.specs.State.{Reflects, entries_of, releases_of, scripts_of, sum_of, txn_of, world_of}

-- an entry that takes back: a change, or a transaction
abbrev pub takes_back : Entry → Bool
takes_back (entry.Undone t did) = true
takes_back (entry.RolledBack t) = true
takes_back _ = false

-- CLOSING ADDS to the journal, at its end, changes taken back and transactions rolled back
pub record Ends (old new : List Entry) : Type 0 where
  pub added : List Entry
  pub at_end : new ≡ old ++ added
  pub kinds : Each (λ e. takes_back e ≡ true) added

-- A CONNECTION IS AT REST: no transaction of it is open; at most a commit of it stands that it hasn't been told
abbrev pub IsAtRest : World → ℕ → Type 0
IsAtRest w c = ((w.conns c).txn ≡ None) ⊎ ((t : ℕ) × ((w.conns c).txn ≡ Some t) × ((w.txns t).stage ≡ settled))

abbrev pub AllAtRest : ℕ → List Entry → Type 0
AllAtRest n es = (c : ℕ) → 1 ≤ c → c ≤ n → IsAtRest (world_of es) c

-- the transaction is open in this phase of its connection
abbrev pub is_open : Phase → Bool
is_open Idle = false
is_open Forcing = false
is_open Acknowledging = false
is_open _ = true

-- an open transaction, of connection c: it is its own, and the store's list of its changes is the journal's
pub record Open (w : World) (v : View) (c : ℕ) (s : Session) : Type 0 where
  pub conn : (w.txns (txn_of s)).conn ≡ c
  pub stage : is_returnable (w.txns (txn_of s)).stage ≡ true
  pub numbers : map (λ m. m.number) (w.txns (txn_of s)).changes ≡ reverse s.made.items
  pub reflects : Reflects s.opened (v.content.changes (txn_of s)) (w.txns (txn_of s)).changes

-- connection i + 1: those before `done` were ended
pub record Part (w : World) (v : View) (done i : ℕ) (s : Session) : Type 0 where
  pub ended : i < done → IsAtRest w (i + 1)
  pub rests : is_open s.phase ≡ false → IsAtRest w (i + 1)
  pub open_yet : done ≤ i → is_open s.phase ≡ true → Open w v (i + 1) s

-- BETWEEN TWO CONNECTIONS: those before `done` are at rest, nobody holds a page, and there is room for the ends of the others
pub record Closing {Z : Type 0} (entries : Vec Entry Z) (events : Vec Locked Z) (ss : List Session) (v : View) (done : ℕ) : Type 0 where
  pub legal : IsLegal no_tables (scripts_of ss) entries.items events.items
  pub quiet : (b : ℕ) → (v.actors b).pages ≡ 0
  pub parts : (i : ℕ) (d : Session) → i < length ss → Part (world_of entries.items) v done i (slice_index_or ss i d)
  pub few : length ss < v.limit
  pub room : vec_len entries + sum_of entries_of (drop done ss) ≤ vec_capacity entries
  pub room_events : vec_len events + sum_of releases_of (drop done ss) ≤ vec_capacity events

-- the connection at place c has this transaction, which is open, in the store too
pub record IsOwn (ss : List Session) (c : ℕ) (t : TxnNo) : Type 0 where
  pub within : c < length ss
  pub own : (d : Session) → (slice_index_or ss c d).txn ≡ t
  pub opened : (d : Session) → (slice_index_or ss c d).opened ≡ true
  pub phase : (d : Session) → is_open (slice_index_or ss c d).phase ≡ true

-- WITHIN ONE: of the changes of connection c + 1 so many are left, and nobody else holds a page
pub record Undoing {Z : Type 0} (entries : Vec Entry Z) (events : Vec Locked Z) (ss : List Session) (v : View) (c left : ℕ) : Type 0 where
  pub session : Session
  pub within : c < length ss
  pub at : (d : Session) → slice_index_or ss c d ≡ session
  pub legal : IsLegal no_tables (scripts_of ss) entries.items events.items
  pub quiet : (b : ℕ) → b ≢ c + 1 → (v.actors b).pages ≡ 0
  pub parts : (i : ℕ) (d : Session) → i ≢ c → i < length ss → Part (world_of entries.items) v (c + 1) i (slice_index_or ss i d)
  pub few : length ss < v.limit
  pub conn : ((world_of entries.items).txns (txn_of session)).conn ≡ c + 1
  pub stage : is_returnable ((world_of entries.items).txns (txn_of session)).stage ≡ true
  pub numbers : map (λ m. m.number) ((world_of entries.items).txns (txn_of session)).changes ≡ reverse (take left session.made.items)
  pub most : left ≤ length session.made.items
  pub reflects : Reflects true (v.content.changes (txn_of session)) ((world_of entries.items).txns (txn_of session)).changes
  pub room : vec_len entries + left + 1 + sum_of entries_of (drop (c + 1) ss) ≤ vec_capacity entries
  pub room_events : vec_len events + 1 + sum_of releases_of (drop (c + 1) ss) ≤ vec_capacity events

-- how much there is to do for transaction t and actor a: its items, and how often the store may still send the actor on
abbrev pub to_do : View → ℕ → ℕ → ℕ
to_do v t a = length (changes_in (v.content.changes t)) * (4 * v.pages + 17) + (4 * v.pages + 16 - (v.actors a).turns)

-- one item less, or one turn; or none is left
abbrev pub Undone : {Z : Type 0} → Vec Entry Z → Vec Locked Z → List Session → View → View → ℕ → ℕ → ℕ → Option ℕ → Type 0
Undone entries events ss old new c t left (Some fewer) = Undoing entries events ss new c fewer × (to_do new t (c + 1) < to_do old t (c + 1))
Undone entries events ss old new c t left None = Undoing entries events ss new c left × (new.content.changes t ≡ Some [])

-- an answer of the store that it keeps for good
abbrev pub Fails : View → StoreAnswer → Type 0
Fails v Failed = v.meters.keeps ≡ Some Failed
Fails v (Damaged damage) = v.meters.keeps ≡ Some (Damaged damage)
Fails v _ = ⊥

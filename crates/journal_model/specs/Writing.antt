-- What one who writes a journal keeps between two entries, where connection 1 is the only one.
use Rattle.std.specs.Prelude.{◌≡◌, ◌≢◌, ◌<◌, ℕ, List, [], Option, Some, None, true, false}
use Rattle.dby_types.specs.declared.number.Level.TheVariants.{Cs}
use Rattle.journal_model.specs.declared.journal.Entry.{Entry}
use Rattle.table_model.specs.Tables.{Tables, Made, Each, laid_over}
use Rattle.journal_model.specs.World.{World, Txn, Conn, Stage, unborn, running, Pin, opening, replay, is_ended}
use Rattle.journal_model.specs.Legal.{IsLegal, CommitsFit}

-- the connection, with so many statements begun, and this transaction open
abbrev pub conn_is : ℕ → Option ℕ → Conn
conn_is begun txn = record { level = Cs; automatic = true; begun = begun; txn = txn; closed = false }

-- a transaction that has no change
pub record HasNone (x : Txn) : Type 0 where
  pub changes : x.changes ≡ []
  pub standing : x.standing ≡ []

-- the pins of transactions that have ended
abbrev pub AreEnded : World → List Pin → Type 0
AreEnded w pins = Each (λ p. is_ended (w.txns p.txn).stage ≡ true) pins

-- no transaction is open: `last` statements have begun, each in a transaction of its own, and these tables are committed
pub record IsCalm (w : World) (opened : Tables) (last given : ℕ) (tables : Tables) : Type 0 where
  pub conn : w.conns 1 ≡ conn_is last None
  pub last_is : w.last ≡ last
  pub none : (u : ℕ) → HasNone (w.txns u)
  pub fresh : (u : ℕ) → last < u → (w.txns u).stage ≡ unborn
  pub pins : AreEnded w w.pins
  pub opened_is : w.opened ≡ opened
  pub committed_is : w.committed ≡ tables
  pub current_is : w.current ≡ tables
  pub given_below : Each (λ n. n < given) w.given
  pub commits : CommitsFit tables

-- transaction t is open, alone, at this stage: its one statement has this text, began at this place, and made these changes
pub record IsAlone (w : World) (t : ℕ) (stage : Stage) (text : List ℕ) (started : ℕ) (changes : List Made) : Type 0 where
  pub stage_is : (w.txns t).stage ≡ stage
  pub conn_is_1 : (w.txns t).conn ≡ 1
  pub text_is : (w.txns t).text ≡ text
  pub started_is : (w.txns t).started ≡ started
  pub begun : (w.txns t).begun ≡ []
  pub changes_are : (w.txns t).changes ≡ changes
  pub standing_are : (w.txns t).standing ≡ changes
  pub others : (u : ℕ) → u ≢ t → HasNone (w.txns u)
  pub fresh : (u : ℕ) → t < u → (w.txns u).stage ≡ unborn

-- its statement runs, over these committed tables
pub record IsRunning (w : World) (opened : Tables) (t given : ℕ) (text : List ℕ) (started : ℕ) (changes : List Made) (tables : Tables) : Type 0 where
  pub alone : IsAlone w t running text started changes
  pub conn : w.conns 1 ≡ conn_is t (Some t)
  pub last_is : w.last ≡ t
  pub pins : AreEnded w w.pins
  pub opened_is : w.opened ≡ opened
  pub committed_is : w.committed ≡ tables
  pub current_is : w.current ≡ laid_over changes tables
  pub given_below : Each (λ n. n < given) w.given
  pub commits : CommitsFit tables

-- a legal journal between two statements
pub record IsJournal (opened : Tables) (scripts : List (List ℕ)) (es : List Entry) (last given : ℕ) (tables : Tables) : Type 0 where
  pub legal : IsLegal opened scripts es
  pub calm : IsCalm (replay (opening opened) es) opened last given tables

-- a legal journal in which a statement runs
pub record IsRun (opened : Tables) (scripts : List (List ℕ)) (es : List Entry) (t given : ℕ) (text : List ℕ) (started : ℕ) (changes : List Made) (tables : Tables) : Type 0 where
  pub legal : IsLegal opened scripts es
  pub runs : IsRunning (replay (opening opened) es) opened t given text started changes tables

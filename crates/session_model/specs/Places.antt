-- What holds between any two steps, transaction by transaction and place by place, and what a step owes the others.
use Rattle.std.specs.Prelude.{◌≡◌, ◌≢◌, ◌⊎◌, ℕ, Bool, true, false, ◌||◌, ◌&&◌, ◌==◌, if◌then◌else◌, List, [], ◌∷◌, nat_lt}
use Rattle.dby_types.specs.declared.number.RowId.{RowId}
use Rattle.dby_types.specs.declared.number.TxnNo.{TxnNo}
use Rattle.lock_modes.specs.declared.mode.Mode.TheVariants.{TS, TX}
use Rattle.lock_modes.specs.declared.name.LockName.{LockName}
use Rattle.lock_modes.specs.declared.name.LockName.TheVariants.{Dictionary, Table}
use Rattle.lock_modes.specs.Lock.{Grants}
use Rattle.lock_modes.specs.Modes.{has_mode}
use Rattle.table_model.specs.Tables.{Tables, Made, Each, laid_over, is_same_rid}
use Rattle.journal_model.specs.Legal.{CommitsFit}
use Rattle.session_model.specs.Orders.{order_of}
use Rattle.session_model.specs.World.{World, Pin, is_ended}
use Rattle.session_model.specs.Legal.{is_owed, IsMeant}

-- WHO MAY RELY on a place (a table and a row id, whether a row stands there or not), and who may write it
pub record Locks : Type 0 where
  pub reads : ℕ → ℕ → RowId → Bool
  pub writes : ℕ → ℕ → RowId → Bool

-- the catalog's tables
abbrev pub is_catalog : ℕ → Bool
is_catalog table = nat_lt table 16

-- the name whose lock guards a table's places
abbrev pub guard : ℕ → LockName
guard table = if is_catalog table then Dictionary else Table table

abbrev pub txn_no : ℕ → TxnNo
txn_no t = record { 0 = t }

-- what a lock table gives, place by place
abbrev pub locks_of : Grants → Locks
locks_of g = record {
  reads = λ t table rid. has_mode (g (txn_no t) (guard table)) TS || has_mode (g (txn_no t) (guard table)) TX;
  writes = λ t table rid. has_mode (g (txn_no t) (guard table)) TX;
}

-- THE ONE LAW of locks: who may write a place is the only one who may read it
pub record Fits (l : Locks) : Type 0 where
  pub alone : (t u table : ℕ) (rid : RowId) → l.writes t table rid ≡ true → l.reads u table rid ≡ true → t ≡ u
  pub writer_reads : (t table : ℕ) (rid : RowId) → l.writes t table rid ≡ true → l.reads t table rid ≡ true

abbrev pub ReadsCatalog : Locks → ℕ → Type 0
ReadsCatalog l t = (table : ℕ) (rid : RowId) → is_catalog table ≡ true → l.reads t table rid ≡ true

abbrev pub WritesCatalog : Locks → ℕ → Type 0
WritesCatalog l t = (table : ℕ) (rid : RowId) → is_catalog table ≡ true → l.writes t table rid ≡ true

-- one of these changes is of this place
abbrev pub touches : List Made → ℕ → RowId → Bool
touches [] table rid = false
touches (m ∷ ms) table rid = ((table == m.change.table) && is_same_rid rid m.change.rid) || touches ms table rid

-- each change's old row is what the older ones, laid over what is committed, have there
abbrev pub Stacked : Tables → List Made → Type 0
Stacked f [] = Unit {0}
Stacked f (m ∷ ms) = (m.change.old ≡ laid_over ms f m.change.table m.change.rid) × Stacked f ms

-- with these changes, and with each older part of them, every row fits its columns
abbrev pub Fitting : Tables → List Made → Type 0
Fitting f [] = CommitsFit f
Fitting f (m ∷ ms) = CommitsFit (laid_over (m ∷ ms) f) × Fitting f ms

abbrev pub Written : Locks → ℕ → List Made → Type 0
Written l t ms = Each (λ m. l.writes t m.change.table m.change.rid ≡ true) ms

-- WHAT A TRANSACTION HAS, whatever its connection is doing
pub record TxnHolds (w : World) (l : Locks) (t : ℕ) : Type 0 where
  pub owned : Written l t (w.txns t).changes
  pub kept : Written l t (w.txns t).standing
  pub stacked : Stacked w.committed (w.txns t).changes
  pub fitting : Fitting w.committed (w.txns t).changes
  -- who changes anything relies on the catalog
  pub lawful : ((w.txns t).changes ≡ []) ⊎ ReadsCatalog l t
  -- of what it relies on, the store shows its view
  pub seen : (table : ℕ) (rid : RowId) → l.reads t table rid ≡ true → w.current table rid ≡ laid_over (w.txns t).changes w.committed table rid

-- what was told, with the places on which it rests: the catalog, and a table
pub record Relies (w : World) (l : Locks) (p : Pin) : Type 0 where
  pub catalog : ReadsCatalog l p.txn
  pub number : ℕ
  pub rows : (rid : RowId) → l.reads p.txn number rid ≡ true
  pub meant : IsMeant (order_of p.text) p.text (laid_over p.before w.committed) number p.told p.before p.after

abbrev pub PinRests : World → Locks → Pin → Type 0
PinRests w l p = is_ended (w.txns p.txn).stage ≡ false → is_owed p.level (order_of p.text) p.told ≡ true → Relies w l p

-- WHAT ALL SHARE
pub record Shared (w : World) (l : Locks) : Type 0 where
  pub fits : Fits l
  pub commits : CommitsFit w.committed
  -- what nobody has changed is as committed
  pub clean : (table : ℕ) (rid : RowId) → ((u : ℕ) → touches (w.txns u).changes table rid ≡ false) → w.current table rid ≡ w.committed table rid
  pub txns : (t : ℕ) → TxnHolds w l t
  pub pins : Each (PinRests w l) w.pins

-- THE GUARANTEE: all that a step of anybody else may do to a transaction
pub record Others (t : ℕ) (w : World) (l : Locks) (w' : World) (l' : Locks) : Type 0 where
  pub txn : w'.txns t ≡ w.txns t
  pub reads : (table : ℕ) (rid : RowId) → l.reads t table rid ≡ true → l'.reads t table rid ≡ true
  pub writes : (table : ℕ) (rid : RowId) → l.writes t table rid ≡ true → l'.writes t table rid ≡ true
  pub committed : (table : ℕ) (rid : RowId) → l.reads t table rid ≡ true → w'.committed table rid ≡ w.committed table rid
  pub current : (table : ℕ) (rid : RowId) → l.reads t table rid ≡ true → w'.current table rid ≡ w.current table rid
  -- who may write the catalog is alone: nothing at all changes beside it
  pub whole : WritesCatalog l t → (table : ℕ) (rid : RowId) → (w'.committed table rid ≡ w.committed table rid) × (w'.current table rid ≡ w.current table rid)
  -- and no number is given to a table
  pub given : WritesCatalog l t → w'.given ≡ w.given

-- LOCKS GROW, by a grant
pub record Grew (l l' : Locks) : Type 0 where
  pub reads : (t table : ℕ) (rid : RowId) → l.reads t table rid ≡ true → l'.reads t table rid ≡ true
  pub writes : (t table : ℕ) (rid : RowId) → l.writes t table rid ≡ true → l'.writes t table rid ≡ true
  pub fits : Fits l'

-- LOCKS GO: a transaction that is over, with no change left, lets go of all
pub record Left (a : ℕ) (w : World) (l l' : Locks) : Type 0 where
  pub reads : (t table : ℕ) (rid : RowId) → t ≢ a → l'.reads t table rid ≡ l.reads t table rid
  pub writes : (t table : ℕ) (rid : RowId) → t ≢ a → l'.writes t table rid ≡ l.writes t table rid
  pub fewer : (table : ℕ) (rid : RowId) → l'.reads a table rid ≡ true → l.reads a table rid ≡ true
  pub none : (w.txns a).changes ≡ []
  pub none_standing : (w.txns a).standing ≡ []
  pub ended : is_ended (w.txns a).stage ≡ true
  pub fits : Fits l'

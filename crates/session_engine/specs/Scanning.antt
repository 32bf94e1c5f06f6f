-- What a scan has read of a table.
use Rattle.std.specs.Prelude.{◌≡◌, ◌≢◌, ◌≤◌, ℕ, List, [], ◌∷◌, ◌++◌, Option, Some, None, true, false}
use Rattle.dby_types.specs.declared.answer.Component.{Component}
use Rattle.dby_types.specs.declared.answer.Answer.TheVariants.{Rows}
use Rattle.dby_types.specs.declared.number.RowId.{RowId}
use Rattle.dby_types.specs.declared.number.TxnNo.{TxnNo}
use Rattle.dby_types.specs.declared.value.Value.{Value}
use Rattle.table_model.specs.Tables.{Each}
use Rattle.store_api.specs.Order.{is_behind, IsFirstBehind}
use Rattle.store_api.specs.Effects.{GoesOn}
use Rattle.store_api.specs.View.{View, Heaps, live}
use Rattle.journal_model.specs.declared.journal.Entry.{Entry}
use Rattle.journal_model.specs.declared.journal.Entry.TheVariants.{Answered}
use Rattle.journal_model.specs.Levels.{times}
use Rattle.session_engine.specs.declared.session.Scan.{Scan}
use Rattle.session_engine.specs.declared.session.Where.{Where}
use Rattle.session_engine.specs.declared.session.Where.TheVariants.{Lost, At, Ended}
use Rattle.session_engine.specs.declared.scanning.Saw.{Saw}
use Rattle.session_engine.specs.declared.scanning.Saw.TheVariants as saw
use Rattle.session_engine.specs.declared.scanning.Sought.{Sought}
use Rattle.session_engine.specs.declared.scanning.Sought.TheVariants as sought

-- a tuple is the row that stands at its row id, which is none behind this one
pub record IsReadAt (rows : RowId → Option (List Value)) (after : Option RowId) (tuple : List Component) : Type 0 where
  pub part : Component
  pub is : tuple ≡ part ∷ []
  pub stood : rows part.rid ≡ Some part.row
  pub passed : is_behind after part.rid ≡ false

-- each row up to a row id was read, and each once
pub record IsScanned (rows : RowId → Option (List Value)) (after : Option RowId) (joined : List (List Component)) : Type 0 where
  pub stood : Each (IsReadAt rows after) joined
  pub once : (rid : RowId) (row : List Value) → is_behind after rid ≡ false → rows rid ≡ Some row → times (rid ∷ []) joined ≡ 1
  pub few : (rid : RowId) → times (rid ∷ []) joined ≤ 1

-- a scan that has not begun
pub record IsUnread (scan : Scan) : Type 0 where
  pub nowhere : scan.at ≡ Lost
  pub first : scan.after ≡ None
  pub none : scan.tuples.items ≡ []
  pub no_rows : scan.rows.items ≡ []

-- where it is: at the first row behind what it has passed, or behind the last one
abbrev pub IsWhere : Heaps → ℕ → Option RowId → Where → Type 0
IsWhere heaps table after Lost = Unit {0}
IsWhere heaps table after (At rid) = IsFirstBehind heaps table after (Some rid)
IsWhere heaps table after Ended = IsFirstBehind heaps table after None

-- what a look for it found
abbrev pub IsSought : Heaps → ℕ → Option RowId → Sought → Type 0
IsSought heaps table after (sought.Came at) = IsWhere heaps table after at
IsSought heaps table after _ = Unit {0}

-- another actor holds a page of this table
abbrev pub IsWithheld : ℕ → ℕ → View → Type 0
IsWithheld a b v = (b ≢ a) × ((table : ℕ) × (r : RowId) × ((v.actors b).holds table r ≡ true))

-- a look that is to be made again has turned once more; one for whose page it has to wait says who holds it
abbrev pub TurnsTo : ℕ → View → View → Sought → Type 0
TurnsTo a old new (sought.Came Lost) = ⊥
TurnsTo a old new (sought.Came at) = Unit {0}
TurnsTo a old new sought.Onward = GoesOn a old new
TurnsTo a old new (sought.Held b) = IsWithheld a b old

-- and what a look at a row
abbrev pub IsSeen : Heaps → ℕ → RowId → Saw → Type 0
IsSeen heaps table rid (saw.Live row) = live (heaps table rid) ≡ Some row
IsSeen heaps table rid saw.Passed = live (heaps table rid) ≡ None
IsSeen heaps table rid (saw.Held b) = Unit {0}

-- .. or who holds its page
abbrev pub IsKeptFrom : ℕ → View → Saw → Type 0
IsKeptFrom a v (saw.Held b) = IsWithheld a b v
IsKeptFrom a v _ = Unit {0}

-- the row that stands here was read
pub record Takes (old new : Scan) (rid : RowId) (row : List Value) : Type 0 where
  pub tuples : new.tuples.items ≡ old.tuples.items ++ (record { rid = rid; row = row } ∷ []) ∷ []
  pub rows : new.rows.items ≡ old.rows.items ++ row ∷ []
  pub rest : new ≡ record old { at = Lost; after = Some rid; tuples = new.tuples; rows = new.rows }

-- or passed
abbrev pub passed : Scan → RowId → Scan
passed s rid = record s { at = Lost; after = Some rid }

-- the entry of a query's answer
abbrev pub told_rows : TxnNo → ℕ → Scan → Entry
told_rows t place s = Answered t (Rows s.names s.rows.items) s.tuples.items place place

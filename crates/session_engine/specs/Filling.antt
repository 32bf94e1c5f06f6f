-- How an INSERT finds room for its rows and puts them.
use Rattle.std.specs.Prelude.{◌≡◌, ◌≢◌, ℕ, List, [], ◌∷◌, ◌++◌, Option, Some, None, true, false}
use Rattle.dby_types.specs.declared.answer.Answer.TheVariants.{Changed}
use Rattle.dby_types.specs.declared.number.RowId.{RowId}
use Rattle.dby_types.specs.declared.number.TxnNo.{TxnNo}
use Rattle.dby_types.specs.declared.state.SqlState.{SqlState}
use Rattle.dby_types.specs.declared.value.Value.{Value}
use Rattle.device.specs.Counts.{Rises}
use Rattle.store_api.specs.Effects.{GoesOn}
use Rattle.store_api.specs.View.{View}
use Rattle.journal_model.specs.declared.journal.Entry.{Entry}
use Rattle.journal_model.specs.declared.journal.Entry.TheVariants.{Did, Answered}
use Rattle.journal_model.specs.declared.journal.Refusal.TheVariants.{Sql}
use Rattle.session_engine.specs.Pacing.{next_of_fill, next_of_plan}
use Rattle.session_engine.specs.Scanning.{IsWithheld}
use Rattle.session_engine.specs.declared.next.Work.TheVariants.{Fill as ToFill}
use Rattle.session_engine.specs.declared.filling.Roomy.{Roomy}
use Rattle.session_engine.specs.declared.filling.Roomy.TheVariants as roomy
use Rattle.session_engine.specs.declared.session.Phase.TheVariants.{Refusing}
use Rattle.session_engine.specs.declared.session.Plan.TheVariants.{Refuse, Insert}
use Rattle.session_engine.specs.declared.session.Fill.{Fill}
use Rattle.session_engine.specs.declared.session.Session.{Session}

-- a call moved its actor's pages, and nothing else that this engine looks at
pub record Moves (a : ℕ) (old new : View) : Type 0 where
  pub content : new.content ≡ old.content
  pub others : (b : ℕ) → b ≢ a → new.actors b ≡ old.actors b
  pub limit_same : new.limit ≡ old.limit

-- room for a row of this table is made; or a count of what is spent rose
abbrev pub IsRoomy : ℕ → ℕ → View → View → Roomy → Type 0
IsRoomy a table old new roomy.Made = (new.actors a).room ≡ Some table
IsRoomy a table old new roomy.NoPages = Rises old.meters.no_pages new.meters.no_pages
IsRoomy a table old new roomy.NoLog = Rises old.meters.no_log new.meters.no_log
IsRoomy a table old new _ = Unit {0}

-- a look for room that is to be made again has turned once more
abbrev pub TurnsFor : ℕ → View → View → Roomy → Type 0
TurnsFor a old new roomy.Onward = GoesOn a old new
TurnsFor a old new (roomy.Held b) = IsWithheld a b old
TurnsFor a old new _ = Unit {0}

-- the entry of a row that was put, and that of an INSERT's answer
abbrev pub inserted : TxnNo → ℕ → RowId → List Value → Entry
inserted t table rid row = Did t table rid None (Some row)

abbrev pub told_count : TxnNo → ℕ → ℕ → Entry
told_count t place count = Answered t (Changed count) [] place place

-- the connection once no page or log room was left
abbrev pub run_out : Session → SqlState → Session
run_out s why = record s { phase = Refusing; plan = Refuse (Sql why []) }

-- a row taken from those that are still to be put, where room was made for it
pub record Pops (old new : Fill) (row : List Value) : Type 0 where
  pub had_room : old.has_room ≡ true
  pub rest : new ≡ record old { rows = new.rows; has_room = false }
  pub rows : old.rows.items ≡ new.rows.items ++ row ∷ []

abbrev pub IsPopped : Fill → Fill → Option (List Value) → Type 0
IsPopped old new None = next_of_fill old.rows.items old.has_room ≢ ToFill
IsPopped old new (Some row) = Pops old new row

-- the next row of an INSERT, taken out of its plan
pub record TakesRow (old new : Session) (number : ℕ) (row : List Value) : Type 0 where
  pub fill : Fill
  pub left : Fill
  pub planned : old.plan ≡ Insert fill
  pub number_is : number ≡ fill.number
  pub pops : Pops fill left row
  pub after : new ≡ record old { plan = Insert left }

abbrev pub IsNextRow : Session → Session → Option (ℕ × List Value) → Type 0
IsNextRow old new None = next_of_plan old.plan ≢ ToFill
IsNextRow old new (Some p) = TakesRow old new p.0 p.1

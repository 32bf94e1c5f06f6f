-- How a table is made: its container, described to the store.
use Rattle.std.specs.Prelude.{◌≡◌, ◌≢◌, ◌<◌, ◌≤◌, ◌+◌, ◌^◌, ◌⊎◌, ℕ, [], Option, Some, None, true, false}
use Rattle.device.specs.Counts.{Rises}
use Rattle.dby_types.specs.declared.answer.Answer.TheVariants.{Done}
use Rattle.dby_types.specs.declared.definition.TableDef.{TableDef}
use Rattle.dby_types.specs.declared.number.TxnNo.{TxnNo}
use Rattle.journal_model.specs.declared.journal.Entry.{Entry}
use Rattle.journal_model.specs.declared.journal.Entry.TheVariants.{Answered}
use Rattle.store_api.specs.declared.slot.Item.TheVariants.{Created}
use Rattle.store_api.specs.Effects.{GoesOn, with_item}
use Rattle.store_api.specs.View.{View, at_number}
use Rattle.session_engine.specs.Pacing.{next_of_plan}
use Rattle.session_engine.specs.declared.next.Build.TheVariants.{Make as ToMake}
use Rattle.session_engine.specs.declared.next.Work.TheVariants.{Build as ToBuild}
use Rattle.session_engine.specs.declared.creating.Contained.{Contained}
use Rattle.session_engine.specs.declared.creating.Contained.TheVariants as contained
use Rattle.session_engine.specs.declared.session.Make.{Make}
use Rattle.session_engine.specs.declared.session.Plan.TheVariants.{Create, Nothing}
use Rattle.session_engine.specs.declared.session.Session.{Session}

-- a call left what the other actors hold
pub record Stays (a : ℕ) (old new : View) : Type 0 where
  pub others : (b : ℕ) → b ≢ a → new.actors b ≡ old.actors b
  pub limit_same : new.limit ≡ old.limit

-- .. and what all of them hold
pub record Remains (old new : View) : Type 0 where
  pub everyone : (b : ℕ) → new.actors b ≡ old.actors b
  pub limit_same : new.limit ≡ old.limit

-- a container was made, under a number that none had
pub record HasContainer (t n : ℕ) (old new : View) : Type 0 where
  pub fresh : old.content.next_container ≤ n
  pub small : n < 2 ^ 31
  pub content : new.content ≡ record (with_item old.content t (Created n)) { next_container = n + 1 }

-- rows are read and written by a table's columns from now on
abbrev pub IsDescribedBy : TableDef → View → View → Type 0
IsDescribedBy def old new = new.content ≡ record old.content { columns = at_number old.content.columns def.number (Some def.columns) }

-- a CREATE TABLE without a container is taken out of a plan
pub record TakesUnmade (old new : Session) (make : Make) : Type 0 where
  pub planned : old.plan ≡ Create make
  pub bare : make.made ≡ false
  pub after : new ≡ record old { plan = Nothing }

abbrev pub IsTaken : Session → Session → Option Make → Type 0
IsTaken old new None = next_of_plan old.plan ≢ ToBuild ToMake
IsTaken old new (Some make) = TakesUnmade old new make

-- it has its number
abbrev pub numbered : Make → ℕ → Make
numbered make n = record make { def = record make.def { number = n } }

-- its container stands, and is described
pub record HasHeap (t : ℕ) (make left : Make) (old new : View) : Type 0 where
  pub number : ℕ
  pub after : left ≡ record (numbered make number) { made = true }
  pub fresh : old.content.next_container ≤ number
  pub small : number < 2 ^ 31
  pub content : new.content ≡ record (with_item old.content t (Created number)) {
    next_container = number + 1;
    columns = at_number old.content.columns number (Some make.def.columns);
  }

-- or not; where none is left, a count of what is spent rose
abbrev pub IsContained : ℕ → Make → Make → View → View → Contained → Type 0
IsContained t make left old new contained.Made = HasHeap t make left old new
IsContained t make left old new contained.Onward = (left ≡ make) × (new.content ≡ old.content)
IsContained t make left old new contained.NoPages = (left ≡ make) × (new.content ≡ old.content) × Rises old.meters.no_pages new.meters.no_pages
IsContained t make left old new contained.NoLog = (left ≡ make) × (new.content ≡ old.content) × Rises old.meters.no_log new.meters.no_log

-- a call that failed made none, or one that isn't described
abbrev pub IsBare : ℕ → Make → Make → View → View → Type 0
IsBare t make left old new = ((n : ℕ) × (left ≡ numbered make n)) × ((new.content ≡ old.content) ⊎ ((n : ℕ) × HasContainer t n old new))

-- a making that is to be gone on with has turned once more
abbrev pub TurnsIn : ℕ → View → View → Contained → Type 0
TurnsIn a old new contained.Onward = GoesOn a old new
TurnsIn a old new _ = Unit {0}

-- the entry of a CREATE TABLE's answer
abbrev pub told_done : TxnNo → ℕ → Entry
told_done t place = Answered t Done [] place place

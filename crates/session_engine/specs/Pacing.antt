-- What a connection does next, and that no step is spent on nothing.
use Rattle.std.specs.Prelude.{◌≡◌, ◌≢◌, ◌⊎◌, ◌≤◌, ◌<◌, ◌+◌, ℕ, Bool, true, false, List, [], ◌∷◌, length, map, nat_le, nat_lt, slice_index_or, slice_set, if◌then◌else◌, Option, Some}
use Rattle.dby_types.specs.declared.value.Value.{Value}
use Rattle.dby_types.specs.declared.number.RowId.{RowId}
use Rattle.store_api.specs.Order.{is_behind}
use Rattle.store_api.specs.View.{View}
use Rattle.store_api.specs.declared.slot.Item.{Item}
use Rattle.journal_model.specs.declared.journal.Entry.{Entry}
use Rattle.session_engine.specs.declared.next.Build.{Build}
use Rattle.session_engine.specs.declared.next.Build.TheVariants.{Make as ToMake, Spread, Lay, List as ToList, Done}
use Rattle.session_engine.specs.declared.next.Close.TheVariants.{Append, Force, Acknowledge, GiveUp, Leave, Vanish}
use Rattle.session_engine.specs.declared.next.Next.{Next}
use Rattle.session_engine.specs.declared.next.Next.TheVariants.{End, Begin, Resume, Ask, Prepare, Claim, Work as ToWork, Refuse as ToRefuse, Close}
use Rattle.session_engine.specs.declared.next.Work.{Work}
use Rattle.session_engine.specs.declared.next.Work.TheVariants.{Seek, Read, Answer, Widen, Fill as ToFill, Count, Build as ToBuild, Command as ToCommand}
use Rattle.session_engine.specs.declared.session.Make.{Make}
use Rattle.session_engine.specs.declared.session.Phase.{Phase}
use Rattle.session_engine.specs.declared.session.Phase.TheVariants.{Idle, Resting, Asking, Preparing, Claiming, Working, Refusing, Committing, Forcing, Acknowledging, Leaving}
use Rattle.session_engine.specs.declared.session.Plan.{Plan}
use Rattle.session_engine.specs.declared.session.Plan.TheVariants.{Select, Insert, Create}
use Rattle.session_engine.specs.declared.session.Session.{Session}
use Rattle.session_engine.specs.declared.session.Where.{Where}
use Rattle.session_engine.specs.declared.session.Where.TheVariants.{Lost, At, Ended}
use Rattle.session_engine.specs.declared.step.Event.TheVariants.{Fix, LetGo, Lock, Enqueue}
use Rattle.session_engine.specs.declared.step.Step.{Step}
use Rattle.session_engine.specs.declared.step.Why.TheVariants.{Latch}
use Rattle.session_engine.specs.declared.step.Step.TheVariants.{Went, Blocked, Answered}

-- A QUERY comes to a row, reads it, and so on to the end
abbrev pub next_of_scan : Where → Option RowId → Work
next_of_scan Lost after = Seek after
next_of_scan (At rid) after = Read rid
next_of_scan Ended after = Answer

-- an INSERT makes room for a row, puts it, and so on behind the last
abbrev pub next_of_fill : List (List Value) → Bool → Work
next_of_fill [] room = Count
next_of_fill (row ∷ rows) true = ToFill
next_of_fill (row ∷ rows) false = Widen

-- a CREATE TABLE makes its container, makes room for a catalog row and puts it, and so on behind the last
abbrev pub next_of_rows : (behind room within : Bool) → Build
next_of_rows true room within = Done
next_of_rows false false within = Spread
next_of_rows false true true = Lay
next_of_rows false true false = ToList

abbrev pub next_of_make : Make → Build
next_of_make m = if m.made then next_of_rows (nat_lt (length m.def.columns) m.done) m.has_room (nat_lt m.done (length m.def.columns)) else ToMake

abbrev pub next_of_plan : Plan → Work
next_of_plan (Select scan) = next_of_scan scan.at scan.after
next_of_plan (Insert fill) = next_of_fill fill.rows.items fill.has_room
next_of_plan (Create make) = ToBuild (next_of_make make)
next_of_plan _ = ToCommand

-- WHAT A CONNECTION DOES NEXT, by its phase, what it was bound to do, whether the store has its transaction, and whether its script is through
abbrev pub next_in : Phase → Plan → (opened through : Bool) → Next
next_in Idle p opened through = if through then End else Begin
next_in Resting p opened through = if through then Close GiveUp else Resume
next_in Asking p opened through = Ask
next_in Preparing p opened through = Prepare
next_in Claiming p opened through = Claim
next_in Working p opened through = ToWork (next_of_plan p)
next_in Refusing p opened through = ToRefuse
next_in Committing p opened through = Close Append
next_in Forcing p opened through = Close Force
next_in Acknowledging p opened through = Close Acknowledge
next_in Leaving p opened through = if opened then Close Leave else Close Vanish

abbrev pub next_of : Session → Next
next_of s = next_in s.phase s.plan s.opened (nat_le (length s.spans) s.begun)

abbrev pub nexts_of : List Session → List Next
nexts_of ss = map next_of ss

-- of a connection by its place
abbrev pub next_at : List Next → ℕ → Next
next_at ns c = slice_index_or ns c End

-- HOW FAR it is from something that is done: it asks for a lock, looks for a page, or looks for one where a change is taken back
abbrev pub rank : Next → ℕ
rank Ask = 3
rank Claim = 3
rank (ToWork (Seek after)) = 2
rank (ToWork Widen) = 2
rank (ToWork (ToBuild ToMake)) = 2
rank (ToWork (ToBuild Spread)) = 2
rank ToRefuse = 1
rank (Close Leave) = 1
rank (Close GiveUp) = 1
rank _ = 0

-- a step that is only on the way
abbrev pub is_way : Step → Bool
is_way (Went Fix) = true
is_way (Went LetGo) = true
is_way (Went Lock) = true
is_way _ = false

-- it leads nearer, or the same look goes on, of which the store counts the turns
abbrev pub Leads : (from to turns turns' : ℕ) → Type 0
Leads from to turns turns' = (to < from) ⊎ ((1 ≤ from) × (to ≡ from) × (turns' ≡ turns + 1))

-- an actor's call: others hold what they held, the actor holds at most one page more, and few pages are made
pub record Acts (a : ℕ) (old new : View) : Type 0 where
  pub others : (b : ℕ) → b ≢ a → new.actors b ≡ old.actors b
  pub one_more : (new.actors a).pages ≤ (old.actors a).pages + 1
  pub more_pages : old.pages ≤ new.pages
  pub few_pages : new.pages ≤ old.pages + 2

-- who comes to wait holds no page
abbrev pub waits : Step → Bool
waits (Blocked (Latch a)) = true
waits (Went Enqueue) = true
waits _ = false

-- any other step isn't only on the way
abbrev pub gets_done : Step → Bool
gets_done (Went Fix) = false
gets_done (Went LetGo) = false
gets_done (Went Lock) = false
gets_done (Went Enqueue) = false
gets_done (Blocked why) = false
gets_done _ = true

-- who asks for a lock
abbrev pub asks : Next → Bool
asks Ask = true
asks Claim = true
asks _ = false

-- an answer that tells of something done
abbrev pub claims : Step → Bool
claims (Went event) = gets_done (Went event)
claims Answered = true
claims _ = false

-- HOW FAR a statement, and then its transaction, has come
abbrev pub stage : Next → ℕ
stage Ask = 1
stage Prepare = 2
stage Claim = 3
stage (ToWork (ToBuild ToMake)) = 4
stage (ToWork work) = 5
stage ToRefuse = 6
stage (Close Append) = 7
stage (Close Force) = 8
stage (Close Acknowledge) = 9
stage _ = 0

-- the row to which a query had come is passed
abbrev pub Passes : (from to : Next) → Type 0
Passes (ToWork (Read rid)) to = to ≡ ToWork (Seek (Some rid))
Passes _ to = ⊥

-- a transaction has a change fewer to take back
abbrev pub Shrinks : View → View → Type 0
Shrinks v v' = (t : ℕ) × (item : Item) × (rest : List Item) × (v.content.changes t ≡ Some (item ∷ rest)) × (v'.content.changes t ≡ Some rest)

-- SOMETHING IS DONE: an entry is put, or a statement comes further, or it passes a row, or takes a change back
abbrev pub IsDone : (from to : Next) → (es es' : List Entry) → View → View → Type 0
IsDone from to es es' v v' = (length es < length es') ⊎ (stage from < stage to) ⊎ Passes from to ⊎ Shrinks v v'

-- a query that looks for a row behind another one comes to one behind it
abbrev pub LooksBehind : RowId → (from : Next) → Type 0
LooksBehind rid (ToWork (Seek after)) = is_behind after rid ≡ true
LooksBehind rid _ = Unit {0}

abbrev pub ComesOn : (to from : Next) → Type 0
ComesOn (ToWork (Read rid)) from = LooksBehind rid from
ComesOn _ from = Unit {0}

-- A STEP of a connection, from 0, moves it and nobody else, and is not spent on nothing
pub record Paces (c : ℕ) (result : Step) (old new : List Next) (es es' : List Entry) (v v' : View) : Type 0 where
  pub to : Next
  pub moved : new ≡ slice_set old c to
  pub acts : Acts (c + 1) v v'
  pub leads : is_way result ≡ true → Leads (rank (next_at old c)) (rank to) (v.actors (c + 1)).turns (v'.actors (c + 1)).turns
  pub comes : is_way result ≡ true → ComesOn to (next_at old c)
  pub does : claims result ≡ true → IsDone (next_at old c) to es es' v v'
  pub bare : waits result ≡ true → (v'.actors (c + 1)).pages ≡ 0

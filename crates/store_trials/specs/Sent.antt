-- What a store is seen with that sends actors onward.
use Rattle.std.specs.Prelude.{◌≡◌, ◌+◌, ℕ, List, Option, Some, None, Bool, true, false, slice_get, slice_set, if◌then◌else◌, Result, Ok, Err}
use Rattle.store_api.specs.declared.answers.StoreAnswer.{StoreAnswer}
use Rattle.store_api.specs.declared.answers.Moved.{Moved}
use Rattle.store_api.specs.declared.answers.Moved.TheVariants as moved
use Rattle.store_api.specs.declared.answers.Made.{Made}
use Rattle.store_api.specs.declared.answers.Made.TheVariants as made
use Rattle.store_api.specs.declared.answers.Undo.{Undo}
use Rattle.store_api.specs.declared.answers.Undo.TheVariants as undo
use Rattle.store_api.specs.View.{View, Holding}

-- an actor's turns of this store's own: one where it is marked
abbrev pub turn_of : Option Bool → ℕ
turn_of None = 0
turn_of (Some true) = 1
turn_of (Some false) = 0

abbrev pub turns_in : List Bool → ℕ → ℕ
turns_in marks a = turn_of (slice_get marks a)

abbrev pub with_turns : Holding → ℕ → Holding
with_turns h n = record h { turns = h.turns + n }

-- WHAT IT IS SEEN WITH: the store below, with a turn more of each actor that is marked, and one page more
abbrev pub seen_over : View → List Bool → View
seen_over v marks = record v { actors = λ a. with_turns (v.actors a) (turns_in marks a); pages = v.pages + 1 }

-- what it is seen with at first: what the store below is, but for the page more
pub record IsOver (below over : View) : Type 0 where
  pub content_same : over.content ≡ below.content
  pub everyone : (a : ℕ) → over.actors a ≡ below.actors a
  pub meters_same : over.meters ≡ below.meters
  pub limit_same : over.limit ≡ below.limit
  pub pages : over.pages ≡ below.pages + 1

-- an actor that wasn't sent onward since its last answer of another kind
abbrev pub IsNew : List Bool → ℕ → Type 0
IsNew marks a = slice_get marks a ≡ Some false

-- WHICH ANSWERS END AN ACTOR'S TURNS: each Ok but Onward
abbrev pub is_end_of_move : Result Moved StoreAnswer → Bool
is_end_of_move (Ok moved.Reached) = true
is_end_of_move (Ok moved.Onward) = false
is_end_of_move (Ok (moved.Held b)) = true
is_end_of_move (Err e) = false

abbrev pub is_end_of_making : Result Made StoreAnswer → Bool
is_end_of_making (Ok (made.Number n)) = true
is_end_of_making (Ok made.Onward) = false
is_end_of_making (Err e) = false

abbrev pub is_end_of_undo : Result Undo StoreAnswer → Bool
is_end_of_undo (Ok (undo.Undid table rid)) = true
is_end_of_undo (Ok undo.UndidContainer) = true
is_end_of_undo (Ok undo.Onward) = false
is_end_of_undo (Ok (undo.Held b)) = true
is_end_of_undo (Ok undo.Done) = true
is_end_of_undo (Err e) = false

-- the marks once an actor's turns have ended, or go on
abbrev pub cleared : List Bool → ℕ → Bool → List Bool
cleared marks a is_end = if is_end then slice_set marks a false else marks

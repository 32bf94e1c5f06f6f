-- What each call of a store does.
use Rattle.std.specs.Prelude.{⊤, ◌≡◌, ◌≢◌, ◌≤◌, ◌<◌, ◌+◌, ◌⊎◌, ℕ, List, [], ◌∷◌, length, Option, Some, None, Bool, true, false, ◌==◌, if◌then◌else◌}
use Rattle.dby_types.specs.declared.definition.ColumnDef.{ColumnDef}
use Rattle.dby_types.specs.declared.definition.TableDef.{TableDef}
use Rattle.dby_types.specs.declared.number.RowId.{RowId}
use Rattle.dby_types.specs.declared.value.Value.{Value}
use Rattle.row_codec.specs.StoredRow.{row_len}
use Rattle.store_api.specs.declared.answers.Moved.{Moved}
use Rattle.store_api.specs.declared.answers.Moved.TheVariants.{Reached, Onward, Held}
use Rattle.store_api.specs.declared.answers.RowRead.{RowRead}
use Rattle.store_api.specs.declared.answers.RowRead.TheVariants as read
use Rattle.store_api.specs.declared.answers.Made.{Made}
use Rattle.store_api.specs.declared.answers.Made.TheVariants as made
use Rattle.store_api.specs.declared.answers.Undo.{Undo}
use Rattle.store_api.specs.declared.answers.Undo.TheVariants as undo
use Rattle.store_api.specs.declared.places.Target.{Target}
use Rattle.store_api.specs.declared.places.Target.TheVariants as target
use Rattle.store_api.specs.declared.places.Room.{Room}
use Rattle.store_api.specs.declared.places.Room.TheVariants as room
use Rattle.store_api.specs.declared.slot.Slot.{Slot}
use Rattle.store_api.specs.declared.slot.Item.{Item}
use Rattle.store_api.specs.declared.slot.Item.TheVariants.{Changed, Created, Discarded}
use Rattle.store_api.specs.View.{View, Content, at_number, put_slot, changes_in}
use Rattle.store_api.specs.Catalog.{catalog_columns}
use Rattle.store_api.specs.Order.{IsFirstBehind}
use Rattle.store_api.specs.Frames.{Stores}
use Rattle.table_model.specs.Fitting.{fits_columns}
use Rattle.table_model.specs.Tables.{Each}

-- WHAT CALLS NEED. A table within the limits, of a container that was made
pub record MayDescribe (v : View) (d : TableDef) : Type 0 where
  pub made : d.number < v.content.next_container
  pub few : length d.columns ≤ 64
  pub short : row_len d.columns ≤ 1900

abbrev pub IsDescribed : View → ℕ → Type 0
IsDescribed v table = v.content.columns table ≢ None

abbrev pub IsOpen : View → ℕ → Type 0
IsOpen v t = v.content.changes t ≢ None

-- a search is in a table that was described, and so is what room is made for; no tree is described yet
abbrev pub MayReach : View → Target → Type 0
MayReach v (target.Heap table after) = IsDescribed v table
MayReach v (target.Tree index bound) = ⊥

abbrev pub MayMakeRoom : View → Room → Type 0
MayMakeRoom v (room.Heap table) = IsDescribed v table
MayMakeRoom v (room.Entry index key) = ⊥

-- the actor's place is at a row
pub record IsAtRow (v : View) (a : ℕ) : Type 0 where
  pub table : ℕ
  pub rid : RowId
  pub at : (v.actors a).place ≡ Some (record { table = table; at = Some rid })

-- a row fits the columns of its table
abbrev pub FitsTable : View → ℕ → List Value → Type 0
FitsTable v table row = (columns : List ColumnDef) × (v.content.columns table ≡ Some columns) × (fits_columns columns row ≡ true)

abbrev pub IsElsewhere : ℕ → RowId → Item → Type 0
IsElsewhere table rid (Changed t r before) = t ≡ table → r ≡ rid → ⊥
IsElsewhere table rid _ = ⊤

-- no other open transaction's list has a change of this row
abbrev pub IsFreeFor : View → ℕ → ℕ → RowId → Type 0
IsFreeFor v t table rid = (u : ℕ) → u ≢ t → Each (IsElsewhere table rid) (changes_in (v.content.changes u))

abbrev pub IsOutside : ℕ → Item → Type 0
IsOutside c (Changed table r before) = table ≢ c
IsOutside c (Created n) = n ≢ c
IsOutside c (Discarded n) = n ≢ c

-- a transaction that may change this row: its page is held, a row stands there, and nobody else has changed it
pub record MayChange (v : View) (a t table : ℕ) (rid : RowId) : Type 0 where
  pub begun : IsOpen v t
  pub held : (v.actors a).holds table rid ≡ true
  pub there : v.content.heaps table rid ≢ None
  pub free : IsFreeFor v t table rid

-- HOLDING. Another actor holds a page of the table that is wanted; nothing changed
pub record IsHeld (a b table : ℕ) (old new : View) : Type 0 where
  pub other : b ≢ a
  pub holds : (r : RowId) × ((old.actors b).holds table r ≡ true)
  pub kept : new.actors a ≡ record (old.actors a) { turns = 0 }

-- one more page was fixed
abbrev pub GoesOn : ℕ → View → View → Type 0
GoesOn a old new = (new.actors a).turns ≡ (old.actors a).turns + 1

-- the actor has come to the first row behind a row id, or to the end
pub record Arrives (a table : ℕ) (after : Option RowId) (old new : View) : Type 0 where
  pub at : Option RowId
  pub first : IsFirstBehind old.content.heaps table after at
  pub place : (new.actors a).place ≡ Some (record { table = table; at = at })
  pub turns : (new.actors a).turns ≡ 0

-- a search from the start of a heap, or behind a row id
abbrev pub Reaches : ℕ → ℕ → Option RowId → View → View → Moved → Type 0
Reaches a table after old new Reached = Arrives a table after old new
Reaches a table after old new Onward = GoesOn a old new × ((new.actors a).place ≡ None)
Reaches a table after old new (Held b) = IsHeld a b table old new

abbrev pub ReachesTarget : ℕ → Target → View → View → Moved → Type 0
ReachesTarget a (target.Heap table after) old new m = Reaches a table after old new m
ReachesTarget a (target.Tree index bound) old new m = ⊥

-- the same, from the row at which the actor is
abbrev pub Moves : ℕ → ℕ → RowId → View → View → Moved → Type 0
Moves a table rid old new Reached = Arrives a table (Some rid) old new
Moves a table rid old new Onward = GoesOn a old new × ((new.actors a).place ≡ (old.actors a).place)
Moves a table rid old new (Held b) = IsHeld a b table old new

abbrev pub MovesOn : ℕ → View → View → Moved → Type 0
MovesOn a old new m = (table : ℕ) (rid : RowId) → (old.actors a).place ≡ Some (record { table = table; at = Some rid }) → Moves a table rid old new m

-- the page of a row was fixed, beside the actor's place
pub record Fixes (a table : ℕ) (rid : RowId) (old new : View) : Type 0 where
  pub held : (new.actors a).holds table rid ≡ true
  pub place_same : (new.actors a).place ≡ (old.actors a).place
  pub turns : (new.actors a).turns ≡ 0

abbrev pub slot_of : List Value → Bool → Slot
slot_of row marked = record { row = row; marked = marked }

-- a row is read
abbrev pub Reads : ℕ → ℕ → RowId → View → View → RowRead → Type 0
Reads a table rid old new (read.Row row marked) = (old.content.heaps table rid ≡ Some (slot_of row marked)) × Fixes a table rid old new
Reads a table rid old new read.Absent = (old.content.heaps table rid ≡ None) × ((new.actors a).place ≡ (old.actors a).place) × ((new.actors a).turns ≡ 0)
Reads a table rid old new (read.Held b) = IsHeld a b table old new

-- room for a row is made
abbrev pub MakesRoom : ℕ → ℕ → View → View → Moved → Type 0
MakesRoom a table old new Reached = ((new.actors a).room ≡ Some table) × ((new.actors a).turns ≡ 0)
MakesRoom a table old new Onward = GoesOn a old new
MakesRoom a table old new (Held b) = IsHeld a b table old new

abbrev pub MakesRoomFor : ℕ → Room → View → View → Moved → Type 0
MakesRoomFor a (room.Heap table) old new m = MakesRoom a table old new m
MakesRoomFor a (room.Entry index key) old new m = ⊥

-- CHANGES. What is stored once an item is added to a transaction's list
abbrev pub with_item : Content → ℕ → Item → Content
with_item d t item = record d { changes = at_number d.changes t (Some (item ∷ changes_in (d.changes t))) }

-- and a slot written
abbrev pub with_slot : Content → ℕ → ℕ → RowId → Slot → Content
with_slot d t table rid slot = record (with_item d t (Changed table rid (d.heaps table rid))) { heaps = put_slot d.heaps table rid (Some slot) }

-- a new row is put where none was
pub record Puts (a t table : ℕ) (row : List Value) (old new : View) (rid : RowId) : Type 0 where
  pub none : old.content.heaps table rid ≡ None
  pub stored : Stores old new (with_slot old.content t table rid (slot_of row false))
  pub held : (new.actors a).holds table rid ≡ true
  pub turns : (new.actors a).turns ≡ 0

-- a row is written over, and is live
pub record Sets (a t table : ℕ) (rid : RowId) (row : List Value) (old new : View) : Type 0 where
  pub stored : Stores old new (with_slot old.content t table rid (slot_of row false))
  pub kept : new.actors a ≡ record (old.actors a) { turns = 0 }

-- a row is marked as deleted
pub record Marks (a t table : ℕ) (rid : RowId) (old new : View) : Type 0 where
  pub slot : Slot
  pub was : old.content.heaps table rid ≡ Some slot
  pub stored : Stores old new (with_slot old.content t table rid (slot_of slot.row true))
  pub kept : new.actors a ≡ record (old.actors a) { turns = 0 }

-- a container is made under a number that none had
pub record MakesContainer (a t : ℕ) (old new : View) (number : ℕ) : Type 0 where
  pub fresh : old.content.next_container ≤ number
  pub stored : Stores old new (record (with_item old.content t (Created number)) { next_container = number + 1 })
  pub turns : (new.actors a).turns ≡ 0

abbrev pub Creates : ℕ → ℕ → View → View → Made → Type 0
Creates a t old new (made.Number n) = MakesContainer a t old new n
Creates a t old new made.Onward = Stores old new old.content × GoesOn a old new

-- UNDO. What is put back: a row that was put stays as a marked one, and what went with its container stays away
abbrev pub put_back : Option Slot → Option Slot → Option Slot
put_back before None = None
put_back (Some before) (Some s) = Some before
put_back None (Some s) = Some (slot_of s.row true)

-- a container is gone, and no table that isn't the catalog's is described by its number
abbrev pub without_container : Content → ℕ → Content
without_container d c = record d { heaps = λ table rid. if table == c then None else d.heaps table rid; columns = at_number d.columns c (catalog_columns c) }

-- what is stored once an item is taken back
abbrev pub taken_back : Content → Item → Content
taken_back d (Changed table rid before) = record d { heaps = put_slot d.heaps table rid (put_back before (d.heaps table rid)) }
taken_back d (Created c) = without_container d c
taken_back d (Discarded c) = d

-- the newest item of a transaction is taken away, and what stood before it is put back
pub record TakesBack (t : ℕ) (item : Item) (old new : View) : Type 0 where
  pub rest : List Item
  pub newest : old.content.changes t ≡ Some (item ∷ rest)
  pub stored : Stores old new (record (taken_back old.content item) { changes = at_number old.content.changes t (Some rest) })

abbrev pub Undoes : ℕ → ℕ → ℕ → View → View → Undo → Type 0
Undoes a t down_to old new (undo.Undid table rid) =
    ((before : Option Slot) × TakesBack t (Changed table rid before) old new) × ((new.actors a).turns ≡ 0)
Undoes a t down_to old new undo.UndidContainer =
    (((c : ℕ) × TakesBack t (Created c) old new) ⊎ ((c : ℕ) × TakesBack t (Discarded c) old new)) × ((new.actors a).turns ≡ 0)
Undoes a t down_to old new undo.Onward = Stores old new old.content × GoesOn a old new
Undoes a t down_to old new (undo.Held b) = Stores old new old.content × ((table : ℕ) × IsHeld a b table old new)
Undoes a t down_to old new undo.Done = Stores old new old.content × ((new.actors a).turns ≡ 0)

-- Done exactly where no more changes stand than were asked for
abbrev pub is_done : Undo → Bool
is_done undo.Done = true
is_done _ = false

-- ENDS. What is stored once a transaction is open no more
abbrev pub without_txn : Content → ℕ → Content
without_txn d t = record d { changes = at_number d.changes t None }

-- and the containers that it discarded are gone
abbrev pub without_discarded : List Item → Content → Content
without_discarded [] d = d
without_discarded (Discarded c ∷ items) d = without_discarded items (without_container d c)
without_discarded (item ∷ items) d = without_discarded items d

abbrev pub committed : Content → ℕ → Content
committed d t = without_txn (without_discarded (changes_in (d.changes t)) d) t

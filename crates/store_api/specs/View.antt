-- What a store is seen with: what is stored, what each actor holds, and its counts.
use Rattle.std.specs.Prelude.{◌≡◌, ◌≢◌, ◌≤◌, ◌<◌, ◌+◌, ◌*◌, ◌^◌, ℕ, List, [], ◌∷◌, length, Option, Some, None, Bool, true, false, ◌==◌, if◌then◌else◌}
use Rattle.dby_types.specs.declared.definition.ColumnDef.{ColumnDef}
use Rattle.dby_types.specs.declared.number.RowId.{RowId}
use Rattle.dby_types.specs.declared.value.Value.{Value}
use Rattle.store_api.specs.declared.answers.StoreAnswer.{StoreAnswer}
use Rattle.store_api.specs.declared.places.Place.{Place}
use Rattle.store_api.specs.declared.slot.Slot.{Slot}
use Rattle.store_api.specs.declared.slot.Item.{Item}
use Rattle.table_model.specs.Tables.{Tables, is_same_rid, Each}

-- the rows of each table by row id, live and marked ones
abbrev pub Heaps : Type 0
Heaps = ℕ → RowId → Option Slot

-- WHAT IS STORED
pub record Content : Type 0 where
  pub heaps : Heaps
  -- the columns of the tables that were described
  pub columns : ℕ → Option (List ColumnDef)
  -- of each open transaction, its changes that stand, the newest first
  pub changes : ℕ → Option (List Item)
  -- above the number of each transaction that was begun
  pub next_txn : ℕ
  -- above the number of each container that was made
  pub next_container : ℕ

-- WHAT AN ACTOR HOLDS
pub record Holding : Type 0 where
  pub place : Option Place
  -- whether it holds the page in which this row id of a heap has its place
  pub holds : ℕ → RowId → Bool
  -- how many pages it holds
  pub pages : ℕ
  -- the heap in which it has made room for a row, having let go of nothing since
  pub room : Option ℕ
  -- how often it was answered Onward since its last answer of another kind
  pub turns : ℕ

-- COUNTS, and what the store keeps: its first answer Failed or Damaged
pub record Meters : Type 0 where
  pub faults : ℕ
  pub no_pages : ℕ
  pub no_log : ℕ
  pub keeps : Option StoreAnswer

pub record View : Type 0 where
  pub content : Content
  pub actors : ℕ → Holding
  pub meters : Meters
  -- the number of pages that the containers have had since the store was opened
  pub pages : ℕ
  -- how many actors may hold pages at once, the daemon among them
  pub limit : ℕ

abbrev pub nothing_held : Holding
nothing_held = record { place = None; holds = λ table rid. false; pages = 0; room = None; turns = 0 }

-- a function with another value at one number
abbrev pub at_number : {X : Type 0} → (ℕ → X) → ℕ → X → ℕ → X
at_number f n x = λ m. if m == n then x else f m

-- the heaps with this slot, or none, at a place
abbrev pub put_slot : Heaps → ℕ → RowId → Option Slot → Heaps
put_slot heaps table rid slot = λ t r. if t == table then (if is_same_rid r rid then slot else heaps t r) else heaps t r

-- a row that isn't marked
abbrev pub live : Option Slot → Option (List Value)
live None = None
live (Some s) = if s.marked then None else Some s.row

-- THE TABLES of a store: the live rows of its heaps
abbrev pub tables_of : Heaps → Tables
tables_of heaps = λ table rid. live (heaps table rid)

-- the changes of an open transaction
abbrev pub changes_in : Option (List Item) → List Item
changes_in None = []
changes_in (Some items) = items

-- each of these numbers is another
abbrev pub AreDistinct : List ℕ → Type 0
AreDistinct [] = Unit {0}
AreDistinct (n ∷ ns) = Each (λ m. m ≢ n) ns × AreDistinct ns

-- fewer than so many numbers have P
abbrev pub FewerThan : ℕ → (ℕ → Type 0) → Type 0
FewerThan bound P = (ns : List ℕ) → AreDistinct ns → Each P ns → length ns < bound

-- fewer than `limit` other actors hold pages, so that this one may
abbrev pub MayHold : View → ℕ → Type 0
MayHold v a = FewerThan v.limit (λ b. (b ≢ a) × ((v.actors b).pages ≢ 0))

-- fewer transactions are open than actors but the daemon may hold pages
abbrev pub MayBegin : View → Type 0
MayBegin v = FewerThan v.limit (λ t. v.content.changes t ≢ None)

pub record HoldsNone (h : Holding) : Type 0 where
  pub no_place : h.place ≡ None
  pub no_page : (table : ℕ) (r : RowId) → h.holds table r ≡ false
  pub no_room : h.room ≡ None

-- what holds of each store at any time
pub record IsSound (v : View) : Type 0 where
  pub limit : (2 ≤ v.limit) × (v.limit ≤ 65)
  pub txns : (1 ≤ v.content.next_txn) × (v.content.next_txn ≤ 2 ^ 62)
  pub begun : (t : ℕ) → v.content.next_txn ≤ t → v.content.changes t ≡ None
  pub containers : (16 ≤ v.content.next_container) × (v.content.next_container ≤ 2 ^ 31)
  pub fresh : (n : ℕ) (r : RowId) → v.content.next_container ≤ n → v.content.heaps n r ≡ None
  -- a page has one holder
  pub apart : (a b table : ℕ) (r : RowId) → a ≢ b → (v.actors a).holds table r ≡ true → (v.actors b).holds table r ≡ false
  pub few : (a : ℕ) → (v.actors a).pages ≤ 4
  pub none : (a : ℕ) → (v.actors a).pages ≡ 0 → HoldsNone (v.actors a)
  pub at_row : (a : ℕ) (p : Place) (r : RowId) → (v.actors a).place ≡ Some p → p.at ≡ Some r → (v.actors a).holds p.table r ≡ true
  pub turns : (a : ℕ) → (v.actors a).turns ≤ 4 * v.pages + 16

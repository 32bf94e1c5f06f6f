-- Net changes of a store's contract, and changes of a log.
use Rattle.std.specs.Prelude.{◌≡◌, ℕ, List, [], ◌∷◌, Option}
use Rattle.dby_types.specs.declared.number.RowId.{RowId}
use Rattle.dby_types.specs.declared.value.Value.{Value}
use Rattle.table_model.specs.Tables.{Tables}
use Rattle.log_model.specs.Places.{Database, Change, row_place, container_place, laid_over}
use Rattle.log_model.specs.Steps.{changes_of}
use Rattle.log_model.specs.States.{State}
use Rattle.store_api.specs.declared.slot.Item.{Item}
use Rattle.store_api.specs.declared.slot.Item.TheVariants.{Changed, Created, Discarded}
use Rattle.store_api.specs.View.{Content, live, changes_in}
use Rattle.store_api.specs.Crashes.{Net}
use Rattle.store_api.specs.Crashes as contract

-- what stands at a row's place
abbrev pub Row : Type 0
Row = Option (List Value)

-- the tables are the database's rows
abbrev pub IsRead : Database Row → Tables → Type 0
IsRead d tables = (table : ℕ) (rid : RowId) → tables table rid ≡ d (row_place table rid)

-- an item of a store's list is a change of the log
abbrev pub IsItem : Change Row → Item → Type 0
IsItem c (Changed table rid before) = (c.place ≡ row_place table rid) × (c.before ≡ live before)
IsItem c (Created n) = c.place ≡ container_place n
IsItem c (Discarded n) = c.place ≡ container_place n

abbrev pub AreItems : List (Change Row) → List Item → Type 0
AreItems [] [] = Unit {0}
AreItems [] (i ∷ items) = ⊥
AreItems (c ∷ cs) [] = ⊥
AreItems (c ∷ cs) (i ∷ items) = IsItem c i × AreItems cs items

-- WHAT IS STORED SHOWS A STATE: its live rows stand at their places, and of each transaction its items are its changes that stand
pub record Shows (d : Content) (s : State Row) : Type 0 where
  pub rows : (table : ℕ) (rid : RowId) → live (d.heaps table rid) ≡ s.shown (row_place table rid)
  pub items : (t : ℕ) → AreItems (changes_of t s.standing) (changes_in (d.changes t))

-- net changes make of any tables what the changes make of the database that they are read from
abbrev pub IsNet : List (Change Row) → List Net → Type 0
IsNet cs net = (d : Database Row) (tables : Tables) → IsRead d tables → IsRead (laid_over cs d) (contract.laid_over net tables)

abbrev pub AreNets : List (List (Change Row)) → List (List Net) → Type 0
AreNets [] [] = Unit {0}
AreNets [] (n ∷ nets) = ⊥
AreNets (cs ∷ css) [] = ⊥
AreNets (cs ∷ css) (n ∷ nets) = IsNet cs n × AreNets css nets

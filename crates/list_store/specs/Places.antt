-- Where actors are, and what is written at row ids.
use Rattle.std.specs.Prelude.{◌≡◌, ◌<◌, ℕ, List, length, Option, Some, None, Bool, slice_set}
use Rattle.dby_types.specs.declared.number.RowId.{RowId}
use Rattle.dby_types.specs.declared.number.TxnNo.{TxnNo}
use Rattle.dby_types.specs.declared.value.Value.{Value}
use Rattle.list_store.specs.declared.begun.Open.{Open}
use Rattle.list_store.specs.declared.heap.Heap.{Heap}
use Rattle.list_store.specs.declared.holders.Holder.{Holder}
use Rattle.list_store.specs.Begun.{Pushes}
use Rattle.list_store.specs.Heaps.{row_at, rows_in, number_of, first_behind, RowsBecome, Drops, PutsBack}
use Rattle.list_store.specs.Holders.{holder_in, other_in, with_holder}
use Rattle.store_api.specs.declared.answers.Moved.{Moved}
use Rattle.store_api.specs.declared.answers.Moved.TheVariants.{Reached, Onward, Held}
use Rattle.store_api.specs.declared.answers.Undo.{Undo}
use Rattle.store_api.specs.declared.answers.Undo.TheVariants as undo
use Rattle.store_api.specs.declared.slot.Item.{Item}
use Rattle.store_api.specs.declared.slot.Item.TheVariants.{Changed, Created, Discarded}
use Rattle.store_api.specs.declared.slot.Slot.{Slot}

-- an actor that has come to a place
abbrev pub placed : ℕ → ℕ → Option RowId → List Holder → Holder
placed a table at hs = record { actor = a; place = Some (record { table = table; at = at }); page = (holder_in a hs).page; room = (holder_in a hs).room }

-- an actor that holds a heap beside its place
abbrev pub fixed : ℕ → ℕ → Bool → List Holder → Holder
fixed a table room hs = record { actor = a; place = (holder_in a hs).place; page = Some table; room = room }

-- it comes to the first row behind a row id, or another holds the heap
abbrev pub Searches : ℕ → ℕ → Option RowId → List Slot → List Holder → List Holder → Moved → Type 0
Searches a table after rows old new Reached = (other_in a table old ≡ None) × (new ≡ with_holder (placed a table (first_behind rows after) old) old)
Searches a table after rows old new Onward = ⊥
Searches a table after rows old new (Held b) = (other_in a table old ≡ Some b) × (new ≡ old)

-- a row like the one that stands there
abbrev pub IsCopy : Option Slot → List Value → Type 0
IsCopy None row = ⊥
IsCopy (Some s) row = row ≡ s.row

-- a row is written over another, and the change is noted
pub record Overwrites (heaps heaps' : List (ℕ × Heap)) (begun begun' : List (TxnNo × Open)) (t table : ℕ) (rid : RowId) (slot : Slot) : Type 0 where
  pub within : number_of rid < length (rows_in heaps table)
  pub rows : RowsBecome heaps heaps' table (slice_set (rows_in heaps table) (number_of rid) slot)
  pub noted : Pushes begun begun' t (Changed table rid (row_at (rows_in heaps table) rid))

abbrev pub TakesBack : List (ℕ × Heap) → List (ℕ × Heap) → Item → Undo → Type 0
TakesBack old new (Changed table rid before) u = (u ≡ undo.Undid table rid) × PutsBack old new table rid before
TakesBack old new (Created c) u = (u ≡ undo.UndidContainer) × Drops old new c
TakesBack old new (Discarded c) u = (u ≡ undo.UndidContainer) × (new ≡ old)

-- another actor has a heap
abbrev pub IsInTheWay : ℕ → List Holder → ℕ → Type 0
IsInTheWay a hs b = (table : ℕ) × (other_in a table hs ≡ Some b)

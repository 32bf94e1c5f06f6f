-- Row ids of a heap over a vector.
use Rattle.std.specs.Prelude.{◌≡◌, ◌+◌, ◌-◌, ◌*◌, ◌/◌, ◌%◌, ℕ, List, [], ◌∷◌, length, Option, Some, None, Bool, slice_get, slice_set, ◌==◌, nat_lt, if◌then◌else◌}
use Rattle.std.specs.Map.{lookup}
use Rattle.dby_types.specs.declared.definition.ColumnDef.{ColumnDef}
use Rattle.dby_types.specs.declared.number.RowId.{RowId}
use Rattle.list_store.specs.declared.heap.Heap.{Heap}
use Rattle.store_api.specs.declared.slot.Slot.{Slot}
use Rattle.store_api.specs.declared.slot.Item.{Item}
use Rattle.store_api.specs.declared.slot.Item.TheVariants.{Discarded}
use Rattle.store_api.specs.Catalog.{catalog_columns}
use Rattle.store_api.specs.Effects.{put_back}
use Rattle.store_api.specs.View.{Heaps, at_number}
use Rattle.table_model.specs.Tables.{is_same_rid}

-- the row id of the n-th row
abbrev pub rid_at : ℕ → RowId
rid_at n = record { page = 1 + n / 65536; slot = n % 65536 }

abbrev pub number_of : RowId → ℕ
number_of rid = (rid.page - 1) * 65536 + rid.slot

-- a row id that some row may have
abbrev pub is_place : RowId → Bool
is_place rid = is_same_rid rid (rid_at (number_of rid))

-- the row of a row id
abbrev pub row_at : List Slot → RowId → Option Slot
row_at rows rid = if is_place rid then slice_get rows (number_of rid) else None

-- the heap of a table
abbrev pub heap_in : List (ℕ × Heap) → ℕ → Option Heap
heap_in heaps table = lookup (λ n. table == n) heaps

-- the rows with another one at a place, or none other
abbrev pub written_at : List Slot → ℕ → Option Slot → List Slot
written_at rows n None = rows
written_at rows n (Some slot) = slice_set rows n slot

abbrev pub rows_of : Option Heap → List Slot
rows_of None = []
rows_of (Some heap) = heap.rows.items

-- the rows of a table, in the order in which they were put
abbrev pub rows_in : List (ℕ × Heap) → ℕ → List Slot
rows_in heaps table = rows_of (heap_in heaps table)

abbrev pub described_in : Option Heap → Option (List ColumnDef)
described_in None = None
described_in (Some heap) = heap.columns

-- the columns by which a table was described
abbrev pub given_in : List (ℕ × Heap) → ℕ → Option (List ColumnDef)
given_in heaps table = described_in (heap_in heaps table)

abbrev pub heaps_of : List (ℕ × Heap) → Heaps
heaps_of heaps = λ table rid. row_at (rows_in heaps table) rid

-- as they were described, or else those of a catalog's heap
abbrev pub given_or : Option (List ColumnDef) → Option (List ColumnDef) → Option (List ColumnDef)
given_or (Some columns) old = Some columns
given_or None old = old

abbrev pub columns_of : List (ℕ × Heap) → ℕ → Option (List ColumnDef)
columns_of heaps = λ table. given_or (given_in heaps table) (catalog_columns table)

-- the rows of one table are others, and the rest stays
pub record RowsBecome (old new : List (ℕ × Heap)) (table : ℕ) (rows : List Slot) : Type 0 where
  pub rows_are : (n : ℕ) → rows_in new n ≡ at_number (rows_in old) table rows n
  pub given_same : (n : ℕ) → given_in new n ≡ given_in old n

-- the columns of one table are others, and the rest stays
pub record GivenBecomes (old new : List (ℕ × Heap)) (table : ℕ) (columns : List ColumnDef) : Type 0 where
  pub rows_same : (n : ℕ) → rows_in new n ≡ rows_in old n
  pub given_are : (n : ℕ) → given_in new n ≡ at_number (given_in old) table (Some columns) n

-- nothing stands of one table any more, and the rest stays
pub record Drops (old new : List (ℕ × Heap)) (table : ℕ) : Type 0 where
  pub rows_are : (n : ℕ) → rows_in new n ≡ at_number (rows_in old) table [] n
  pub given_are : (n : ℕ) → given_in new n ≡ at_number (given_in old) table None n

-- the same rows and columns, however they are kept
pub record AreSame (old new : List (ℕ × Heap)) : Type 0 where
  pub rows_same : (n : ℕ) → rows_in new n ≡ rows_in old n
  pub given_same : (n : ℕ) → given_in new n ≡ given_in old n

-- how many slots of a page are up to this one
abbrev pub slots_up_to : ℕ → ℕ
slots_up_to slot = if nat_lt slot 65536 then slot + 1 else 65536

-- the number of the first row behind a row id
abbrev pub next_number : Option RowId → ℕ
next_number None = 0
next_number (Some rid) = if rid.page == 0 then 0 else (rid.page - 1) * 65536 + slots_up_to rid.slot

-- the first row behind a row id; none behind the last
abbrev pub first_behind : List Slot → Option RowId → Option RowId
first_behind rows after = if nat_lt (next_number after) (length rows) then Some (rid_at (next_number after)) else None

-- rows or columns without those of the containers that were discarded, the newest of these first
abbrev pub without_discarded : {X : Type 0} → X → List Item → (ℕ → X) → ℕ → X
without_discarded none [] f = f
without_discarded none (Discarded c ∷ items) f = without_discarded none items (at_number f c none)
without_discarded none (item ∷ items) f = without_discarded none items f

-- nothing stands of the discarded containers
pub record DropsAll (old new : List (ℕ × Heap)) (items : List Item) : Type 0 where
  pub rows_are : (n : ℕ) → rows_in new n ≡ without_discarded [] items (rows_in old) n
  pub given_are : (n : ℕ) → given_in new n ≡ without_discarded None items (given_in old) n

-- the rows with what is put back at a row id
abbrev pub rows_put_back : List Slot → RowId → Option Slot → List Slot
rows_put_back rows rid before = written_at rows (number_of rid) (put_back before (row_at rows rid))

abbrev pub PutsBack : List (ℕ × Heap) → List (ℕ × Heap) → ℕ → RowId → Option Slot → Type 0
PutsBack old new table rid before = RowsBecome old new table (rows_put_back (rows_in old table) rid before)

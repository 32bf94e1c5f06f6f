-- The dictionary that the engine keeps, beside the catalog's rows: no step tears them, since a table's own row is put last and taken back first.
use Rattle.std.specs.Prelude.{◌≡◌, ◌≢◌, ◌⊎◌, ℕ, ◌<◌, ◌-◌, List, [], ◌∷◌, ◌++◌, length, take, Some, None, false, ◌==◌, if◌then◌else◌}
use Rattle.dby_types.specs.declared.definition.ColumnDef.{ColumnDef}
use Rattle.dby_types.specs.declared.number.RowId.{RowId}
use Rattle.dby_types.specs.declared.value.Value.{Value}
use Rattle.store_api.specs.Catalog.{columns_of_tables, columns_of_columns}
use Rattle.store_api.specs.View.{View}
use Rattle.table_model.specs.Tables.{Made, Each}
use Rattle.journal_model.specs.Catalog.{IsOf, table_row, column_row}
use Rattle.session_model.specs.Places.{is_catalog}
use Rattle.session_model.specs.World.{World}
use Rattle.session_engine.specs.Dictionary.{Named, Among, IsDictionary}

-- the store reads and writes the rows of tables and columns by the catalog's columns
pub record ReadsListings (v : View) : Type 0 where
  pub of_tables : v.content.columns 1 ≡ Some columns_of_tables
  pub of_columns : v.content.columns 2 ≡ Some columns_of_columns

-- and the tables of the dictionary by theirs, whose containers were made
abbrev pub AreDescribed : View → List Named → Type 0
AreDescribed v named = (e : Named) → Among e named → (v.content.columns e.1.number ≡ Some e.1.columns) × (e.1.number < v.content.next_container)

-- no table of the dictionary has this number
abbrev pub IsUnlisted : List Named → ℕ → Type 0
IsUnlisted named n = Each (λ e. e.1.number ≢ n) named

-- a change put the row of the dictionary's newest table, before which it was `front`
pub record ListsTable (front named : List Named) (m : Made) : Type 0 where
  pub newest : Named
  pub named_is : named ≡ front ++ newest ∷ []
  pub unlisted : IsUnlisted front newest.1.number
  pub table : m.change.table ≡ 1
  pub none : m.change.old ≡ None
  pub row : m.change.new ≡ Some (table_row newest.1.number newest.0)

-- a change put the row of a column, whose table isn't in the dictionary
pub record ListsColumn (named : List Named) (m : Made) : Type 0 where
  pub number : ℕ
  pub place : ℕ
  pub column : ColumnDef
  pub table : m.change.table ≡ 2
  pub none : m.change.old ≡ None
  pub row : m.change.new ≡ Some (column_row number place column)
  pub unlisted : IsUnlisted named number

-- changes, the newest first, whose undo leads from this dictionary to earlier ones
abbrev pub Lists : List Named → List Made → Type 0
Lists named [] = Unit {0}
Lists named (m ∷ ms) =
    ((is_catalog m.change.table ≡ false) × Lists named ms)
    ⊎ ((ListsColumn named m × Lists named ms) ⊎ ((front : List Named) × ListsTable front named m × Lists front ms))

-- the dictionary once the newest change, of this table, is taken back
abbrev pub left_named : ℕ → List Named → List Named
left_named table named = if table == 1 then take (length named - 1) named else named

-- THE DICTIONARY AND THE CATALOG
pub record Cataloged (v : View) (w : World) (named : List Named) : Type 0 where
  pub dictionary : IsDictionary w.current named
  pub described : AreDescribed v named
  pub catalogs : ReadsListings v
  -- each row of tables is that of a table of the dictionary, and no table has two
  pub listed : (rid : RowId) (row : List Value) → w.current 1 rid ≡ Some row → (e : Named) × Among e named × (row ≡ table_row e.1.number e.0)
  pub once : (q r : RowId) (n : ℕ) (a b : List ℕ) → w.current 1 q ≡ Some (table_row n a) → w.current 1 r ≡ Some (table_row n b) → q ≡ r
  -- each row of columns is of a container that was made
  pub numbered : (rid : RowId) (row : List Value) (n : ℕ) → w.current 2 rid ≡ Some row → IsOf n row → n < v.content.next_container
  pub lists : (t : ℕ) → Lists named (w.txns t).changes

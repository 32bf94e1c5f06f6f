-- The dictionary, as the rows of the catalog tables 1 and 2 give it.
use Rattle.std.specs.Prelude.{◌≡◌, ◌<◌, ◌≤◌, ◌+◌, ◌^◌, ℕ, pos, negsuc, List, [], ◌∷◌, length, Some, Bool, true, false, not, ◌&&◌, ◌||◌, nat_le, int_lt, slice_get}
use Rattle.dby_types.specs.declared.definition.ColumnDef.{ColumnDef}
use Rattle.dby_types.specs.declared.definition.TableDef.{TableDef}
use Rattle.dby_types.specs.declared.number.RowId.{RowId}
use Rattle.dby_types.specs.declared.value.Ty.{Ty}
use Rattle.dby_types.specs.declared.value.Ty.TheVariants as ty
use Rattle.dby_types.specs.declared.value.Value.{Value}
use Rattle.dby_types.specs.declared.value.Value.TheVariants.{Null, Num, Bool as Truth, Text}
use Rattle.table_model.specs.Tables.{Tables}

-- a type in a column's row: its kind
abbrev pub kind_of : Ty → ℕ
kind_of ty.Small = 1
kind_of ty.Int = 2
kind_of ty.Big = 3
kind_of ty.Bool = 4
kind_of (ty.Text n) = 5

-- and the most bytes of a text
abbrev pub size_of : Ty → ℕ
size_of (ty.Text n) = n
size_of _ = 0

-- the row of a table in catalog table 1
abbrev pub table_row : ℕ → List ℕ → List Value
table_row number name = Num (pos number) ∷ Text name ∷ []

-- the row of a table's column in catalog table 2
abbrev pub column_row : ℕ → ℕ → ColumnDef → List Value
column_row number place c =
    Num (pos number) ∷ Num (pos place) ∷ Text c.name ∷ Num (pos (kind_of c.ty)) ∷ Num (pos (size_of c.ty)) ∷ Truth c.not_null ∷ []

-- the rows of a table's columns, the first of which stands at `place`
abbrev pub column_rows : ℕ → ℕ → List ColumnDef → List (List Value)
column_rows number place [] = []
column_rows number place (c ∷ cs) = column_row number place c ∷ column_rows number (place + 1) cs

-- a row of catalog table 2 is that of a column of this table
abbrev pub IsOf : ℕ → List Value → Type 0
IsOf number (Num n ∷ vs) = n ≡ pos number
IsOf number _ = ⊥

-- a table has these columns, and no others
pub record HasColumns (tables : Tables) (number : ℕ) (columns : List ColumnDef) : Type 0 where
  pub each : (place : ℕ) (c : ColumnDef) → slice_get columns place ≡ Some c → (rid : RowId) × (tables 2 rid ≡ Some (column_row number place c))
  pub only : (rid : RowId) (row : List Value) → tables 2 rid ≡ Some row → IsOf number row
      → (place : ℕ) × (c : ColumnDef) × (slice_get columns place ≡ Some c) × (row ≡ column_row number place c)

-- the catalog rows define this table; one whose columns break the limits is not in the dictionary
pub record Defines (tables : Tables) (d : TableDef) : Type 0 where
  pub number : d.number < 2 ^ 31
  pub table : (rid : RowId) × (tables 1 rid ≡ Some (table_row d.number d.name))
  pub columns : HasColumns tables d.number d.columns
  pub limit : length d.columns ≤ 64

-- no table has this name
abbrev pub NoTable : Tables → List ℕ → Type 0
NoTable tables name = (d : TableDef) → Defines tables d → d.name ≡ name → ⊥

-- a value can stand in a column of this type; a number has at most 64 bits
abbrev pub fits : Ty → Value → Bool
fits t Null = true
fits ty.Small (Num n) = not (int_lt n (negsuc 32767)) && int_lt n (pos 32768)
fits ty.Int (Num n) = not (int_lt n (negsuc 2147483647)) && int_lt n (pos 2147483648)
fits ty.Big (Num n) = true
fits ty.Bool (Truth b) = true
fits (ty.Text n) (Text text) = nat_le (length text) n
fits t v = false

-- a row has a value for each column, of its type
abbrev pub suits : List ColumnDef → List Value → Bool
suits [] [] = true
suits (c ∷ cs) (v ∷ vs) = fits c.ty v && suits cs vs
suits cs vs = false

abbrev pub is_null : Value → Bool
is_null Null = true
is_null _ = false

-- a row has NULL in a column that is NOT NULL
abbrev pub has_null : List ColumnDef → List Value → Bool
has_null (c ∷ cs) (v ∷ vs) = (c.not_null && is_null v) || has_null cs vs
has_null _ _ = false

-- a row may stand in a table with these columns
pub record FitsColumns (columns : List ColumnDef) (row : List Value) : Type 0 where
  pub suited : suits columns row ≡ true
  pub nulls : has_null columns row ≡ false

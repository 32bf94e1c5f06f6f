-- The catalog rows of a new table.
use Rattle.std.specs.Prelude.{ℕ, suc, pos, List, [], ◌∷◌, Some, None}
use Rattle.dby_types.specs.declared.definition.ColumnDef.{ColumnDef}
use Rattle.dby_types.specs.declared.definition.Dictionary.{Dictionary}
use Rattle.dby_types.specs.declared.definition.TableDef.{TableDef}
use Rattle.dby_types.specs.declared.value.Ty.{Ty}
use Rattle.dby_types.specs.declared.value.Ty.TheVariants as ty
use Rattle.dby_types.specs.declared.value.Value.TheVariants.{Num, Text, Bool as Truth}
use Rattle.std.specs.Prelude.{◌==◌, if◌then◌else◌}
use Rattle.sql_model.specs.Changes.{RowChange}
use Rattle.sql_model.specs.Tuples.{Row}

-- a type in a column's row: its kind, and the most bytes of a text
abbrev pub kind_of : Ty → ℕ
kind_of ty.Small = 1
kind_of ty.Int = 2
kind_of ty.Big = 3
kind_of ty.Bool = 4
kind_of (ty.Text n) = 5

abbrev pub size_of : Ty → ℕ
size_of ty.Small = 0
size_of ty.Int = 0
size_of ty.Big = 0
size_of ty.Bool = 0
size_of (ty.Text n) = n

-- the row of a table in catalog table 1
abbrev pub table_row : ℕ → List ℕ → Row
table_row number name = Num (pos number) ∷ Text name ∷ []

-- the row of a table's column in catalog table 2
abbrev pub column_row : ℕ → ℕ → ColumnDef → Row
column_row number place c =
    Num (pos number) ∷ Num (pos place) ∷ Text c.name ∷ Num (pos (kind_of c.ty)) ∷ Num (pos (size_of c.ty)) ∷ Truth c.not_null ∷ []

abbrev pub new_row_in : ℕ → Row → RowChange
new_row_in n r = record { table = n; rid = None; old = None; new = Some r }

abbrev pub column_changes : ℕ → ℕ → List ColumnDef → List RowChange
column_changes number place [] = []
column_changes number place (c ∷ cs) = new_row_in 2 (column_row number place c) ∷ column_changes number (suc place) cs

-- CREATE TABLE: the rows of a table of this number, its columns from place 0
abbrev pub create_changes : ℕ → List ℕ → List ColumnDef → List RowChange
create_changes number name columns = new_row_in 1 (table_row number name) ∷ column_changes number 0 columns

-- the columns of the table of this number
abbrev pub columns_among : List TableDef → ℕ → List ColumnDef
columns_among [] n = []
columns_among (d ∷ ds) n = if d.number == n then d.columns else columns_among ds n

abbrev pub columns_in : Dictionary → ℕ → List ColumnDef
columns_in d n = columns_among d.tables n

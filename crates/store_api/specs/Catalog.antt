-- The columns of the catalog's heaps, which are described from the start.
use Rattle.std.specs.Prelude.{ℕ, List, [], ◌∷◌, Option, Some, None, false, ◌==◌, codes, if◌then◌else◌}
use Rattle.dby_types.specs.declared.definition.ColumnDef.{ColumnDef}
use Rattle.dby_types.specs.declared.value.Ty.{Ty}
use Rattle.dby_types.specs.declared.value.Ty.TheVariants.{Small, Int, Bool, Text}

abbrev pub column : List ℕ → Ty → ColumnDef
column name ty = record { name = name; ty = ty; not_null = false }

-- tables: their numbers and names
abbrev pub columns_of_tables : List ColumnDef
columns_of_tables = column (codes "NUMBER") Int ∷ column (codes "NAME") (Text 128) ∷ []

-- columns: their table, their place in it from 0, name, kind, size of a text, and whether they refuse NULL
abbrev pub columns_of_columns : List ColumnDef
columns_of_columns = column (codes "TAB") Int ∷ column (codes "POS") Small ∷ column (codes "NAME") (Text 128) ∷ column (codes "KIND") Small ∷ column (codes "SIZE") Small ∷ column (codes "NOTNULL") Bool ∷ []

-- indexes: their number, table and name, what they are, and the places of their columns
abbrev pub columns_of_indexes : List ColumnDef
columns_of_indexes = column (codes "NUMBER") Int ∷ column (codes "TAB") Int ∷ column (codes "NAME") (Text 128) ∷ column (codes "ISUNIQUE") Bool ∷ column (codes "ISPRIMARY") Bool
    ∷ column (codes "C1") Small ∷ column (codes "C2") Small ∷ column (codes "C3") Small ∷ column (codes "C4") Small
    ∷ column (codes "C5") Small ∷ column (codes "C6") Small ∷ column (codes "C7") Small ∷ column (codes "C8") Small ∷ []

abbrev pub catalog_columns : ℕ → Option (List ColumnDef)
catalog_columns n =
    if n == 1 then Some columns_of_tables else if n == 2 then Some columns_of_columns else if n == 3 then Some columns_of_indexes else None

-- CREATE TABLE, CREATE INDEX, DROP and LOCK TABLE.
use Rattle.std.specs.Prelude.{ℕ, zero, suc, ◌+◌, nat_le, Bool, true, false, ◌||◌, if◌then◌else◌, List, [], ◌∷◌, ◌++◌, length, Option, Some, None}
use Rattle.std.specs.Str.{bytes_eq}
use Rattle.dby_types.specs.declared.definition.ColumnDef.{ColumnDef}
use Rattle.dby_types.specs.declared.definition.Dictionary.{Dictionary}
use Rattle.dby_types.specs.declared.definition.IndexDef.{IndexDef}
use Rattle.dby_types.specs.declared.state.SqlState.{SqlState}
use Rattle.dby_types.specs.declared.state.SqlState.TheVariants.{NoColumn, NameExists, NothingToDrop, SecondPrimaryKey}
use Rattle.row_codec.specs.StoredRow.{row_len}
use Rattle.sql_ast.specs.declared.bound.BoundKey.{BoundKey}
use Rattle.sql_ast.specs.declared.statement.ColumnMark.{ColumnMark}
use Rattle.sql_ast.specs.declared.statement.ColumnMark.TheVariants as mark
use Rattle.sql_ast.specs.declared.statement.ColumnText.{ColumnText}
use Rattle.sql_ast.specs.declared.statement.Dropped.{Dropped}
use Rattle.sql_ast.specs.declared.statement.Dropped.TheVariants as dropped
use Rattle.sql_ast.specs.declared.statement.TablePart.{TablePart}
use Rattle.sql_ast.specs.declared.statement.TablePart.TheVariants.{Column, PrimaryKey, Unique}
use Rattle.sql_binding.specs.Changes.{target_of, target_or}
use Rattle.sql_binding.specs.Faults.{unless}
use Rattle.sql_binding.specs.From.{number_of, found_in, twice_faults, limit_faults}
use Rattle.sql_binding.specs.Names.{Spot, is_named}

-- ---- the columns of a new table

-- a mark, or a rule that names the column, makes it NOT NULL: NOT NULL and PRIMARY KEY do
abbrev pub refuses_null : List ColumnMark → Bool
refuses_null [] = false
refuses_null (mark.NotNull ∷ marks) = true
refuses_null (mark.PrimaryKey ∷ marks) = true
refuses_null (mark.Unique ∷ marks) = refuses_null marks

abbrev pub is_primary_in : List TablePart → List ℕ → Bool
is_primary_in [] name = false
is_primary_in (Column c ∷ parts) name = is_primary_in parts name
is_primary_in (PrimaryKey names ∷ parts) name = is_named name names || is_primary_in parts name
is_primary_in (Unique names ∷ parts) name = is_primary_in parts name

abbrev pub new_column : List TablePart → ColumnText → ColumnDef
new_column whole c = record { name = c.name; ty = c.ty; not_null = refuses_null c.marks || is_primary_in whole c.name }

abbrev pub new_columns : List TablePart → List TablePart → List ColumnDef
new_columns whole [] = []
new_columns whole (Column c ∷ parts) = new_column whole c ∷ new_columns whole parts
new_columns whole (PrimaryKey names ∷ parts) = new_columns whole parts
new_columns whole (Unique names ∷ parts) = new_columns whole parts

-- ---- its keys, in text order

abbrev pub places_named : List ColumnDef → List (List ℕ) → List ℕ
places_named columns [] = []
places_named columns (name ∷ names) = (target_or (target_of columns name)).place ∷ places_named columns names

abbrev pub key_over : Bool → List ℕ → BoundKey
key_over primary places = record { columns = places; primary = primary }

-- the keys that the marks of the column at place n make
abbrev pub marked_keys : ℕ → List ColumnMark → List BoundKey
marked_keys n [] = []
marked_keys n (mark.NotNull ∷ marks) = marked_keys n marks
marked_keys n (mark.PrimaryKey ∷ marks) = key_over true (n ∷ []) ∷ marked_keys n marks
marked_keys n (mark.Unique ∷ marks) = key_over false (n ∷ []) ∷ marked_keys n marks

abbrev pub new_keys : List ColumnDef → ℕ → List TablePart → List BoundKey
new_keys columns n [] = []
new_keys columns n (Column c ∷ parts) = marked_keys n c.marks ++ new_keys columns (suc n) parts
new_keys columns n (PrimaryKey names ∷ parts) = key_over true (places_named columns names) ∷ new_keys columns n parts
new_keys columns n (Unique names ∷ parts) = key_over false (places_named columns names) ∷ new_keys columns n parts

-- ---- what is wrong with them

abbrev pub spot_missing : Option Spot → List SqlState
spot_missing None = NoColumn ∷ []
spot_missing (Some spot) = []

abbrev pub names_missing : List ColumnDef → List (List ℕ) → List SqlState
names_missing columns [] = []
names_missing columns (name ∷ names) = spot_missing (target_of columns name) ++ names_missing columns names

-- each rule names columns of the table, and none twice
abbrev pub rule_faults : List ColumnDef → List TablePart → List SqlState
rule_faults columns [] = []
rule_faults columns (Column c ∷ parts) = rule_faults columns parts
rule_faults columns (PrimaryKey names ∷ parts) = names_missing columns names ++ (twice_faults names ++ rule_faults columns parts)
rule_faults columns (Unique names ∷ parts) = names_missing columns names ++ (twice_faults names ++ rule_faults columns parts)

abbrev pub column_names : List ColumnDef → List (List ℕ)
column_names [] = []
column_names (c ∷ cs) = c.name ∷ column_names cs

-- how many keys are primary
abbrev pub primaries : List BoundKey → ℕ
primaries [] = 0
primaries (k ∷ ks) = (if k.primary then 1 else 0) + primaries ks

-- the column at a place of a table
abbrev pub columns_at : ℕ → List ColumnDef → List ColumnDef
columns_at n [] = []
columns_at zero (c ∷ cs) = c ∷ []
columns_at (suc n) (c ∷ cs) = columns_at n cs

abbrev pub key_columns : List ColumnDef → List ℕ → List ColumnDef
key_columns columns [] = []
key_columns columns (n ∷ ns) = columns_at n columns ++ key_columns columns ns

-- a key has at most 8 columns, and at most 600 bytes
abbrev pub key_limits : List ColumnDef → List ℕ → List SqlState
key_limits columns places = limit_faults (length places) 8 ++ limit_faults (row_len (key_columns columns places)) 600

abbrev pub keys_limits : List ColumnDef → List BoundKey → List SqlState
keys_limits columns [] = []
keys_limits columns (k ∷ ks) = key_limits columns k.columns ++ keys_limits columns ks

-- a name that is to be new
abbrev pub exists_faults : {X : Type 0} → Option X → List SqlState
exists_faults None = []
exists_faults (Some x) = NameExists ∷ []

abbrev pub created_columns : List TablePart → List ColumnDef
created_columns parts = new_columns parts parts

abbrev pub created_keys : List TablePart → List BoundKey
created_keys parts = new_keys (created_columns parts) 0 parts

-- ALL THAT IS WRONG with CREATE TABLE: a table has at most 64 columns, and a row at most 1,900 bytes
abbrev pub create_faults : Dictionary → List ℕ → List TablePart → List SqlState
create_faults d name parts =
    exists_faults (found_in d name)
    ++ (rule_faults (created_columns parts) parts
    ++ (twice_faults (column_names (created_columns parts))
    ++ (unless (nat_le (primaries (created_keys parts)) 1) SecondPrimaryKey
    ++ (limit_faults (length (created_columns parts)) 64
    ++ (limit_faults (row_len (created_columns parts)) 1900
    ++ keys_limits (created_columns parts) (created_keys parts))))))

-- ---- indexes, DROP

abbrev pub index_named : List ℕ → List IndexDef → Option IndexDef
index_named name [] = None
index_named name (x ∷ xs) = if bytes_eq name x.name then Some x else index_named name xs

abbrev pub index_number : Option IndexDef → ℕ
index_number None = 0
index_number (Some x) = x.number

-- ALL THAT IS WRONG with CREATE INDEX
abbrev pub index_faults : Dictionary → List ℕ → List SqlState → List ColumnDef → List (List ℕ) → List SqlState
index_faults d name missing columns names =
    exists_faults (index_named name d.indexes)
    ++ (missing
    ++ (names_missing columns names
    ++ (twice_faults names
    ++ key_limits columns (places_named columns names))))

abbrev pub dropped_number : Dictionary → Dropped → List ℕ → ℕ
dropped_number d dropped.Table name = number_of (found_in d name)
dropped_number d dropped.Index name = index_number (index_named name d.indexes)

abbrev pub nothing_faults : {X : Type 0} → Option X → List SqlState
nothing_faults None = NothingToDrop ∷ []
nothing_faults (Some x) = []

abbrev pub drop_faults : Dictionary → Dropped → List ℕ → List SqlState
drop_faults d dropped.Table name = nothing_faults (found_in d name)
drop_faults d dropped.Index name = nothing_faults (index_named name d.indexes)

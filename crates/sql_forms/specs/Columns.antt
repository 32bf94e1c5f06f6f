-- The columns of CREATE TABLE: "(" name (INT | INTEGER) [NOT NULL] { "," name (INT | INTEGER) [NOT NULL] } ")".
use Rattle.std.specs.Prelude.{ℕ, List, [], ◌∷◌, ◌++◌, Option, Some, None, Bool, true, false, ◌||◌, codes, if◌then◌else◌}
use Rattle.dby_types.specs.declared.definition.ColumnDef.{ColumnDef}
use Rattle.dby_types.specs.declared.value.Ty.TheVariants as ty
use Rattle.sql_lexer.specs.declared.token.Token.{Token}
use Rattle.sql_lexer.specs.declared.token.TokenKind.{TokenKind}
use Rattle.sql_forms.specs.declared.columns.ColumnsAt.{ColumnsAt}
use Rattle.sql_forms.specs.declared.columns.ColumnsAt.TheVariants.{Open, Name, AtType, Flag, Null, Next, Done, Failed}
use Rattle.sql_forms.specs.Words.{is_word, name_in, is_name, is_open, is_close, is_comma}

abbrev pub name_or : List ℕ → Option (List ℕ) → List ℕ
name_or old None = old
name_or old (Some name) = name

-- what is wanted behind the token that ends a column
abbrev pub after_column : TokenKind → ColumnsAt
after_column t = if is_comma t then Name else if is_close t then Done else Failed

-- what is wanted behind a token
abbrev pub next_column : ColumnsAt → TokenKind → ColumnsAt
next_column Open t = if is_open t then Name else Failed
next_column Name t = if is_name t then AtType else Failed
next_column AtType t = if is_word (codes "INT") t || is_word (codes "INTEGER") t then Flag else Failed
next_column Flag t = if is_word (codes "NOT") t then Null else after_column t
next_column Null t = if is_word (codes "NULL") t then Next else Failed
next_column Next t = after_column t
next_column Done t = Failed
next_column Failed t = Failed

-- the name of the column so far
abbrev pub column_name : ColumnsAt → List ℕ → TokenKind → List ℕ
column_name Name name t = name_or name (name_in t)
column_name _ name t = name

-- whether the column so far is NOT NULL
abbrev pub column_flag : ColumnsAt → Bool → Bool
column_flag Name flag = false
column_flag Null flag = true
column_flag _ flag = flag

abbrev pub column_where : Bool → List ℕ → Bool → List ColumnDef
column_where ends name flag = if ends then record { name = name; ty = ty.Int; not_null = flag } ∷ [] else []

-- the column that ends at a token
abbrev pub column_at : ColumnsAt → List ℕ → Bool → TokenKind → List ColumnDef
column_at Flag name flag t = column_where (is_comma t || is_close t) name flag
column_at Next name flag t = column_where (is_comma t || is_close t) name flag
column_at _ name flag t = []

abbrev pub columns_from : ColumnsAt → List ℕ → Bool → List Token → List ColumnDef
columns_from at name flag [] = []
columns_from at name flag (t ∷ ts) =
    column_at at name flag t.kind ++ columns_from (next_column at t.kind) (column_name at name t.kind) (column_flag at flag) ts

abbrev pub columns_end : ColumnsAt → List Token → ColumnsAt
columns_end at [] = at
columns_end at (t ∷ ts) = columns_end (next_column at t.kind) ts

abbrev pub if_done : ColumnsAt → List ColumnDef → Option (List ColumnDef)
if_done Done columns = Some columns
if_done _ columns = None

-- the columns that tokens spell, if they spell columns
abbrev pub columns_in : List Token → Option (List ColumnDef)
columns_in ts = if_done (columns_end Open ts) (columns_from Open [] false ts)

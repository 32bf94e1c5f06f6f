-- What a query shows: select items with their names, or all columns.
use Rattle.std.specs.Prelude.{ℕ, suc, ◌+◌, List, [], ◌∷◌, ◌++◌, length, Option, Some, None}
use Rattle.std.specs.Fmt.{decimal}
use Rattle.dby_types.specs.declared.definition.ColumnDef.{ColumnDef}
use Rattle.dby_types.specs.declared.state.SqlState.{SqlState}
use Rattle.sql_ast.specs.declared.expression.Expression.{Expression, Column, ColumnOf, Brackets'}
use Rattle.sql_ast.specs.declared.statement.OutText.{OutText}
use Rattle.sql_ast.specs.declared.statement.Shown.{Shown as ShownText}
use Rattle.sql_ast.specs.declared.statement.Shown.TheVariants.{All, These}
use Rattle.sql_binding.specs.Bound.{Shown}
use Rattle.sql_binding.specs.Expressions.{Scope, spot_tree, bound, calls}
use Rattle.sql_binding.specs.Faults.{faults, key_faults}
use Rattle.sql_binding.specs.Names.{Source}

-- the select items; `*` has none of its own
abbrev pub items_of : ShownText → List OutText
items_of All = []
items_of (These items) = items

-- the number of aggregates of select items
abbrev pub calls_of : List OutText → ℕ
calls_of [] = 0
calls_of (o ∷ os) = calls o.expression + calls_of os

-- the name of a column that stands alone, brackets around it apart
abbrev pub own_name : Expression → Option (List ℕ)
own_name (Column name) = Some name
own_name (ColumnOf table name) = Some name
own_name (Brackets' p a) = own_name a
own_name e = None

abbrev pub or_name : Option (List ℕ) → List ℕ → List ℕ
or_name None other = other
or_name (Some name) other = name

-- the name of a select item: the one that it is given, else its column's, else its position
abbrev pub out_name : ℕ → OutText → List ℕ
out_name position o = or_name o.name (or_name (own_name o.expression) (decimal position))

-- the select items; the aggregates of the first stand from place n on
abbrev pub shown_items : Scope → ℕ → ℕ → List OutText → List Shown
shown_items s n position [] = []
shown_items s n position (o ∷ os) =
    record { name = out_name position o; tree = bound s n o.expression } ∷ shown_items s (n + calls o.expression) (suc position) os

abbrev pub item_faults : Scope → ℕ → List OutText → List SqlState
item_faults s n [] = []
item_faults s n (o ∷ os) = faults s n o.expression ++ item_faults s (n + calls o.expression) os

-- `*`: all columns, in FROM order
abbrev pub shown_columns : Scope → ℕ → List ColumnDef → List Shown
shown_columns s n [] = []
shown_columns s n (c ∷ cs) = record { name = c.name; tree = spot_tree s (record { place = n; ty = c.ty }) } ∷ shown_columns s (suc n) cs

abbrev pub shown_tables : Scope → ℕ → List Source → List Shown
shown_tables s n [] = []
shown_tables s n (t ∷ ts) = shown_columns s n t.columns ++ shown_tables s (n + length t.columns) ts

abbrev pub column_faults : Option (List ℕ) → ℕ → List ColumnDef → List SqlState
column_faults keys n [] = []
column_faults keys n (c ∷ cs) = key_faults keys n ++ column_faults keys (suc n) cs

abbrev pub all_faults : Option (List ℕ) → ℕ → List Source → List SqlState
all_faults keys n [] = []
all_faults keys n (t ∷ ts) = column_faults keys n t.columns ++ all_faults keys (n + length t.columns) ts

-- what a query shows; aggregates stand behind this many keys
abbrev pub shown_by : Scope → ℕ → ShownText → List Shown
shown_by s n All = shown_tables s 0 s.sources
shown_by s n (These items) = shown_items s n 1 items

abbrev pub shown_faults : Scope → ℕ → ShownText → List SqlState
shown_faults s n All = all_faults s.keys 0 s.sources
shown_faults s n (These items) = item_faults s n items

-- FROM: its tables, and the conditions of a query.
use Rattle.std.specs.Prelude.{ℕ, nat_le, List, [], ◌∷◌, ◌++◌, not, Option, Some, None}
use Rattle.dby_types.specs.declared.definition.ColumnDef.{ColumnDef}
use Rattle.dby_types.specs.declared.definition.Dictionary.{Dictionary}
use Rattle.dby_types.specs.declared.definition.TableDef.{TableDef}
use Rattle.dby_types.specs.declared.state.SqlState.{SqlState}
use Rattle.dby_types.specs.declared.state.SqlState.TheVariants.{NoTable, NameTwice, TooLarge}
use Rattle.sql_ast.specs.declared.expression.Expression.{Expression}
use Rattle.sql_ast.specs.declared.statement.FromText.{FromText}
use Rattle.sql_ast.specs.declared.statement.JoinText.{JoinText}
use Rattle.sql_ast.specs.declared.statement.TableText.{TableText}
use Rattle.sql_binding.specs.Faults.{unless}
use Rattle.sql_binding.specs.Names.{Source, table_named, has_twice}

-- a table that isn't there has no columns; its refusal is told before all that follows from that
abbrev pub columns_of : Option TableDef → List ColumnDef
columns_of None = []
columns_of (Some d) = d.columns

abbrev pub number_of : Option TableDef → ℕ
number_of None = 0
number_of (Some d) = d.number

abbrev pub table_faults : Option TableDef → List SqlState
table_faults None = NoTable ∷ []
table_faults (Some d) = []

abbrev pub found_in : Dictionary → List ℕ → Option TableDef
found_in d name = table_named name d.tables

-- the tables of FROM, from left to right
abbrev pub joined_tables : List JoinText → List TableText
joined_tables [] = []
joined_tables (j ∷ js) = j.table ∷ joined_tables js

abbrev pub tables_of : List FromText → List TableText
tables_of [] = []
tables_of (f ∷ fs) = f.table ∷ joined_tables f.joins ++ tables_of fs

-- the conditions of ON, from left to right
abbrev pub joined_conditions : List JoinText → List Expression
joined_conditions [] = []
joined_conditions (j ∷ js) = j.condition ∷ joined_conditions js

abbrev pub on_conditions : List FromText → List Expression
on_conditions [] = []
on_conditions (f ∷ fs) = joined_conditions f.joins ++ on_conditions fs

abbrev pub listed : Option Expression → List Expression
listed None = []
listed (Some c) = c ∷ []

-- a table is known by its alias, and by its own name where it has none
abbrev pub exposed_by : List ℕ → Option (List ℕ) → List ℕ
exposed_by name None = name
exposed_by name (Some alias) = alias

abbrev pub sources_of : Dictionary → List TableText → List Source
sources_of d [] = []
sources_of d (t ∷ ts) = record { exposed = exposed_by t.name t.alias; columns = columns_of (found_in d t.name) } ∷ sources_of d ts

abbrev pub numbers_of : Dictionary → List TableText → List ℕ
numbers_of d [] = []
numbers_of d (t ∷ ts) = number_of (found_in d t.name) ∷ numbers_of d ts

abbrev pub missing_tables : Dictionary → List TableText → List SqlState
missing_tables d [] = []
missing_tables d (t ∷ ts) = table_faults (found_in d t.name) ++ missing_tables d ts

abbrev pub exposed_names : List Source → List (List ℕ)
exposed_names [] = []
exposed_names (s ∷ ss) = s.exposed ∷ exposed_names ss

abbrev pub twice_faults : List (List ℕ) → List SqlState
twice_faults names = unless (not (has_twice names)) NameTwice

-- at most so many
abbrev pub limit_faults : ℕ → ℕ → List SqlState
limit_faults n limit = unless (nat_le n limit) TooLarge

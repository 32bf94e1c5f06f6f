-- What names stand for: tables in a dictionary, columns in the joined row of FROM.
use Rattle.std.specs.Prelude.{ℕ, suc, ◌+◌, List, [], ◌∷◌, length, Bool, false, ◌||◌, Option, Some, None, Result, Ok, Err, if◌then◌else◌}
use Rattle.std.specs.List.{cons_option}
use Rattle.std.specs.Str.{bytes_eq}
use Rattle.dby_types.specs.declared.definition.ColumnDef.{ColumnDef}
use Rattle.dby_types.specs.declared.definition.TableDef.{TableDef}
use Rattle.dby_types.specs.declared.state.SqlState.{SqlState}
use Rattle.dby_types.specs.declared.state.SqlState.TheVariants.{NoColumn, AmbiguousColumn}
use Rattle.dby_types.specs.declared.value.Ty.{Ty}
use Rattle.dby_types.specs.declared.value.Ty.TheVariants.{Int}

-- a column that a name stands for: its place, and its type
pub record Spot : Type 0 where
  pub place : ℕ
  pub ty : Ty

-- a table of FROM: the name by which it is known there, and its columns
pub record Source : Type 0 where
  pub exposed : List ℕ
  pub columns : List ColumnDef

-- the table of a name
abbrev pub table_named : List ℕ → List TableDef → Option TableDef
table_named name [] = None
table_named name (d ∷ ds) = if bytes_eq name d.name then Some d else table_named name ds

-- the column of a name in one table whose columns begin at a place
abbrev pub spot_from : ℕ → List ℕ → List ColumnDef → Option Spot
spot_from n name [] = None
spot_from n name (c ∷ cs) = if bytes_eq name c.name then Some (record { place = n; ty = c.ty }) else spot_from (suc n) name cs

-- the columns of a name in tables that stand one behind the other, one of each table that has it
abbrev pub spots_from : ℕ → List ℕ → List Source → List Spot
spots_from n name [] = []
spots_from n name (s ∷ ss) = cons_option (spot_from n name s.columns) (spots_from (n + length s.columns) name ss)

-- the column of a name in the first table that is known by a name
abbrev pub spot_of : ℕ → List ℕ → List ℕ → List Source → Option Spot
spot_of n table name [] = None
spot_of n table name (s ∷ ss) = if bytes_eq table s.exposed then spot_from n name s.columns else spot_of (n + length s.columns) table name ss

-- there has to be one, and only one
abbrev pub only_one : List Spot → Result Spot SqlState
only_one [] = Err NoColumn
only_one (s ∷ []) = Ok s
only_one (s ∷ t ∷ ss) = Err AmbiguousColumn

abbrev pub or_missing : Option Spot → Result Spot SqlState
or_missing None = Err NoColumn
or_missing (Some s) = Ok s

-- THE COLUMN that a name stands for: with a qualifier, in the table that is known by it; without one, in all tables of FROM
abbrev pub column_named : List Source → Option (List ℕ) → List ℕ → Result Spot SqlState
column_named ss None name = only_one (spots_from 0 name ss)
column_named ss (Some table) name = or_missing (spot_of 0 table name ss)

-- where a name stands for none, what follows is told by its refusal alone
abbrev pub spot_or : Result Spot SqlState → Spot
spot_or (Ok s) = s
spot_or (Err why) = record { place = 0; ty = Int }

abbrev pub spot_faults : Result Spot SqlState → List SqlState
spot_faults (Ok s) = []
spot_faults (Err why) = why ∷ []

-- the length of the joined row
abbrev pub width_of : List Source → ℕ
width_of [] = 0
width_of (s ∷ ss) = length s.columns + width_of ss

-- a name stands in a list
abbrev pub is_named : List ℕ → List (List ℕ) → Bool
is_named name [] = false
is_named name (other ∷ names) = bytes_eq name other || is_named name names

-- a name stands twice
abbrev pub has_twice : List (List ℕ) → Bool
has_twice [] = false
has_twice (name ∷ names) = is_named name names || has_twice names

-- What a table keeps of a row that was computed.
use Rattle.std.specs.Prelude.{◌≡◌, Bool, true, false, List, [], ◌∷◌, Option, Some, None, Result, Ok, Err}
use Rattle.dby_types.specs.declared.definition.ColumnDef.{ColumnDef}
use Rattle.dby_types.specs.declared.state.SqlState.{SqlState}
use Rattle.dby_types.specs.declared.state.SqlState.TheVariants.{NullNotAllowed}
use Rattle.dby_types.specs.declared.value.Value.{Value}
use Rattle.dby_types.specs.declared.value.Value.TheVariants.{Null}
use Rattle.expr_model.specs.declared.evaluated.Evaluated.{Evaluated}
use Rattle.expr_model.specs.declared.evaluated.Evaluated.TheVariants.{Value as Gives, Sql as Refused}
use Rattle.sql_model.specs.Lines.{first_refusal, values_in}
use Rattle.sql_model.specs.Tuples.{Row}
use Rattle.table_model.specs.Fitting.{fits_columns}
use Rattle.value_compare.specs.Logic.{is_null}
use Rattle.value_compare.specs.Storing.{stored}

abbrev pub taken : Result Value SqlState → Evaluated
taken (Ok v) = Gives v
taken (Err why) = Refused why

-- NULL in a column that is NOT NULL is 23502
abbrev pub kept_null : Bool → Evaluated
kept_null true = Refused NullNotAllowed
kept_null false = Gives Null

-- what a column keeps of a value, or 23502, 22003, 22001
abbrev pub kept : ColumnDef → Value → Evaluated
kept c Null = kept_null c.not_null
kept c v = taken (stored c.ty v)

-- what the columns keep of a row, in their order
abbrev pub kept_line : List ColumnDef → Row → List Evaluated
kept_line [] vs = []
kept_line (c ∷ cs) [] = []
kept_line (c ∷ cs) (v ∷ vs) = kept c v ∷ kept_line cs vs

abbrev pub or_else : Option SqlState → Option SqlState → Option SqlState
or_else (Some why) later = Some why
or_else None later = later

-- THE REFUSAL of a new row: all values are computed, and then all are stored, each in column order
abbrev pub row_refusal : List ColumnDef → List Evaluated → Option SqlState
row_refusal columns line = or_else (first_refusal line) (first_refusal (kept_line columns (values_in line)))

-- THE NEW ROW
abbrev pub stored_row : List ColumnDef → List Evaluated → Row
stored_row columns line = values_in (kept_line columns (values_in line))

-- no NULL where a column is NOT NULL
abbrev pub HasNoNull : List ColumnDef → Row → Type 0
HasNoNull [] vs = Unit {0}
HasNoNull (c ∷ cs) [] = Unit {0}
HasNoNull (c ∷ cs) (v ∷ vs) = (c.not_null ≡ true → is_null v ≡ false) × HasNoNull cs vs

-- A ROW THAT THE TABLE MAY HOLD: each value as its column keeps it, and no NULL where it may not be
pub record MayStand (columns : List ColumnDef) (row : Row) : Type 0 where
  pub fits : fits_columns columns row ≡ true
  pub nulls : HasNoNull columns row

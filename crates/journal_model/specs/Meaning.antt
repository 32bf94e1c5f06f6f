-- The meaning of a text over tables: its single refusal, or what it does.
use Rattle.std.specs.Prelude.{◌≡◌, ◌<◌, ◌≤◌, ◌⊎◌, ℕ, List, [], ◌∷◌, length, Option, Some, None, Bool, true, false, ◌&&◌, ◌||◌, nat_lt}
use Rattle.std.specs.Str.{bytes_eq}
use Rattle.dby_types.specs.declared.definition.ColumnDef.{ColumnDef}
use Rattle.dby_types.specs.declared.definition.TableDef.{TableDef}
use Rattle.dby_types.specs.declared.state.SqlState.{SqlState}
use Rattle.dby_types.specs.declared.state.SqlState.TheVariants as state
use Rattle.dby_types.specs.declared.value.Value.{Value}
use Rattle.sql_forms.specs.declared.form.Form.{Form}
use Rattle.sql_forms.specs.declared.form.Form.TheVariants.{CreateTable, Insert, Select}
use Rattle.sql_forms.specs.Forms.{form_of}
use Rattle.table_model.specs.Tables.{Tables}
use Rattle.journal_model.specs.Catalog.{Defines, NoTable, suits, has_null}

-- the text has more bytes than a statement may have
abbrev pub is_long : List ℕ → Bool
is_long text = nat_lt 65536 (length text)

abbrev pub has_name : List ℕ → List ColumnDef → Bool
has_name name [] = false
has_name name (c ∷ cs) = bytes_eq name c.name || has_name name cs

-- a column's name stands twice
abbrev pub names_twice : List ColumnDef → Bool
names_twice [] = false
names_twice (c ∷ cs) = has_name c.name cs || names_twice cs

-- each tuple suits the columns
abbrev pub all_suit : List ColumnDef → List (List Value) → Bool
all_suit columns [] = true
all_suit columns (tuple ∷ tuples) = suits columns tuple && all_suit columns tuples

-- some tuple has NULL in a column that is NOT NULL
abbrev pub some_null : List ColumnDef → List (List Value) → Bool
some_null columns [] = false
some_null columns (tuple ∷ tuples) = has_null columns tuple || some_null columns tuples

-- a table of this name, by its definition
pub record Names (tables : Tables) (name : List ℕ) : Type 0 where
  pub def : TableDef
  pub defined : Defines tables def
  pub named : def.name ≡ name

-- a table that the tuples of an INSERT don't suit
pub record Misfits (tables : Tables) (name : List ℕ) (tuples : List (List Value)) : Type 0 where
  pub target : Names tables name
  pub misfit : all_suit target.def.columns tuples ≡ false

-- a table that they suit
pub record Suits (tables : Tables) (name : List ℕ) (tuples : List (List Value)) : Type 0 where
  pub target : Names tables name
  pub suited : all_suit target.def.columns tuples ≡ true

-- why a form is refused, whatever rows the tables have
abbrev pub RefusedForm : Option Form → Tables → SqlState → Type 0
RefusedForm None tables why = why ≡ state.Syntax 0
RefusedForm (Some (CreateTable name columns)) tables why =
    (why ≡ state.NotBuilt) × (Names tables name ⊎ ((names_twice columns ≡ true) ⊎ (64 < length columns)))
RefusedForm (Some (Insert name tuples)) tables why =
    ((why ≡ state.NoTable) × NoTable tables name) ⊎ ((why ≡ state.NotBuilt) × Misfits tables name tuples)
RefusedForm (Some (Select name)) tables why = (why ≡ state.NoTable) × NoTable tables name

abbrev pub RefusedIf : Bool → List ℕ → Tables → SqlState → Type 0
RefusedIf true text tables why = why ≡ state.NotBuilt
RefusedIf false text tables why = RefusedForm (form_of text) tables why

-- THE SINGLE REFUSAL of a text over tables: it is too long, has no form, or breaks a rule over the dictionary
abbrev pub IsRefused : List ℕ → Tables → SqlState → Type 0
IsRefused text tables why = RefusedIf (is_long text) text tables why

-- what a form needs of the dictionary, to have no single refusal
abbrev pub PassesForm : Option Form → Tables → Type 0
PassesForm None tables = ⊥
PassesForm (Some (CreateTable name columns)) tables =
    NoTable tables name × (names_twice columns ≡ false) × (length columns ≤ 64)
PassesForm (Some (Insert name tuples)) tables = Suits tables name tuples
PassesForm (Some (Select name)) tables = Names tables name

-- a text without a single refusal over tables
pub record Passes (text : List ℕ) (tables : Tables) : Type 0 where
  pub short : is_long text ≡ false
  pub form : PassesForm (form_of text) tables

-- a tuple of an INSERT has NULL in a column that is NOT NULL
abbrev pub NullIn : Option Form → Tables → Type 0
NullIn (Some (Insert name tuples)) tables = (target : Suits tables name tuples) × (some_null target.target.def.columns tuples ≡ true)
NullIn _ tables = ⊥

-- What a statement is bound to do, over the dictionary.
use Rattle.std.specs.Prelude.{◌≡◌, ◌<◌, ◌≤◌, ◌⊎◌, List, [], length, map, reverse, true, false, if◌then◌else◌}
use Rattle.dby_types.specs.declared.definition.ColumnDef.{ColumnDef}
use Rattle.dby_types.specs.declared.state.SqlState.TheVariants as state
use Rattle.dby_types.specs.declared.value.Value.{Value}
use Rattle.journal_model.specs.declared.journal.Refusal.{Refusal}
use Rattle.journal_model.specs.declared.journal.Refusal.TheVariants.{Sql, Memory}
use Rattle.journal_model.specs.Meaning.{all_suit, names_twice, some_null}
use Rattle.table_model.specs.Fitting.{fits_columns}
use Rattle.table_model.specs.Tables.{Each}
use Rattle.session_model.specs.Orders.{is_built}
use Rattle.sql_commands.specs.declared.command.Command.{Command}
use Rattle.session_engine.specs.declared.dictionary.Defined.{Defined}
use Rattle.session_engine.specs.declared.session.Make.{Make}
use Rattle.session_engine.specs.declared.session.Plan.{Plan}
use Rattle.session_engine.specs.declared.session.Plan.TheVariants as plan
use Rattle.session_engine.specs.Dictionary.{Named, IsThere, IsAbsent}
use Rattle.session_engine.specs.Scanning.{IsUnread}
use Rattle.std.specs.Prelude.{ℕ, Option, Some, None}
use Rattle.sql_forms.specs.declared.form.Form.TheVariants.{Select, Insert, CreateTable}
use Rattle.session_model.specs.declared.order.Order.{Order}
use Rattle.session_model.specs.declared.order.Order.TheVariants as ordered
use Rattle.session_engine.specs.declared.session.Phase.{Phase}
use Rattle.session_engine.specs.declared.session.Phase.TheVariants.{Working, Claiming, Refusing}

-- a command that is built, or the refusal of one that isn't
abbrev pub BindsCommand : Command → Plan → Type 0
BindsCommand c p = p ≡ (if is_built c then plan.Command c else plan.Refuse (Sql state.NotBuilt []))

-- a query: of a table that is there
abbrev pub BindsSelect : List Named → List ℕ → Plan → Type 0
BindsSelect named name (plan.Refuse why) = (why ≡ Sql state.NoTable []) × IsAbsent named name
BindsSelect named name (plan.Select scan) = (def : Defined) × IsThere named name def × (scan.number ≡ def.number) × (scan.names ≡ map (λ c. c.name) def.columns) × IsUnread scan
BindsSelect named name _ = ⊥

-- an INSERT is refused where its table isn't there, its tuples don't suit it, or one has NULL where none may stand
abbrev pub RefusesInsert : List Named → List ℕ → List (List Value) → Refusal → Type 0
RefusesInsert named name tuples why =
    ((why ≡ Sql state.NoTable []) × IsAbsent named name)
    ⊎ (((why ≡ Sql state.NotBuilt []) × ((def : Defined) × IsThere named name def × (all_suit def.columns tuples ≡ false)))
    ⊎ ((why ≡ Sql state.NullNotAllowed []) × ((def : Defined) × IsThere named name def × (all_suit def.columns tuples ≡ true) × (some_null def.columns tuples ≡ true))))

abbrev pub BindsInsert : List Named → List ℕ → List (List Value) → Plan → Type 0
BindsInsert named name tuples (plan.Refuse why) = RefusesInsert named name tuples why
BindsInsert named name tuples (plan.Insert fill) =
    (def : Defined) × IsThere named name def × (all_suit def.columns tuples ≡ true) × (some_null def.columns tuples ≡ false)
    × Each (λ t. fits_columns def.columns t ≡ true) tuples × (fill.number ≡ def.number) × (fill.rows.items ≡ reverse tuples) × (fill.count ≡ length tuples) × (fill.has_room ≡ false)
BindsInsert named name tuples _ = ⊥

-- a CREATE TABLE is refused where its table stands already, or its columns have a name twice or are too many
abbrev pub RefusesCreate : List Named → List ℕ → List ColumnDef → Type 0
RefusesCreate named name columns = ((def : Defined) × IsThere named name def) ⊎ ((names_twice columns ≡ true) ⊎ (64 < length columns))

-- the table that is to be made, without its number
pub record IsUnmade (name : List ℕ) (columns : List ColumnDef) (make : Make) : Type 0 where
  pub name_is : make.def.name ≡ name
  pub columns_are : make.def.columns ≡ columns
  pub unmade : make.made ≡ false
  pub none : make.done ≡ 0
  pub no_room : make.has_room ≡ false

abbrev pub BindsCreate : List Named → List ℕ → List ColumnDef → Plan → Type 0
BindsCreate named name columns (plan.Refuse why) = (why ≡ Sql state.NotBuilt []) × RefusesCreate named name columns
BindsCreate named name columns (plan.Create make) = IsAbsent named name × (names_twice columns ≡ false) × (length columns ≤ 64) × IsUnmade name columns make
BindsCreate named name columns _ = ⊥

-- WHAT A STATEMENT IS BOUND TO DO
abbrev pub IsBound : List Named → Option Order → Plan → Type 0
IsBound named None p = p ≡ plan.Refuse (Sql (state.Syntax 0) [])
IsBound named (Some (ordered.Command c)) p = BindsCommand c p
IsBound named (Some (ordered.Form (Select name))) p = (p ≡ plan.Refuse Memory) ⊎ BindsSelect named name p
IsBound named (Some (ordered.Form (Insert name tuples))) p = BindsInsert named name tuples p
IsBound named (Some (ordered.Form (CreateTable name columns))) p = BindsCreate named name columns p

-- where a connection is then
abbrev pub bound_phase : Plan → Phase
bound_phase (plan.Command c) = Working
bound_phase (plan.Create make) = Working
bound_phase (plan.Select scan) = Claiming
bound_phase (plan.Insert fill) = Claiming
bound_phase _ = Refusing

-- What a text asks for: a command or a form; and its single refusal over tables.
use Rattle.std.specs.Prelude.{◌≡◌, ℕ, List, Option, Some, None, Bool, true, false}
use Rattle.dby_types.specs.declared.number.Level.TheVariants.{Ur, Rs}
use Rattle.dby_types.specs.declared.answer.Answer.{Answer}
use Rattle.dby_types.specs.declared.answer.Answer.TheVariants as answer
use Rattle.dby_types.specs.declared.state.SqlState.{SqlState}
use Rattle.dby_types.specs.declared.state.SqlState.TheVariants as state
use Rattle.sql_commands.specs.declared.command.Command.{Command}
use Rattle.sql_commands.specs.declared.command.Command.TheVariants as command
use Rattle.sql_commands.specs.Commands.{command_of}
use Rattle.sql_forms.specs.declared.form.Form.{Form}
use Rattle.sql_forms.specs.declared.form.Form.TheVariants.{CreateTable}
use Rattle.sql_forms.specs.Forms.{form_of}
use Rattle.table_model.specs.Tables.{Tables}
use Rattle.session_model.specs.declared.order.Order.{Order}
use Rattle.session_model.specs.declared.order.Order.TheVariants.{Command as bids, Form as runs}
use Rattle.journal_model.specs.Meaning.{RefusedForm, PassesForm, is_long}

abbrev pub order_from : Option Command → Option Form → Option Order
order_from (Some c) f = Some (bids c)
order_from None (Some f) = Some (runs f)
order_from None None = None

-- the command or the form that a text spells
abbrev pub order_of : List ℕ → Option Order
order_of text = order_from (command_of text) (form_of text)

abbrev pub is_create : Option Order → Bool
is_create (Some (runs (CreateTable name columns))) = true
is_create _ = false

-- read uncommitted and repeatable read aren't built
abbrev pub is_built : Command → Bool
is_built (command.SetIsolation Ur) = false
is_built (command.SetIsolation Rs) = false
is_built _ = true

-- what a command is told
abbrev pub told_of : Command → Answer
told_of command.Commit = answer.Committed
told_of command.Rollback = answer.RolledBack
told_of (command.Autocommit on) = answer.Done
told_of (command.SetIsolation level) = answer.Done

-- why an order is refused, whatever rows the tables have
abbrev pub RefusedOrder : Option Order → Tables → SqlState → Type 0
RefusedOrder None tables why = why ≡ state.Syntax 0
RefusedOrder (Some (bids c)) tables why = (why ≡ state.NotBuilt) × (is_built c ≡ false)
RefusedOrder (Some (runs f)) tables why = RefusedForm (Some f) tables why

abbrev pub RefusedIf : Bool → Option Order → Tables → SqlState → Type 0
RefusedIf true order tables why = why ≡ state.NotBuilt
RefusedIf false order tables why = RefusedOrder order tables why

-- THE SINGLE REFUSAL of a text over tables: it is too long, asks for nothing, or breaks a rule over the dictionary
abbrev pub IsRefused : List ℕ → Tables → SqlState → Type 0
IsRefused text tables why = RefusedIf (is_long text) (order_of text) tables why

-- what an order needs of the dictionary, to have no single refusal
abbrev pub PassesOrder : Option Order → Tables → Type 0
PassesOrder None tables = ⊥
PassesOrder (Some (bids c)) tables = is_built c ≡ true
PassesOrder (Some (runs f)) tables = PassesForm (Some f) tables

-- a text without a single refusal over tables
pub record Passes (text : List ℕ) (tables : Tables) : Type 0 where
  pub short : is_long text ≡ false
  pub order : PassesOrder (order_of text) tables

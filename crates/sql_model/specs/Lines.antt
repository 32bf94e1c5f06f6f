-- Several values computed of one row, and the first that refuses.
use Rattle.std.specs.Prelude.{List, [], ◌∷◌, map, Option, Some, None}
use Rattle.std.specs.List.{filter_map}
use Rattle.dby_types.specs.declared.state.SqlState.{SqlState}
use Rattle.dby_types.specs.declared.value.Value.{Value}
use Rattle.dby_types.specs.declared.value.Value.TheVariants.{Null}
use Rattle.expr_model.specs.Expression.{value_of, columns_from}
use Rattle.expr_model.specs.declared.evaluated.Evaluated.{Evaluated}
use Rattle.expr_model.specs.declared.evaluated.Evaluated.TheVariants.{Value as Gives, Sql as Refused}
use Rattle.sql_ast.specs.declared.bound.Expr.{Expr}
use Rattle.sql_model.specs.Tuples.{Row}

-- the values of expressions over a row, from left to right
abbrev pub values_of : List Expr → Row → List Evaluated
values_of [] r = []
values_of (e ∷ es) r = value_of e (columns_from 0 r) ∷ values_of es r

-- what refuses counts as NULL here; that it refuses is said beside
abbrev pub value_in : Evaluated → Value
value_in (Gives v) = v
value_in (Refused why) = Null

abbrev pub values_in : List Evaluated → Row
values_in line = map value_in line

-- the refusal of a row: that of its first value which has one
abbrev pub first_refusal : List Evaluated → Option SqlState
first_refusal [] = None
first_refusal (Gives v ∷ line) = first_refusal line
first_refusal (Refused why ∷ line) = Some why

-- the refusals of several rows
abbrev pub refusals_of : List (List Evaluated) → List SqlState
refusals_of lines = filter_map first_refusal lines

-- the refusal of each value
abbrev pub refusal_in : Evaluated → Option SqlState
refusal_in (Gives v) = None
refusal_in (Refused why) = Some why

-- what comes later refuses only where nothing earlier does
abbrev pub unless : List SqlState → List SqlState → List SqlState
unless [] later = later
unless (why ∷ whys) later = why ∷ whys

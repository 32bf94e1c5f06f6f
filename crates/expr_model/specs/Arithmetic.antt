-- What operators give of values.
use Rattle.std.specs.Prelude.{ℤ, pos, ◌+ℤ◌, ◌-ℤ◌, ◌*ℤ◌, neg_ℤ, Bool, true, false, Option, Some, None, if◌then◌else◌, int_div}
use Rattle.std.specs.Ordering.{int_eq, is_eq, is_ne, is_lt, is_le, is_gt, is_ge}
use Rattle.std.specs.declared.cmp.Ordering.{Ordering}
use Rattle.dby_types.specs.declared.state.SqlState.TheVariants.{OutOfRange, DivisionByZero}
use Rattle.dby_types.specs.declared.value.Ty.{Ty}
use Rattle.dby_types.specs.declared.value.Value.{Value}
use Rattle.dby_types.specs.declared.value.Value.TheVariants.{Null, Num}
use Rattle.dby_types.specs.declared.value.Value.TheVariants.{Bool as Truth}
use Rattle.expr_model.specs.declared.evaluated.Evaluated.{Evaluated}
use Rattle.expr_model.specs.declared.evaluated.Evaluated.TheVariants.{Value as Gives, Sql as Refused}
use Rattle.sql_ast.specs.declared.bound.Arithmetic.{Arithmetic}
use Rattle.sql_ast.specs.declared.bound.Arithmetic.TheVariants.{Add, Subtract, Multiply, Divide}
use Rattle.sql_ast.specs.declared.expression.Comparison.{Comparison}
use Rattle.sql_ast.specs.declared.expression.Comparison.TheVariants.{Equal, NotEqual, Less, LessEqual, Greater, GreaterEqual}
use Rattle.value_compare.specs.Logic.{and_of, or_of, not_of}
use Rattle.value_compare.specs.Order.{compared}
use Rattle.value_compare.specs.Storing.{is_number_of}

-- a number of this type, or 22003
abbrev pub in_range : Ty → ℤ → Evaluated
in_range ty n = if is_number_of ty n then Gives (Num n) else Refused OutOfRange

-- two numbers put together in this type; a quotient goes toward zero, and one by zero is 22012
abbrev pub computed : Arithmetic → Ty → ℤ → ℤ → Evaluated
computed Add ty a b = in_range ty (a +ℤ b)
computed Subtract ty a b = in_range ty (a -ℤ b)
computed Multiply ty a b = in_range ty (a *ℤ b)
computed Divide ty a b = if int_eq b (pos 0) then Refused DivisionByZero else in_range ty (int_div a b)

-- two values put together: NULL where one is NULL
abbrev pub arithmetic : Arithmetic → Ty → Value → Value → Evaluated
arithmetic op ty (Num a) (Num b) = computed op ty a b
arithmetic op ty a b = Gives Null

-- a value with the other sign
abbrev pub negated : Ty → Value → Evaluated
negated ty (Num a) = in_range ty (neg_ℤ a)
negated ty a = Gives Null

-- the test that a comparison makes of an order
abbrev pub passes : Comparison → Ordering → Bool
passes Equal o = is_eq o
passes NotEqual o = is_ne o
passes Less o = is_lt o
passes LessEqual o = is_le o
passes Greater o = is_gt o
passes GreaterEqual o = is_ge o

abbrev pub passes_known : Comparison → Option Ordering → Value
passes_known op None = Null
passes_known op (Some o) = Truth (passes op o)

-- a comparison of two values: unknown where one is NULL
abbrev pub comparison : Comparison → Value → Value → Value
comparison op a b = passes_known op (compared a b)

-- a test behind NOT, or as it stands
abbrev pub denied : Bool → Value → Value
denied true v = not_of v
denied false v = v

-- one operand and then the rest: a refusal of the first stands before all else
abbrev pub on_value : Evaluated → (Value → Evaluated) → Evaluated
on_value (Gives v) rest = rest v
on_value (Refused why) rest = Refused why

-- two operands, from left to right
abbrev pub on_values : Evaluated → Evaluated → (Value → Value → Evaluated) → Evaluated
on_values a b rest = on_value a (λ x. on_value b (λ y. rest x y))

abbrev pub compared_values : Comparison → Evaluated → Evaluated → Evaluated
compared_values op a b = on_values a b (λ x y. Gives (comparison op x y))

-- AND stops where its left side is false
abbrev pub and_values : Evaluated → Evaluated → Evaluated
and_values (Gives (Truth false)) b = Gives (Truth false)
and_values a b = on_values a b (λ x y. Gives (and_of x y))

-- OR stops where its left side is true
abbrev pub or_values : Evaluated → Evaluated → Evaluated
or_values (Gives (Truth true)) b = Gives (Truth true)
or_values a b = on_values a b (λ x y. Gives (or_of x y))

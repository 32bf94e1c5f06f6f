-- What an aggregate gives of the values of a group.
use Rattle.std.specs.Prelude.{ℤ, pos, ◌+ℤ◌, List, [], ◌∷◌, length, not, ◌||◌, if◌then◌else◌}
use Rattle.std.specs.List.{filter, fold}
use Rattle.std.specs.Ordering.{is_lt, is_gt}
use Rattle.dby_types.specs.declared.value.Ty.{Ty}
use Rattle.dby_types.specs.declared.value.Value.{Value}
use Rattle.dby_types.specs.declared.value.Value.TheVariants.{Null, Num}
use Rattle.expr_model.specs.Arithmetic.{in_range}
use Rattle.expr_model.specs.declared.evaluated.Evaluated.{Evaluated}
use Rattle.expr_model.specs.declared.evaluated.Evaluated.TheVariants.{Value as Gives}
use Rattle.sql_ast.specs.declared.expression.Aggregate.{Aggregate}
use Rattle.sql_ast.specs.declared.expression.Aggregate.TheVariants.{Count, Sum, Min, Max}
use Rattle.value_compare.specs.Logic.{is_null}
use Rattle.value_compare.specs.Order.{value_cmp, trimmed}

-- the values that aggregates don't pass over
abbrev pub known : List Value → List Value
known values = filter (λ v. not (is_null v)) values

-- a number, and 0 for what is none
abbrev pub number_in : Value → ℤ
number_in (Num n) = n
number_in v = pos 0

-- the whole total, however great
abbrev pub total_from : ℤ → List Value → ℤ
total_from sum [] = sum
total_from sum (v ∷ vs) = total_from (sum +ℤ number_in v) vs

-- the sum in this type, or 22003 where the whole total is none of it; NULL of no value
abbrev pub sum_of : Ty → List Value → Evaluated
sum_of ty [] = Gives Null
sum_of ty (v ∷ vs) = in_range ty (total_from (pos 0) (v ∷ vs))

-- the lesser of two values; NULL is above all
abbrev pub lesser : Value → Value → Value
lesser a b = if is_lt (value_cmp b a) then b else a

-- the greater of two values, NULL passed over
abbrev pub greater : Value → Value → Value
greater a b = if is_null b then a else if is_null a || is_gt (value_cmp b a) then b else a

-- the least and the greatest value, without trailing blanks; NULL where there is none
abbrev pub least : List Value → Value
least values = trimmed (fold lesser Null values)

abbrev pub greatest : List Value → Value
greatest values = trimmed (fold greater Null values)

-- an aggregate whose value is of this type, over these values
abbrev pub aggregate_of : Aggregate → Ty → List Value → Evaluated
aggregate_of Count ty values = Gives (Num (pos (length (known values))))
aggregate_of Sum ty values = sum_of ty (known values)
aggregate_of Min ty values = Gives (least values)
aggregate_of Max ty values = Gives (greatest values)

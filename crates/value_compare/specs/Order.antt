-- The order of values, and which of them are one.
use Rattle.std.specs.Prelude.{ℕ, Bool, Option, Some, None}
use Rattle.std.specs.Ordering.{nat_cmp, int_cmp, bool_cmp, is_eq}
use Rattle.std.specs.declared.cmp.Ordering.{Ordering}
use Rattle.dby_types.specs.declared.value.Value.{Value}
use Rattle.dby_types.specs.declared.value.Value.TheVariants.{Null, Num, Text}
use Rattle.dby_types.specs.declared.value.Value.TheVariants.{Bool as Truth}
use Rattle.value_compare.specs.Text.{text_cmp, trimmed_text}

-- values of different kinds: NULL above all
abbrev pub rank : Value → ℕ
rank (Num n) = 0
rank (Truth b) = 1
rank (Text t) = 2
rank Null = 3

-- the order of values: false below true
abbrev pub value_cmp : Value → Value → Ordering
value_cmp (Num a) (Num b) = int_cmp a b
value_cmp (Truth a) (Truth b) = bool_cmp a b
value_cmp (Text a) (Text b) = text_cmp a b
value_cmp a b = nat_cmp (rank a) (rank b)

-- two values that stand for one group: NULL and NULL do
abbrev pub same_value : Value → Value → Bool
same_value a b = is_eq (value_cmp a b)

-- the value that stands for a group, a row of DISTINCT, a least or greatest value, a key
abbrev pub trimmed : Value → Value
trimmed (Text t) = Text (trimmed_text t)
trimmed v = v

-- how two values compare in SQL: not at all where one is NULL
abbrev pub compared : Value → Value → Option Ordering
compared (Num a) (Num b) = Some (int_cmp a b)
compared (Truth a) (Truth b) = Some (bool_cmp a b)
compared (Text a) (Text b) = Some (text_cmp a b)
compared a b = None

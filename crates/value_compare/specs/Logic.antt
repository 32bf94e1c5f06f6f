-- Three-valued logic; NULL is unknown.
use Rattle.std.specs.Prelude.{Bool, true, false, not}
use Rattle.dby_types.specs.declared.value.Value.{Value}
use Rattle.dby_types.specs.declared.value.Value.TheVariants.{Null}
use Rattle.dby_types.specs.declared.value.Value.TheVariants.{Bool as Truth}

-- false where one side is false, true where both are true
abbrev pub and_of : Value → Value → Value
and_of (Truth false) b = Truth false
and_of a (Truth false) = Truth false
and_of (Truth true) (Truth true) = Truth true
and_of a b = Null

-- true where one side is true, false where both are false
abbrev pub or_of : Value → Value → Value
or_of (Truth true) b = Truth true
or_of a (Truth true) = Truth true
or_of (Truth false) (Truth false) = Truth false
or_of a b = Null

abbrev pub not_of : Value → Value
not_of (Truth a) = Truth (not a)
not_of a = Null

abbrev pub is_null : Value → Bool
is_null Null = true
is_null v = false

abbrev pub is_true : Value → Bool
is_true (Truth a) = a
is_true v = false

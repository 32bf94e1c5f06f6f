-- What a column keeps of a value.
use Rattle.std.specs.Prelude.{ℕ, ℤ, pos, negsuc, List, length, take, Bool, true, false, ◌&&◌, not, if◌then◌else◌, int_lt, nat_le, Result, Ok, Err}
use Rattle.dby_types.specs.declared.state.SqlState.{SqlState}
use Rattle.dby_types.specs.declared.state.SqlState.TheVariants.{OutOfRange, TextTooLong, NotStorable}
use Rattle.dby_types.specs.declared.value.Ty.{Ty}
use Rattle.dby_types.specs.declared.value.Ty.TheVariants.{Small, Int, Big}
use Rattle.dby_types.specs.declared.value.Ty.TheVariants.{Bool as Truths, Text as Varchar}
use Rattle.dby_types.specs.declared.value.Value.{Value}
use Rattle.dby_types.specs.declared.value.Value.TheVariants.{Null, Num, Text}
use Rattle.dby_types.specs.declared.value.Value.TheVariants.{Bool as Truth}
use Rattle.value_compare.specs.Text.{trimmed_text}

-- a number from `low` to `high`
abbrev pub is_between : ℤ → ℤ → ℤ → Bool
is_between low high n = not (int_lt n low) && not (int_lt high n)

-- a number of this type: of 16, 32 or 64 bits
abbrev pub is_number_of : Ty → ℤ → Bool
is_number_of Small n = is_between (negsuc 32767) (pos 32767) n
is_number_of Int n = is_between (negsuc 2147483647) (pos 2147483647) n
is_number_of Big n = is_between (negsuc 9223372036854775807) (pos 9223372036854775807) n
is_number_of ty n = false

abbrev pub is_number_type : Ty → Bool
is_number_type Small = true
is_number_type Int = true
is_number_type Big = true
is_number_type ty = false

-- a number that a column of this type keeps
abbrev pub stored_number : Ty → ℤ → Result Value SqlState
stored_number ty n =
    if is_number_of ty n then Ok (Num n) else if is_number_type ty then Err OutOfRange else Err NotStorable

-- a text in at most `limit` bytes: blanks past them are lost, anything else past them is refused
abbrev pub stored_text : ℕ → List ℕ → Result Value SqlState
stored_text limit t =
    if nat_le (length t) limit then Ok (Text t)
    else if nat_le (length (trimmed_text t)) limit then Ok (Text (take limit t)) else Err TextTooLong

-- what a column of this type keeps of a value
abbrev pub stored : Ty → Value → Result Value SqlState
stored ty Null = Ok Null
stored ty (Num n) = stored_number ty n
stored Truths (Truth b) = Ok (Truth b)
stored (Varchar limit) (Text t) = stored_text limit t
stored ty v = Err NotStorable

-- a value that a column of this type keeps as it is
abbrev pub is_storable : Ty → Value → Bool
is_storable ty Null = true
is_storable ty (Num n) = is_number_of ty n
is_storable Truths (Truth b) = true
is_storable (Varchar limit) (Text t) = nat_le (length t) limit
is_storable ty v = false

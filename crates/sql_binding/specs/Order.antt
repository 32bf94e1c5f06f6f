-- The order of refusals.
use Rattle.std.specs.Prelude.{ℕ, nat_lt, if◌then◌else◌, List, [], ◌∷◌, Option, Some, None, Result, Ok, Err}
use Rattle.dby_types.specs.declared.state.SqlState.{SqlState}
use Rattle.dby_types.specs.declared.state.SqlState.TheVariants.{NoTable, NameExists, NothingToDrop, NoColumn, AmbiguousColumn, NotInTarget, ValueCount, NotComparable, NotStorable, WrongOperand, NameTwice, Grouping, SecondPrimaryKey, TooLarge}

-- THE CLASS of a refusal, the earliest first: tables and indexes, columns, numbers of values, types, names that stand twice, aggregates, primary
-- keys, limits
abbrev pub class_of : SqlState → ℕ
class_of NoTable = 0
class_of NameExists = 0
class_of NothingToDrop = 0
class_of NoColumn = 1
class_of AmbiguousColumn = 1
class_of NotInTarget = 1
class_of ValueCount = 2
class_of NotComparable = 3
class_of NotStorable = 3
class_of WrongOperand = 3
class_of NameTwice = 4
class_of Grouping = 5
class_of SecondPrimaryKey = 6
class_of TooLarge = 7
class_of why = 8

-- one refusal and what was found behind it: the later one is told only where its class is earlier
abbrev pub or_earlier : SqlState → Option SqlState → SqlState
or_earlier why None = why
or_earlier why (Some later) = if nat_lt (class_of later) (class_of why) then later else why

-- THE REFUSAL: of all that is wrong, in text order, the first of the earliest class
abbrev pub refusal_of : List SqlState → Option SqlState
refusal_of [] = None
refusal_of (why ∷ whys) = Some (or_earlier why (refusal_of whys))

-- the refusal of what was found so far, and then that of what comes behind it
abbrev pub kept_with : Option SqlState → Option SqlState → Option SqlState
kept_with None later = later
kept_with (Some why) later = Some (or_earlier why later)

-- the bound form, where nothing is wrong
abbrev pub given_unless : {X : Type 0} → Option SqlState → X → Result X SqlState
given_unless None x = Ok x
given_unless (Some why) x = Err why

-- The worked row of the format: (7, 'ab') in the columns INT, VARCHAR(4).
use Rattle.std.specs.Prelude.{false, pos, List, [], ◌∷◌}
use Rattle.dby_types.specs.declared.value.Ty.{Ty}
use Rattle.dby_types.specs.declared.value.Ty.TheVariants.{Int, Text as Chars}
use Rattle.dby_types.specs.declared.value.Value.{Value}
use Rattle.dby_types.specs.declared.value.Value.TheVariants.{Num, Text}
use Rattle.dby_types.specs.declared.definition.ColumnDef.{ColumnDef}

-- a column without a name that may be NULL
abbrev pub column_of : Ty → ColumnDef
column_of ty = record { name = []; ty = ty; not_null = false }

-- the columns INT, VARCHAR(4)
abbrev pub worked_columns : List ColumnDef
worked_columns = column_of Int ∷ column_of (Chars 4) ∷ []

-- the row (7, 'ab')
abbrev pub worked_row : List Value
worked_row = Num (pos 7) ∷ Text (97 ∷ 98 ∷ []) ∷ []

-- Which rows a table's columns take.
use Rattle.std.specs.Prelude.{List, [], ◌∷◌, Bool, true, false, ◌&&◌}
use Rattle.dby_types.specs.declared.definition.ColumnDef.{ColumnDef}
use Rattle.dby_types.specs.declared.value.Value.{Value}
use Rattle.value_compare.specs.Storing.{is_storable}

-- a value for each column, which it keeps as it is
abbrev pub fits_columns : List ColumnDef → List Value → Bool
fits_columns [] [] = true
fits_columns (c ∷ cs) (v ∷ vs) = is_storable c.ty v && fits_columns cs vs
fits_columns cs vs = false

-- Rows that stand for one: blanks at a text's end don't count, and NULL is as NULL.
use Rattle.std.specs.Prelude.{ℕ, Bool, true, false, ◌&&◌, ◌||◌, if◌then◌else◌, List, [], ◌∷◌, ◌++◌, map, slice_index_or}
use Rattle.std.specs.List.{fold}
use Rattle.dby_types.specs.declared.value.Value.{Value}
use Rattle.dby_types.specs.declared.value.Value.TheVariants.{Null}
use Rattle.sql_model.specs.Tuples.{Row}
use Rattle.value_compare.specs.Order.{same_value, trimmed}

-- the value at a place
abbrev pub value_at : ℕ → Row → Value
value_at n r = slice_index_or r n Null

abbrev pub same_row : Row → Row → Bool
same_row [] [] = true
same_row [] (b ∷ bs) = false
same_row (a ∷ as_) [] = false
same_row (a ∷ as_) (b ∷ bs) = same_value a b && same_row as_ bs

-- a row without its texts' trailing blanks
abbrev pub trimmed_row : Row → Row
trimmed_row r = map trimmed r

abbrev pub has_same : Row → List Row → Bool
has_same r [] = false
has_same r (s ∷ ss) = same_row r s || has_same r ss

-- a row behind those that are unlike it
abbrev pub with_row : List Row → Row → List Row
with_row seen r = if has_same r seen then seen else seen ++ r ∷ []

-- DISTINCT: the first of the rows that stand for one
abbrev pub distinct_rows : List Row → List Row
distinct_rows rows = fold with_row [] (map trimmed_row rows)

abbrev pub distinct_if : Bool → List Row → List Row
distinct_if true rows = distinct_rows rows
distinct_if false rows = rows

-- Words of the laws: rows that are unlike each other, and groups that are a division of rows.
use Rattle.std.specs.Prelude.{◌≡◌, ℕ, true, false, List, [], ◌∷◌, ◌++◌}
use Rattle.std.specs.List.Sorted.{IsPermutation}
use Rattle.sql_model.specs.Groups.{Group, key_of}
use Rattle.sql_model.specs.Rows.{same_row, trimmed_row, has_same}
use Rattle.sql_model.specs.Tuples.{Row}
use Rattle.table_model.specs.Tables.{Each}

-- a row that stands for none of these
abbrev pub IsUnlike : Row → List Row → Type 0
IsUnlike r [] = Unit {0}
IsUnlike r (s ∷ ss) = (same_row r s ≡ false) × IsUnlike r ss

-- no two rows stand for one
abbrev pub AreUnlike : List Row → Type 0
AreUnlike [] = Unit {0}
AreUnlike (r ∷ rs) = IsUnlike r rs × AreUnlike rs

-- ONE OF EACH: no two of these stand for one, and each of the rows stands for one of them
pub record HasOneOfEach (rows ones : List Row) : Type 0 where
  pub unlike : AreUnlike ones
  pub each : Each (λ (r : Row). has_same r ones ≡ true) rows

abbrev pub keys_in : List Group → List Row
keys_in [] = []
keys_in (g ∷ gs) = g.key ∷ keys_in gs

abbrev pub rows_in : List Group → List Row
rows_in [] = []
rows_in (g ∷ gs) = g.rows ++ rows_in gs

-- each row of a group has the group's key
abbrev pub HasKey : List ℕ → Group → Type 0
HasKey keys g = Each (λ (r : Row). same_row (key_of keys r) g.key ≡ true) g.rows

-- a key without its texts' trailing blanks
abbrev pub IsTrimmed : Row → Type 0
IsTrimmed r = trimmed_row r ≡ r

-- A DIVISION of rows: no two groups have one key, no key has trailing blanks, each row is in the group of its key, and none is lost or stands twice
pub record Divides (keys : List ℕ) (rows : List Row) (gs : List Group) : Type 0 where
  pub unlike : AreUnlike (keys_in gs)
  pub trimmed : Each IsTrimmed (keys_in gs)
  pub right : Each (HasKey keys) gs
  pub all : IsPermutation rows (rows_in gs)

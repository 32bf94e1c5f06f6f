-- Tuples of FROM: a row of each table.
use Rattle.std.specs.Prelude.{◌≡◌, ℕ, ◌+◌, Bool, true, false, ◌&&◌, if◌then◌else◌, List, [], ◌∷◌, ◌++◌, Some}
use Rattle.dby_types.specs.declared.answer.Component.{Component}
use Rattle.dby_types.specs.declared.value.Value.{Value}
use Rattle.table_model.specs.Tables.{Tables, is_same_rid}

abbrev pub Row : Type 0
Row = List Value

-- for each table of FROM, in order, a row with the place where it stands
abbrev pub Tuple : Type 0
Tuple = List Component

-- a fact of each component, which also names its table
abbrev pub EachOf : (ℕ → Component → Type 0) → List ℕ → Tuple → Type 0
EachOf P [] [] = Unit {0}
EachOf P [] (c ∷ cs) = ⊥
EachOf P (n ∷ ns) [] = ⊥
EachOf P (n ∷ ns) (c ∷ cs) = P n c × EachOf P ns cs

-- a row that stands in a table
abbrev pub StandsIn : Tables → ℕ → Component → Type 0
StandsIn tables n c = tables n c.rid ≡ Some c.row

-- A TUPLE OF THE PRODUCT of the tables of FROM
abbrev pub IsTuple : Tables → List ℕ → Tuple → Type 0
IsTuple tables from t = EachOf (StandsIn tables) from t

-- the tuple as one row: its rows put together in FROM order
abbrev pub row_of : Tuple → Row
row_of [] = []
row_of (c ∷ cs) = c.row ++ row_of cs

-- two tuples are at the same places
abbrev pub same_places : Tuple → Tuple → Bool
same_places [] [] = true
same_places [] (d ∷ ds) = false
same_places (c ∷ cs) [] = false
same_places (c ∷ cs) (d ∷ ds) = is_same_rid c.rid d.rid && same_places cs ds

-- how often a tuple stands in a list, by its places
abbrev pub times : Tuple → List Tuple → ℕ
times t [] = 0
times t (u ∷ us) = (if same_places t u then 1 else 0) + times t us

-- What an answer meets at its isolation level.
use Rattle.std.specs.Prelude.{◌≡◌, ◌≢◌, ◌+◌, ◌≤◌, ◌⊎◌, ℕ, List, [], ◌∷◌, ◌++◌, Option, Some, None, Bool, true, false, ◌&&◌, if◌then◌else◌, map}
use Rattle.dby_types.specs.declared.answer.Component.{Component}
use Rattle.dby_types.specs.declared.number.RowId.{RowId}
use Rattle.dby_types.specs.declared.state.SqlState.{SqlState}
use Rattle.dby_types.specs.declared.value.Value.{Value}
use Rattle.table_model.specs.Tables.{Tables, is_same_rid, Each}

-- what a condition says of a joined tuple
pub data Verdict : Type 0 where
  meets : Verdict
  fails : Verdict
  refuses : SqlState → Verdict

abbrev pub with_row : Option (List Value) → Option (List (List Value)) → Option (List (List Value))
with_row (Some row) (Some rows) = Some (row ∷ rows)
with_row (Some row) None = None
with_row None rows = None

-- the rows at these row ids of these tables, one of each, where all are there
abbrev pub rows_at : Tables → List ℕ → List RowId → Option (List (List Value))
rows_at tables [] [] = Some []
rows_at tables (n ∷ ns) (r ∷ rs) = with_row (tables n r) (rows_at tables ns rs)
rows_at tables ns rs = None

-- rows put together
abbrev pub together : List (List Value) → List Value
together [] = []
together (row ∷ rows) = row ++ together rows

-- the rows of a tuple put together, as they were read
abbrev pub row_of : List Component → List Value
row_of tuple = together (map (λ c. c.row) tuple)

-- a tuple has these row ids
abbrev pub has_ids : List RowId → List Component → Bool
has_ids [] [] = true
has_ids (r ∷ rs) (c ∷ cs) = is_same_rid r c.rid && has_ids rs cs
has_ids rs cs = false

-- how often a tuple of these row ids stands in a list
abbrev pub times : List RowId → List (List Component) → ℕ
times ids [] = 0
times ids (t ∷ ts) = (if has_ids ids t then 1 else 0) + times ids ts

-- each component of a tuple stood as it was read, at a place of the span of its own
abbrev pub Stood : (ℕ → Tables) → ℕ → ℕ → List ℕ → List Component → Type 0
Stood views from to [] [] = Unit {0}
Stood views from to (n ∷ ns) (c ∷ cs) =
    ((m : ℕ) × (from ≤ m) × (m ≤ to) × (views m n c.rid ≡ Some c.row)) × Stood views from to ns cs
Stood views from to ns cs = ⊥

-- these rows are there, and the same, at each place of the span
abbrev pub Stays : (ℕ → Tables) → ℕ → ℕ → List ℕ → List RowId → List (List Value) → Type 0
Stays views from to tables ids rows = (m : ℕ) → from ≤ m → m ≤ to → rows_at (views m) tables ids ≡ Some rows

-- one of the rows differs between two places of the span
abbrev pub Moved : (ℕ → Tables) → ℕ → ℕ → List ℕ → List RowId → Type 0
Moved views from to (n ∷ ns) (r ∷ rs) =
    ((m : ℕ) × (k : ℕ) × (from ≤ m) × (m ≤ to) × (from ≤ k) × (k ≤ to) × (views m n r ≢ views k n r)) ⊎ Moved views from to ns rs
Moved views from to ns rs = ⊥

-- READ COMMITTED: a joined list over these views of a span, of these tables in FROM order, under a condition
pub record ReadsCommitted (views : ℕ → Tables) (from to : ℕ) (tables : List ℕ) (judge : List Value → Verdict) (joined : List (List Component)) : Type 0 where
  pub stood : Each (Stood views from to tables) joined
  pub met : Each (λ t. judge (row_of t) ≡ meets) joined
  pub once : (ids : List RowId) (rows : List (List Value)) → Stays views from to tables ids rows → judge (together rows) ≡ meets → times ids joined ≡ 1
  pub quiet : (ids : List RowId) (rows : List (List Value)) (why : SqlState) → Stays views from to tables ids rows → judge (together rows) ≡ refuses why → ⊥
  pub twice : (ids : List RowId) → 2 ≤ times ids joined → Moved views from to tables ids

-- Places of a database, what stands at them, and changes of it.
use Rattle.std.specs.Prelude.{◌≡◌, ℕ, List, [], ◌∷◌, Option, Bool, ◌&&◌, ◌==◌, if◌then◌else◌}
use Rattle.std.specs.Str.{bytes_eq}
use Rattle.dby_types.specs.declared.number.RowId.{RowId}
use Rattle.dby_types.specs.declared.value.Value.{Value}
use Rattle.table_model.specs.Tables.{Tables}

-- A PLACE: a key in a container. A row's key is its row id, an entry's its full key; the container itself has no key
pub record Place : Type 0 where
  pub container : ℕ
  pub key : List ℕ

abbrev pub row_place : ℕ → RowId → Place
row_place table rid = record { container = table; key = rid.page ∷ rid.slot ∷ [] }

abbrev pub container_place : ℕ → Place
container_place n = record { container = n; key = [] }

abbrev pub is_same : Place → Place → Bool
is_same p q = (p.container == q.container) && bytes_eq p.key q.key

-- A DATABASE: what stands at each place. X is the type of what may stand at one, nothing among it: as `Option` of a row, None where it is marked or
-- isn't there
abbrev pub Database : Type 0 → Type 0
Database X = Place → X

abbrev pub Same : {X : Type 0} → Database X → Database X → Type 0
Same d e = (p : Place) → d p ≡ e p

abbrev pub put : {X : Type 0} → Database X → Place → X → Database X
put d p x = λ q. if is_same q p then x else d q

-- the tables of one where rows stand
abbrev pub tables_of : Database (Option (List Value)) → Tables
tables_of d = λ table rid. d (row_place table rid)

-- A CHANGE by a transaction: what stood at a place before it, and what stands after it
pub record Change (X : Type 0) : Type 0 where
  pub txn : ℕ
  pub place : Place
  pub before : X
  pub after : X

-- the change that takes it back
abbrev pub reversed : {X : Type 0} → Change X → Change X
reversed c = record { txn = c.txn; place = c.place; before = c.after; after = c.before }

-- with changes made, the last of the list first
abbrev pub laid_over : {X : Type 0} → List (Change X) → Database X → Database X
laid_over [] d = d
laid_over (c ∷ cs) d = put (laid_over cs d) c.place c.after

-- with changes taken back, the first of the list first
abbrev pub taken_back : {X : Type 0} → List (Change X) → Database X → Database X
taken_back [] d = d
taken_back (c ∷ cs) d = taken_back cs (put d c.place c.before)

-- after commits, the first of them first
abbrev pub after_commits : {X : Type 0} → Database X → List (List (Change X)) → Database X
after_commits base [] = base
after_commits base (cs ∷ css) = after_commits (laid_over cs base) css

-- What a log record is to transactions, and which changes of them stand.
use Rattle.std.specs.Prelude.{◌≡◌, ◌==◌, if◌then◌else◌, ℕ, List, [], ◌∷◌, Option, Some, None}
use Rattle.log_model.specs.Places.{Change}

-- A STEP of a log
pub data Step (X : Type 0) : Type 0 where
  -- of a row or an entry, or a container that is made or to be dropped
  change : Change X → Step X
  -- the change that takes another one back
  compensation : Change X → Step X
  commit : (txn : ℕ) → Step X
  rolled_back : (txn : ℕ) → Step X
  -- all else: a split, a page more, a purge, a checkpoint, a next segment
  silent : Step X

-- the step is of this transaction
abbrev pub IsOf : {X : Type 0} → ℕ → Step X → Type 0
IsOf t (change c) = c.txn ≡ t
IsOf t (compensation c) = c.txn ≡ t
IsOf t (commit u) = u ≡ t
IsOf t (rolled_back u) = u ≡ t
IsOf t silent = ⊥

-- of changes, those of a transaction
abbrev pub changes_of : {X : Type 0} → ℕ → List (Change X) → List (Change X)
changes_of t [] = []
changes_of t (c ∷ cs) = if c.txn == t then c ∷ changes_of t cs else changes_of t cs

-- those of all others
abbrev pub without : {X : Type 0} → ℕ → List (Change X) → List (Change X)
without t [] = []
without t (c ∷ cs) = if c.txn == t then without t cs else c ∷ without t cs

-- the newest of a transaction, which stands first
abbrev pub newest_of : {X : Type 0} → ℕ → List (Change X) → Option (Change X)
newest_of t [] = None
newest_of t (c ∷ cs) = if c.txn == t then Some c else newest_of t cs

-- all but that
abbrev pub without_newest : {X : Type 0} → ℕ → List (Change X) → List (Change X)
without_newest t [] = []
without_newest t (c ∷ cs) = if c.txn == t then cs else c ∷ without_newest t cs

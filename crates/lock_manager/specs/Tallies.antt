-- How many names of a transaction pass a test.
use Rattle.std.specs.Prelude.{◌≡◌, ◌≤◌, ◌<◌, ◌+◌, ◌^◌, ℕ, Bool, true, false, ◌&&◌, List, [], ◌∷◌, nat_eq, if◌then◌else◌}
use Rattle.std.specs.HashMap.{HashMap, get}
use Rattle.std.specs.Option.{unwrap_or}
use Rattle.lock_modes.specs.declared.modes.Modes.{Modes}
use Rattle.lock_modes.specs.declared.name.LockName.{LockName}
use Rattle.lock_modes.specs.Modes.{no_modes, is_held, writes, is_ranged}
use Rattle.lock_modes.specs.Names.{is_row_name}
use Rattle.lock_manager.specs.declared.tallies.Rows.{Rows}
use Rattle.lock_manager.specs.declared.tallies.Tallies.{Tallies}

abbrev pub one : Bool → ℕ
one true = 1
one false = 0

-- how many entries pass a test
abbrev pub count_of : (LockName → Modes → Bool) → List (LockName × Modes) → ℕ
count_of p [] = 0
count_of p (e ∷ es) = one (p e.0 e.1) + count_of p es

-- the tests: a name on which anything is held, one with a mode that also holds the gap, a row's of a table, one of these that is
-- to be changed
abbrev pub is_name : LockName → Modes → Bool
is_name n ms = is_held ms

abbrev pub is_ranged_name : LockName → Modes → Bool
is_ranged_name n ms = is_ranged ms

abbrev pub is_row_of : ℕ → LockName → Modes → Bool
is_row_of table n ms = is_row_name table n && is_held ms

abbrev pub is_ranged_of : ℕ → LockName → Modes → Bool
is_ranged_of table n ms = is_row_name table n && is_ranged ms

abbrev pub is_written_of : ℕ → LockName → Modes → Bool
is_written_of table n ms = is_row_name table n && writes ms

-- a test that a name without modes doesn't pass
abbrev pub IsQuiet : (LockName → Modes → Bool) → Type 0
IsQuiet p = (n : LockName) → p n no_modes ≡ false

abbrev pub no_rows : Rows
no_rows = record { names = 0; written = 0; ranged = 0 }

-- what is noted of a table
abbrev pub rows_at : {S : Type 0} → HashMap ℕ Rows S → ℕ → Rows
rows_at m k = unwrap_or (get nat_eq m k) no_rows

-- the tallies are those of the entries
pub record Counts (t : Tallies) (es : List (LockName × Modes)) : Type 0 where
  pub names : t.names ≡ count_of is_name es
  pub ranged : t.ranged ≡ count_of is_ranged_name es
  pub rows : (k : ℕ) → (rows_at t.tables k).names ≡ count_of (is_row_of k) es
  pub written : (k : ℕ) → (rows_at t.tables k).written ≡ count_of (is_written_of k) es
  pub ranged_rows : (k : ℕ) → (rows_at t.tables k).ranged ≡ count_of (is_ranged_of k) es

-- one name's modes changed, and every tally with them
abbrev pub Moves : List (LockName × Modes) → List (LockName × Modes) → LockName → Modes → Modes → Type 0
Moves es es' n was now = (p : LockName → Modes → Bool) → IsQuiet p → count_of p es' + one (p n was) ≡ count_of p es + one (p n now)

-- the rows' tallies allow that a name's modes are taken away, and one more
pub record CanTallyRows {S : Type 0} (m : HashMap ℕ Rows S) (n : LockName) (was : Modes) : Type 0 where
  pub rows : (k : ℕ) → one (is_row_of k n was) ≤ (rows_at m k).names
  pub written : (k : ℕ) → one (is_written_of k n was) ≤ (rows_at m k).written
  pub ranged : (k : ℕ) → one (is_ranged_of k n was) ≤ (rows_at m k).ranged
  pub ranged_small : (k : ℕ) → (rows_at m k).ranged < 2 ^ 63
  pub rows_small : (k : ℕ) → (rows_at m k).names < 2 ^ 63
  pub written_small : (k : ℕ) → (rows_at m k).written < 2 ^ 63

pub record CanTally (t : Tallies) (n : LockName) (was : Modes) : Type 0 where
  pub names : one (is_held was) ≤ t.names
  pub ranged : one (is_ranged was) ≤ t.ranged
  pub names_small : t.names < 2 ^ 63
  pub ranged_small : t.ranged < 2 ^ 63
  pub tables : CanTallyRows t.tables n was

-- the rows' tallies followed a change of one name's modes
pub record RowsTallied {S : Type 0} (m m' : HashMap ℕ Rows S) (n : LockName) (was now : Modes) : Type 0 where
  pub rows : (k : ℕ) → (rows_at m' k).names + one (is_row_of k n was) ≡ (rows_at m k).names + one (is_row_of k n now)
  pub written : (k : ℕ) → (rows_at m' k).written + one (is_written_of k n was) ≡ (rows_at m k).written + one (is_written_of k n now)
  pub ranged : (k : ℕ) → (rows_at m' k).ranged + one (is_ranged_of k n was) ≡ (rows_at m k).ranged + one (is_ranged_of k n now)

pub record IsTallied (t t' : Tallies) (n : LockName) (was now : Modes) : Type 0 where
  pub names : t'.names + one (is_held was) ≡ t.names + one (is_held now)
  pub ranged : t'.ranged + one (is_ranged was) ≡ t.ranged + one (is_ranged now)
  pub tables : RowsTallied t.tables t'.tables n was now

-- what was noted of a table is taken away
pub record IsDropped (t t' : Tallies) (table : ℕ) : Type 0 where
  pub names : t'.names + (rows_at t.tables table).names ≡ t.names
  pub ranged : t'.ranged + (rows_at t.tables table).ranged ≡ t.ranged
  pub tables : (k : ℕ) → rows_at t'.tables k ≡ (if nat_eq table k then no_rows else rows_at t.tables k)

-- The names of which something was given back, and the requests for all others, which still wait.
use Rattle.std.specs.Prelude.{◌≡◌, ◌≤◌, ◌<◌, ℕ, Bool, false, ◌||◌, List, [], ◌∷◌, ◌++◌, Option, Some, None, length}
use Rattle.std.specs.List.{slice_get}
use Rattle.lock_modes.specs.declared.entry.Request.{Request}
use Rattle.std.specs.Map.{lookup}
use Rattle.lock_modes.specs.declared.modes.Modes.{Modes}
use Rattle.lock_modes.specs.declared.name.LockName.{LockName}
use Rattle.lock_modes.specs.Lock.{Grants}
use Rattle.lock_modes.specs.Modes.{is_held}
use Rattle.lock_modes.specs.Names.{same_name, is_row_name}
use Rattle.lock_modes.specs.Waits.{IsBlocked}
use Rattle.lock_manager.specs.declared.freed.Freed.{Freed}
use Rattle.lock_manager.specs.declared.freed.Freed.TheVariants.{Name, Rows, All}
use Rattle.lock_manager.specs.Owners.{modes_of}

-- the name that was asked for
abbrev pub name_of : Option Request → Option LockName
name_of None = None
name_of (Some r) = Some r.name

abbrev pub asks : Option LockName → LockName → Bool
asks None n = false
asks (Some k) n = same_name k n

-- something was given back on a name, or no longer asked for
abbrev pub frees : Freed → LockName → Bool
frees (Name k) n = same_name k n
frees (Rows table) n = is_row_name table n
frees (All had asked) n = is_held (modes_of had n) || asks asked n

-- each request for a name that doesn't pass the test has somebody in its way
abbrev pub StillBlocked : (LockName → Bool) → Grants → List Request → List Request → Type 0
StillBlocked p g before [] = Unit {0}
StillBlocked p g before (r ∷ rs) = (p r.name ≡ false → IsBlocked g before r) × StillBlocked p g (before ++ r ∷ []) rs

-- from one place of a line up to another no request is for a name that passes the test
pub record Skips (p : LockName → Bool) (rs : List Request) (i j : ℕ) : Type 0 where
  pub from : i ≤ j
  pub within : j ≤ length rs
  pub none : (k : ℕ) → i ≤ k → k < j → (q : Request) → slice_get rs k ≡ Some q → p q.name ≡ false

-- between two places no request is for one of some names, but perhaps for those that are still to be asked about
abbrev pub SkipsNames : List (LockName × Modes) → List (LockName × Modes) → List Request → ℕ → ℕ → Type 0
SkipsNames es left rs i j = (k : ℕ) → i ≤ k → k < j → (q : Request) → slice_get rs k ≡ Some q → lookup (same_name q.name) es ≡ lookup (same_name q.name) left

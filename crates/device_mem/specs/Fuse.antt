-- A fuse of a disk.
use Rattle.std.specs.Prelude.{◌≡◌, ℕ, ◌-◌, Bool, true, false, List, Contains, Option, Some, None}
use Rattle.device.specs.Counts.{Rises}

-- no writing call is left
abbrev pub IsBlown : Option ℕ → Type 0
IsBlown None = ⊥
IsBlown (Some k) = k ≡ 0

-- a call passes that is neither behind the fuse nor listed by its number
abbrev pub Passes : Option ℕ → List ℕ → ℕ → Type 0
Passes fuse listed call = (IsBlown fuse → ⊥) × (Contains listed call → ⊥)

-- what a call leaves of the fuse: a writing call takes one away
abbrev pub burnt : Bool → Option ℕ → Option ℕ
burnt true (Some k) = Some (k - 1)
burnt true None = None
burnt false f = f

-- a call that passes leaves the count of failures; for any other it rises
abbrev pub PassesOrRises : Bool → ℕ → ℕ → Type 0
PassesOrRises true before now = now ≡ before
PassesOrRises false before now = Rises before now

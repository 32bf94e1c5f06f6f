-- Counts of faults, and what they show.
use Rattle.std.specs.Prelude.{◌≡◌, ◌<◌, ◌⊎◌, ◌^◌, ◌-◌, ℕ, Result, OnErr, OnOk}
use Rattle.device.specs.declared.Failed.{Failed}

-- the count rises; at the greatest number it stays, and is said to rise
abbrev pub Rises : ℕ → ℕ → Type 0
Rises before now = (before < now) ⊎ ((before ≡ 2 ^ 64 - 1) × (now ≡ before))

-- a call leaves the count where it answers Ok, and answers Failed only where the count rose
pub record HasCause {T : Type 0} (before now : ℕ) (result : Result T Failed) : Type 0 where
  pub ok : OnOk result (now ≡ before)
  pub failed : OnErr result (Rises before now)

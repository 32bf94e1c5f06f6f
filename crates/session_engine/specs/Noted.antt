-- The lock events of grants that came at one place.
use Rattle.std.specs.Prelude.{ℕ, List, map}
use Rattle.lock_modes.specs.declared.entry.Request.{Request}
use Rattle.lock_modes.specs.Serving.{grant_of}
use Rattle.session_model.specs.declared.journal.Locked.{Locked}

abbrev pub noted : ℕ → List Request → List Locked
noted place rs = map (λ r. record { place = place; event = grant_of r }) rs

-- The databases that a host has.
use Rattle.std.specs.Prelude.{◌≡◌, ℕ, List, [], ◌∷◌, ◌==◌, Option, Some, None, if◌then◌else◌}
use Rattle.std.specs.Cmp.Lexicographic.{pointwise}
use Rattle.device_mem.specs.declared.disk.MemDisk.{MemDisk}
use Rattle.device_mem.specs.declared.host.Database.{Database}
use Rattle.device_mem.specs.Images.{IsWell}

-- the first disk of this name
abbrev pub disk_of : List Database → List ℕ → Option MemDisk
disk_of [] name = None
disk_of (d ∷ ds) name = if pointwise (λ a b. a == b) d.name.items name then Some d.disk else disk_of ds name

-- a disk of which no call was made
abbrev pub IsNew : MemDisk → Type 0
IsNew d = (d.calls ≡ []) × IsWell d

-- The scripts that a host has.
use Rattle.std.specs.Prelude.{ℕ, List, [], ◌∷◌, ◌==◌, Option, Some, None, if◌then◌else◌}
use Rattle.std.specs.Cmp.Lexicographic.{pointwise}
use Rattle.device_mem.specs.declared.host.Script.{Script}

-- the bytes of the first script of this name
abbrev pub bytes_of : List Script → List ℕ → Option (List ℕ)
bytes_of [] name = None
bytes_of (s ∷ ss) name = if pointwise (λ a b. a == b) s.name.items name then Some s.bytes.items else bytes_of ss name

-- The bytes of a segment, where segments are kept by number.
use Rattle.std.specs.Prelude.{ℕ, List, [], Option, Some, None, nat_eq, Vec}
use Rattle.std.specs.HashMap.{get, HashMap}

-- what an entry has; none where there is no entry
abbrev pub entry_bytes : {Z : Type 0} → Option (Vec ℕ Z) → List ℕ
entry_bytes None = []
entry_bytes (Some v) = v.items

abbrev pub bytes_in : {Z H : Type 0} → HashMap ℕ (Vec ℕ Z) H → ℕ → List ℕ
bytes_in m s = entry_bytes (get nat_eq m s)

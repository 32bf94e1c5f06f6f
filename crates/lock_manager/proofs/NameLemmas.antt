-- Equality of names as the map tests it.
use Rattle.std.proofs.Common.{◌≡◌, refl}
use Rattle.std.specs.HashMap.{HashMap, get, get_by}
use Rattle.lock_modes.specs.declared.name.LockName.{LockName}
use Rattle.lock_modes.specs.declared.name.LockName.TheVariants.{Dictionary, Table, Row, First}
use Rattle.lock_modes.specs.Names.{same_name}
use Rattle.lock_modes.specs.contracts.name.LockNamePartialEq.TheImpl.{eq-value}

pub map_eq : (a b : LockName) → eq-value.it a b ≡ same_name a b
map_eq Dictionary Dictionary = refl
map_eq Dictionary (Table a) = refl
map_eq Dictionary (Row a r) = refl
map_eq Dictionary (First a i) = refl
map_eq (Table b) Dictionary = refl
map_eq (Table b) (Table a) = refl
map_eq (Table b) (Row a r) = refl
map_eq (Table b) (First a i) = refl
map_eq (Row b s) Dictionary = refl
map_eq (Row b s) (Table a) = refl
map_eq (Row b s) (Row a r) = refl
map_eq (Row b s) (First a i) = refl
map_eq (First b j) Dictionary = refl
map_eq (First b j) (Table a) = refl
map_eq (First b j) (Row a r) = refl
map_eq (First b j) (First a i) = refl

-- a look-up of the map is a look-up by name
pub get_same : {X S : Type 0} (m : HashMap LockName X S) (n : LockName) → get_by (eq-value.it n) m ≡ get_by (same_name n) m
get_same m n = λ i. get_by (λ k. map_eq n k i) m

pub get_path : {X S : Type 0} (m : HashMap LockName X S) (n : LockName) → get eq-value.it m n ≡ get same_name m n
get_path m n = get_same m n

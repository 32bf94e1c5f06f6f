-- The requests of a line, listed by name: a name's list stands in one map, each of its places an entry.
use Rattle.std.specs.Prelude.{◌≡◌, ◌≤◌, ◌<◌, ℕ, Bool, true, false, ◌&&◌, ◌||◌, not, suc, List, [], ◌∷◌, Option, Some, None, length, take}
use Rattle.std.specs.HashMap.{HashMap, get}
use Rattle.std.specs.List.{filter, list_any, slice_get}
use Rattle.lock_modes.specs.declared.entry.Request.{Request}
use Rattle.lock_modes.specs.declared.modes.Modes.{Modes}
use Rattle.lock_modes.specs.declared.name.LockName.{LockName}
use Rattle.dby_types.specs.declared.number.TxnNo.{TxnNo}
use Rattle.lock_modes.specs.Names.{same_name, same_txn}
use Rattle.lock_manager.specs.declared.places.Place.{Place}
use Rattle.lock_manager.specs.Places.{same_place, place}

-- the requests for a name, in their order
abbrev pub asks_for : LockName → List Request → List Request
asks_for n rs = filter (λ r. same_name r.name n) rs

-- somebody asks for a name
abbrev pub is_asked : LockName → List Request → Bool
is_asked n rs = list_any (λ r. same_name r.name n) rs

-- somebody asks for one of some names
abbrev pub asks_for_any : List Request → List (LockName × Modes) → Bool
asks_for_any rs [] = false
asks_for_any rs (e ∷ es) = is_asked e.0 rs || asks_for_any rs es

-- the request at a place of a name's list
abbrev pub asked_at : {S : Type 0} → HashMap Place Request S → LockName → ℕ → Option Request
asked_at m n i = get same_place m (place n i)

-- each name's list is the line's requests for it, in their order
abbrev pub IsByName : {S : Type 0} → HashMap Place Request S → List Request → Type 0
IsByName m rs = (n : LockName) (i : ℕ) → asked_at m n i ≡ slice_get (asks_for n rs) i

-- one request was taken out of a name's list, and those behind it moved up
pub record Closes {S : Type 0} (old new : HashMap Place Request S) (name : LockName) (first : ℕ) : Type 0 where
  pub others : (n : LockName) (i : ℕ) → same_name name n ≡ false → asked_at new n i ≡ asked_at old n i
  pub before : (i : ℕ) → i < first → asked_at new name i ≡ asked_at old name i
  pub behind : (i : ℕ) → first ≤ i → asked_at new name i ≡ asked_at old name (suc i)

-- how far those behind a place have moved up
pub record Closing {S : Type 0} (old new : HashMap Place Request S) (name : LockName) (first k : ℕ) : Type 0 where
  pub others : (n : LockName) (i : ℕ) → same_name name n ≡ false → asked_at new n i ≡ asked_at old n i
  pub before : (i : ℕ) → i < first → asked_at new name i ≡ asked_at old name i
  pub moved : (i : ℕ) → first ≤ i → i < k → asked_at new name i ≡ asked_at old name (suc i)
  pub ahead : (i : ℕ) → k ≤ i → asked_at new name i ≡ asked_at old name i

-- there is a request, and it is a transaction's
abbrev pub is_of : TxnNo → Option Request → Bool
is_of t None = false
is_of t (Some r) = same_txn r.txn t

-- no transaction has two requests in a line
abbrev pub is_apart : List Request → Bool
is_apart [] = true
is_apart (r ∷ rs) = not (list_any (λ q. same_txn q.txn r.txn) rs) && is_apart rs

-- how many requests for a name stand before a place
abbrev pub asked_before : LockName → List Request → ℕ → ℕ
asked_before n rs i = length (asks_for n (take i rs))

-- at a place of the line stands the request at a place of a name's list
pub record IsNumbered (n : LockName) (rs : List Request) (place number : ℕ) : Type 0 where
  pub before : asked_before n rs place ≡ number
  pub through : asked_before n rs (suc place) ≡ suc number
  pub within : place < length rs

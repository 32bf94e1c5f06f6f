-- Who is listed under each name: a name's list stands in one map, each of its places an entry.
use Rattle.std.specs.Prelude.{◌≡◌, ◌≤◌, ◌<◌, ℕ, Bool, true, false, ◌&&◌, ◌||◌, ◌==◌, zero, suc, Option, Some, None, if◌then◌else◌}
use Rattle.std.specs.HashMap.{HashMap, get}
use Rattle.std.specs.Option.{is_some}
use mathlib.Core.Bool.{Bool-set}
use Rattle.dby_types.specs.declared.number.TxnNo.{TxnNo}
use Rattle.lock_modes.specs.declared.name.LockName.{LockName}
use Rattle.lock_modes.specs.Modes.{is_held}
use Rattle.lock_modes.specs.Lock.{Grants}
use Rattle.lock_modes.specs.Names.{same_name, same_txn}
use Rattle.lock_manager.specs.declared.places.Place.{Place}

abbrev pub same_place : Place → Place → Bool
same_place a b = same_name a.name b.name && a.number == b.number

abbrev pub place : LockName → ℕ → Place
place n i = record { name = n; number = i }

-- who stands at a place of a name's list
abbrev pub holder_at : {S : Type 0} → HashMap Place TxnNo S → LockName → ℕ → Option TxnNo
holder_at m n i = get same_place m (place n i)

-- somebody stands there
abbrev pub is_taken : {S : Type 0} → HashMap Place TxnNo S → LockName → ℕ → Bool
is_taken m n i = is_some (holder_at m n i)

-- a list has no gap: behind a free place all are free
abbrev pub IsPacked : {S : Type 0} → HashMap Place TxnNo S → Type 0
IsPacked m = (n : LockName) (i j : ℕ) → i ≤ j → is_taken m n i ≡ false → is_taken m n j ≡ false

abbrev pub is_one : Option TxnNo → TxnNo → Bool
is_one None t = false
is_one (Some h) t = same_txn h t

-- whether a transaction stands at one of the first places of a name's list
abbrev pub is_seen : {S : Type 0} → HashMap Place TxnNo S → LockName → ℕ → TxnNo → Bool
is_seen m n zero t = false
is_seen m n (suc k) t = is_seen m n k t || is_one (holder_at m n k) t

-- a transaction stands at no place of a name's list
abbrev pub IsUnlisted : {S : Type 0} → HashMap Place TxnNo S → LockName → TxnNo → Type 0
IsUnlisted m n t = (i : ℕ) → is_one (holder_at m n i) t ≡ false

-- whoever isn't listed under a name has nothing on it
abbrev pub IsListed : {S : Type 0} → HashMap Place TxnNo S → Grants → Type 0
IsListed m g = (n : LockName) (t : TxnNo) → IsUnlisted m n t → is_held (g t n) ≡ false

-- both hold in one way at most
pub IsPacked-prop : {S : Type 0} (m : HashMap Place TxnNo S) → IsProp (IsPacked m)
IsPacked-prop m = λ x y. λ i n a b less free. Bool-set _ _ (x n a b less free) (y n a b less free) i

pub IsListed-prop : {S : Type 0} (m : HashMap Place TxnNo S) (g : Grants) → IsProp (IsListed m g)
IsListed-prop m g = λ x y. λ i n t none. Bool-set _ _ (x n t none) (y n t none) i

-- a transaction was listed under a name, and everybody who was listed still is
abbrev pub Lists : {S : Type 0} → HashMap Place TxnNo S → HashMap Place TxnNo S → LockName → TxnNo → Type 0
Lists old new n t = (k : LockName) (u : TxnNo) → IsUnlisted new k u → ((same_name n k && same_txn t u) ≡ false) × IsUnlisted old k u

-- everybody who was listed still is, but for a transaction on the names that pass a test
abbrev pub Unlists : {S : Type 0} → HashMap Place TxnNo S → HashMap Place TxnNo S → (LockName → Bool) → TxnNo → Type 0
Unlists old new test t = (k : LockName) (u : TxnNo) → (test k && same_txn t u) ≡ false → IsUnlisted new k u → IsUnlisted old k u

-- the last of a list was moved to another place, or dropped where it is the place itself
abbrev pub IsFilled : {S : Type 0} → HashMap Place TxnNo S → HashMap Place TxnNo S → LockName → ℕ → ℕ → Type 0
IsFilled old new n i last = (p : Place) → get same_place new p ≡
    (if same_place (place n last) p then None else if same_place (place n i) p then holder_at old n last else get same_place old p)

-- everybody below a place stands there, and nobody at it
pub record IsEnd {S : Type 0} (m : HashMap Place TxnNo S) (n : LockName) (k : ℕ) : Type 0 where
  pub free : is_taken m n k ≡ false
  pub taken : (i : ℕ) → i < k → is_taken m n i ≡ true

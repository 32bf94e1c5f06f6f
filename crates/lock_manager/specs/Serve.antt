-- What stands after the requests of one line were looked through.
use Rattle.std.specs.Prelude.{◌≡◌, ℕ, Bool, true, false, ◌&&◌, not, List, [], ◌∷◌, ◌++◌, length}
use Rattle.std.specs.List.{list_any}
use Rattle.dby_types.specs.declared.number.TxnNo.{TxnNo}
use Rattle.lock_modes.specs.declared.entry.Request.{Request}
use Rattle.lock_modes.specs.declared.name.LockName.{LockName}
use Rattle.lock_modes.specs.declared.mode.Mode.{Mode}
use Rattle.lock_modes.specs.Modes.{compatible}
use Rattle.lock_modes.specs.Names.{same_txn, same_name}
use Rattle.lock_modes.specs.Lock.{without_request}
use Rattle.lock_modes.specs.Serving.{Serves, granted_all}
use Rattle.lock_manager.specs.Freed.{StillBlocked}
use Rattle.lock_manager.specs.Owners.{Owners, grants_in, left_in, victim_in, waits_in, left_sum}

-- whether a transaction has a request among these
abbrev pub is_among : TxnNo → List Request → Bool
is_among t rs = list_any (λ q. same_txn q.txn t) rs

-- room is set aside for each of the requests, and no transaction has two
abbrev pub Waiters : Owners → List Request → Type 0
Waiters os [] = Unit {0}
Waiters os (r ∷ rs) = (waits_in os r.txn ≡ true) × (is_among r.txn rs ≡ false) × Waiters os rs

-- the records after the requests `woken` were granted
pub record Wakes (old new : Owners) (woken : List Request) : Type 0 where
  pub grants : (u : TxnNo) (n : LockName) → grants_in new u n ≡ granted_all (grants_in old) woken u n
  pub lefts : (u : TxnNo) → left_in new u ≡ left_in old u
  pub victims : (u : TxnNo) → victim_in new u ≡ victim_in old u
  pub waits : (u : TxnNo) → waits_in new u ≡ (waits_in old u && not (is_among u woken))
  pub total : left_sum new ≡ left_sum old

-- the line was served behind those in `before`, and what was granted was noted as given
pub record Served (old new : Owners) (before line line' given given' : List Request) : Type 0 where
  pub woken : List Request
  pub noted : given' ≡ given ++ woken
  pub order : Serves (grants_in old) before line woken line'
  pub wakes : Wakes old new woken
  pub waiters : Waiters new line'

-- how far the line was served, where requests for names that don't pass the test still wait
pub record Serving (p : LockName → Bool) (old new : Owners) (before line line' : List Request) (i : ℕ) (given given' : List Request) : Type 0 where
  pub left : List Request
  pub rest : List Request
  pub woken : List Request
  pub place : i ≡ length left
  pub line_is : line' ≡ left ++ rest
  pub noted : given' ≡ given ++ woken
  pub order : (w l : List Request) → Serves (grants_in new) (before ++ left) rest w l → Serves (grants_in old) before line (woken ++ w) (left ++ l)
  pub wakes : Wakes old new woken
  pub waiters : Waiters new (left ++ rest)
  pub still : (after : List Request) → StillBlocked p (grants_in old) before (line ++ after) → StillBlocked p (grants_in new) (before ++ left) (rest ++ after)

-- a list of requests without those that were granted
abbrev pub without_all : List Request → List Request → List Request
without_all [] rs = rs
without_all (w ∷ ws) rs = without_all ws (without_request w.txn w.name rs)

-- both lines were served, the conversions first
pub record ServedBoth (old new : Owners) (conversions requests conversions' requests' given given' : List Request) : Type 0 where
  pub woken : List Request
  pub noted : given' ≡ given ++ woken
  pub order : Serves (grants_in old) [] (conversions ++ requests) woken (conversions' ++ requests')
  pub wakes : Wakes old new woken
  pub waiters : Waiters new (conversions' ++ requests')
  pub conversions_are : without_all woken conversions ≡ conversions'
  pub requests_are : without_all woken requests ≡ requests'

-- a request on a name isn't compatible with a mode
abbrev pub contests : LockName → Mode → Request → Bool
contests n m q = same_name q.name n && not (compatible q.mode m)

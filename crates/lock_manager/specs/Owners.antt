-- The open transactions, as one table of grants.
use Rattle.std.specs.Prelude.{◌≡◌, ◌+◌, ℕ, Bool, false, List, [], ◌∷◌, Option, Some, None, if◌then◌else◌, ◌&&◌, not}
use Rattle.std.specs.Map.{lookup}
use Rattle.dby_types.specs.declared.number.TxnNo.{TxnNo}
use Rattle.lock_modes.specs.declared.modes.Modes.{Modes}
use Rattle.lock_modes.specs.declared.name.LockName.{LockName}
use Rattle.lock_modes.specs.Lock.{Grants}
use Rattle.lock_modes.specs.Modes.{no_modes}
use Rattle.lock_modes.specs.Names.{same_txn}
use Rattle.lock_manager.specs.declared.owner.Owner.{Owner}
use Rattle.lock_manager.specs.Holdings.{modes_in}
use Rattle.lock_manager.specs.Tallies.{one}

-- the records of the open transactions, each under its number
abbrev pub Owners : Type 0
Owners = List (TxnNo × Owner)

-- the record of a transaction
abbrev pub owner_of : Owners → TxnNo → Option Owner
owner_of os t = lookup (same_txn t) os

abbrev pub modes_of : Option Owner → LockName → Modes
modes_of None n = no_modes
modes_of (Some o) n = modes_in o.holdings n

-- what each transaction has on each name
abbrev pub grants_in : Owners → Grants
grants_in os = λ t n. modes_of (owner_of os t) n

abbrev pub left_of : Option Owner → ℕ
left_of None = 0
left_of (Some o) = o.left

-- how many names more a transaction may ask for
abbrev pub left_in : Owners → TxnNo → ℕ
left_in os t = left_of (owner_of os t)

abbrev pub victim_of : Option Owner → Bool
victim_of None = false
victim_of (Some o) = o.victim

abbrev pub victim_in : Owners → TxnNo → Bool
victim_in os t = victim_of (owner_of os t)

abbrev pub waits_of : Option Owner → Bool
waits_of None = false
waits_of (Some o) = o.waits

-- whether room was set aside for a request of the transaction
abbrev pub waits_in : Owners → TxnNo → Bool
waits_in os t = waits_of (owner_of os t)

-- for how many names more all transactions may ask
abbrev pub left_sum : Owners → ℕ
left_sum [] = 0
left_sum (e ∷ es) = e.1.left + left_sum es

-- how many names more a transaction may take, now or once it has waited
abbrev pub claim_in : Owners → TxnNo → ℕ
claim_in os t = left_in os t + one (waits_in os t)

-- how many names more all transactions may take
abbrev pub claims_sum : Owners → ℕ
claims_sum [] = 0
claims_sum (e ∷ es) = (e.1.left + one e.1.waits) + claims_sum es

-- one transaction's record was changed, and with it what it has
pub record Changes (old new : Owners) (t : TxnNo) (grants : Grants) : Type 0 where
  pub grants_are : (u : TxnNo) (n : LockName) → grants_in new u n ≡ grants u n
  pub others_left : (u : TxnNo) → same_txn t u ≡ false → left_in new u ≡ left_in old u
  pub others_wait : (u : TxnNo) → same_txn t u ≡ false → waits_in new u ≡ waits_in old u
  pub others_victims : (u : TxnNo) → same_txn t u ≡ false → victim_in new u ≡ victim_in old u
  pub total : left_sum new + left_in old t ≡ left_sum old + left_in new t
  pub claims : claims_sum new + claim_in old t ≡ claims_sum old + claim_in new t

-- one transaction's record is gone, and the others' stay
pub record IsGone (old new : Owners) (t : TxnNo) : Type 0 where
  pub lefts : (u : TxnNo) → left_in new u ≡ (if same_txn t u then 0 else left_in old u)
  pub waits : (u : TxnNo) → waits_in new u ≡ (not (same_txn t u) && waits_in old u)
  pub victims : (u : TxnNo) → victim_in new u ≡ (not (same_txn t u) && victim_in old u)

-- all that is told of the transactions stays
pub record IsSame (old new : Owners) : Type 0 where
  pub grants : (u : TxnNo) (n : LockName) → grants_in new u n ≡ grants_in old u n
  pub lefts : (u : TxnNo) → left_in new u ≡ left_in old u
  pub waits : (u : TxnNo) → waits_in new u ≡ waits_in old u
  pub victims : (u : TxnNo) → victim_in new u ≡ victim_in old u
  pub total : left_sum new ≡ left_sum old
  pub claims : claims_sum new ≡ claims_sum old

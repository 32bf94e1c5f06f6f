-- A search for a cycle of waits through a transaction.
use Rattle.std.specs.Prelude.{◌≡◌, ◌⊎◌, ◌≤◌, ◌<◌, ◌+◌, ◌-◌, ◌*◌, ℕ, Bool, true, false, ◌&&◌, ◌||◌, not, List, [], ◌∷◌, length, Option, Some, None}
use Rattle.std.specs.List.{list_any, IsDistinct}
use Rattle.dby_types.specs.declared.number.TxnNo.{TxnNo}
use Rattle.lock_modes.specs.declared.cycle.Edge.{Edge}
use Rattle.lock_modes.specs.declared.entry.Request.{Request}
use Rattle.lock_modes.specs.Lock.{Lock, queue}
use Rattle.lock_modes.specs.Names.{same_txn}
use Rattle.lock_modes.specs.Waits.{IsEdge, IsStanding, IsThrough, NoneIs, waits_for, waiting}
use Rattle.lock_manager.specs.Blocking.{is_above}
use Rattle.lock_manager.specs.Serve.{is_among}

-- a cycle through a transaction stands, and no chosen victim is in it
pub record IsCycleThrough (l : Lock) (t : TxnNo) (c : List Edge) : Type 0 where
  pub standing : IsStanding l c
  pub through : IsThrough t c
  pub unchosen : NoneIs l.victims c

-- no cycle through a transaction stands without a chosen victim in it
abbrev pub NoCycle : Lock → TxnNo → Type 0
NoCycle l t = (c : List Edge) → ¬ (IsCycleThrough l t c)

-- the search has come to a transaction
abbrev pub is_seen : TxnNo → List TxnNo → Bool
is_seen t seen = list_any (λ u. same_txn t u) seen

abbrev pub is_none : Option Request → Bool
is_none None = true
is_none (Some r) = false

-- a transaction of whom the search asks no more: it was chosen, waits for nothing, or was come to before
abbrev pub is_passed : Lock → List TxnNo → TxnNo → Bool
is_passed l seen h = l.victims h || (is_none (waiting l h) || is_seen h seen)

-- nor does it close a cycle
abbrev pub is_skipped : Lock → TxnNo → List TxnNo → TxnNo → Bool
is_skipped l t seen h = not (same_txn h t) && is_passed l seen h

-- what holds of each element
abbrev pub Each : {X : Type 0} → (X → Type 0) → List X → Type 0
Each P [] = Unit {0}
Each P (x ∷ xs) = P x × Each P xs

-- the edges lead from one transaction to another
abbrev pub IsPath : TxnNo → List Edge → TxnNo → Type 0
IsPath t [] node = t ≡ node
IsPath t (e ∷ es) node = (e.waiter ≡ t) × IsPath e.holder es node

-- everybody for whom a transaction waits, up to a number, is skipped
abbrev pub IsTried : Lock → TxnNo → List TxnNo → TxnNo → Option TxnNo → Type 0
IsTried l t seen s above = (h : TxnNo) → waits_for l s h ≡ true → is_above above h ≡ false → is_skipped l t seen h ≡ true

-- everybody for whom a transaction waits is skipped
abbrev pub IsClosed : Lock → TxnNo → List TxnNo → TxnNo → Type 0
IsClosed l t seen s = (h : TxnNo) → waits_for l s h ≡ true → is_skipped l t seen h ≡ true

-- a transaction waits in one of the edges
abbrev pub is_on : TxnNo → List Edge → Bool
is_on s path = list_any (λ e. same_txn e.waiter s) path

-- how far a search has come: by a path to a node, of which all up to a number were asked
pub record Searching (l : Lock) (t : TxnNo) (path : List Edge) (seen : List TxnNo) (node : TxnNo) (above : Option TxnNo) : Type 0 where
  pub path_is : IsPath t path node
  pub edges : Each (λ e. IsEdge l e) path
  pub path_unchosen : Each (λ e. l.victims e.waiter ≡ false) path
  pub unchosen : l.victims node ≡ false
  pub path_tried : Each (λ e. IsTried l t seen e.waiter (Some e.holder)) path
  pub tried : IsTried l t seen node above
  pub all_seen : (s : TxnNo) → is_seen s seen ≡ true → IsClosed l t seen s ⊎ ((s ≡ node) ⊎ (is_on s path ≡ true))
  pub start : is_seen t seen ≡ true
  pub waits : (s : TxnNo) → is_seen s seen ≡ true → is_among s (queue l) ≡ true
  pub apart : IsDistinct same_txn seen
  pub deep : length path < length seen
  pub few : length (queue l) ≤ 64

-- what is left of the numbers above one
abbrev pub room_above : Option TxnNo → ℕ
room_above None = 18446744073709551616
room_above (Some a) = 18446744073709551615 - a.0

-- what falls with each step: transactions not come to, then the path, then the numbers not asked
abbrev pub rank : List Edge → List TxnNo → Option TxnNo → ℕ
rank path seen above = ((64 - length seen) * 1217485108864830406722 + length path * 18446744073709551617) + room_above above

-- The least of those in the way of what a transaction waits for.
use Rattle.std.specs.Prelude.{◌≡◌, ◌<◌, Bool, true, false, ◌&&◌, if◌then◌else◌, List, [], ◌∷◌, Option, Some, None, nat_lt}
use Rattle.dby_types.specs.declared.number.TxnNo.{TxnNo}
use Rattle.lock_modes.specs.declared.cycle.Edge.{Edge}
use Rattle.lock_modes.specs.Lock.{Lock}
use Rattle.lock_modes.specs.Waits.{IsEdge, waits_for}

-- a number above a given one, where one is given
abbrev pub is_above : Option TxnNo → TxnNo → Bool
is_above None t = true
is_above (Some a) t = nat_lt a.0 t.0

-- a number below the best so far, where there is one
abbrev pub is_below : Option TxnNo → TxnNo → Bool
is_below None t = true
is_below (Some b) t = nat_lt t.0 b.0

-- the best after one more was looked at
abbrev pub better : Option TxnNo → Option TxnNo → Bool → TxnNo → Option TxnNo
better above best passes t = if passes && (is_above above t && is_below best t) then Some t else best

-- the best after all of a list were looked at
abbrev pub least_by : {X : Type 0} → (X → Bool) → (X → TxnNo) → Option TxnNo → Option TxnNo → List X → Option TxnNo
least_by test number above best [] = best
least_by test number above best (x ∷ xs) = least_by test number above (better above best (test x) (number x)) xs

-- the least number above a given one that passes a test
abbrev pub IsLeast : (TxnNo → Bool) → Option TxnNo → Option TxnNo → Type 0
IsLeast p above None = (h : TxnNo) → is_above above h ≡ true → p h ≡ false
IsLeast p above (Some b) = (p b ≡ true) × (is_above above b ≡ true) × ((h : TxnNo) → is_above above h ≡ true → h.0 < b.0 → p h ≡ false)

-- an edge from a transaction to the least above a given one for which it waits
pub record IsBlocker (l : Lock) (t : TxnNo) (above : Option TxnNo) (e : Edge) : Type 0 where
  pub edge : IsEdge l e
  pub waiter : e.waiter ≡ t
  pub above_it : is_above above e.holder ≡ true
  pub least : (h : TxnNo) → is_above above h ≡ true → h.0 < e.holder.0 → waits_for l t h ≡ false

-- a transaction waits for nobody above a given number
abbrev pub IsUnblocked : Lock → TxnNo → Option TxnNo → Type 0
IsUnblocked l t above = (h : TxnNo) → is_above above h ≡ true → waits_for l t h ≡ false

-- The open transactions, as a function from numbers to changes.
use Rattle.std.specs.Prelude.{◌≡◌, ℕ, List, [], ◌∷◌, reverse, Option, Some, None, ◌==◌}
use Rattle.std.specs.Map.{lookup}
use Rattle.dby_types.specs.declared.number.TxnNo.{TxnNo}
use Rattle.list_store.specs.declared.begun.Open.{Open}
use Rattle.store_api.specs.declared.slot.Item.{Item}
use Rattle.store_api.specs.View.{at_number, changes_in}

-- the record of an open transaction
abbrev pub begun_in : List (TxnNo × Open) → ℕ → Option Open
begun_in begun t = lookup (λ u. t == u.0) begun

-- an open transaction's changes, the newest first
abbrev pub newest_first : Option Open → Option (List Item)
newest_first None = None
newest_first (Some o) = Some (reverse o.items.items)

abbrev pub changes_of : List (TxnNo × Open) → ℕ → Option (List Item)
changes_of begun t = newest_first (begun_in begun t)

-- the changes of one transaction are others, and those of the rest stay
abbrev pub Becomes : List (TxnNo × Open) → List (TxnNo × Open) → ℕ → Option (List Item) → Type 0
Becomes old new t items = (u : ℕ) → changes_of new u ≡ at_number (changes_of old) t items u

abbrev pub IsSame : List (TxnNo × Open) → List (TxnNo × Open) → Type 0
IsSame old new = (u : ℕ) → changes_of new u ≡ changes_of old u

abbrev pub Opens : List (TxnNo × Open) → List (TxnNo × Open) → ℕ → Type 0
Opens old new t = Becomes old new t (Some [])

abbrev pub Closes : List (TxnNo × Open) → List (TxnNo × Open) → ℕ → Type 0
Closes old new t = Becomes old new t None

abbrev pub Pushes : List (TxnNo × Open) → List (TxnNo × Open) → ℕ → Item → Type 0
Pushes old new t item = Becomes old new t (Some (item ∷ changes_in (changes_of old t)))

abbrev pub StartsWith : Item → List Item → Type 0
StartsWith item items = (rest : List Item) × (items ≡ item ∷ rest)

-- the newest change was taken away
pub record Pops (old new : List (TxnNo × Open)) (t : ℕ) (item : Item) : Type 0 where
  pub rest : List Item
  pub was : changes_of old t ≡ Some (item ∷ rest)
  pub is : Becomes old new t (Some rest)

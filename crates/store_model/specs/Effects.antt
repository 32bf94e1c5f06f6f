-- Steps of a log, for what a store's contract says of its calls.
use Rattle.std.specs.Prelude.{◌≡◌, ℕ, List, [], ◌∷◌, None, Some}
use Rattle.dby_types.specs.declared.number.RowId.{RowId}
use Rattle.log_model.specs.Places.{Change, row_place, container_place}
use Rattle.log_model.specs.States.{State}
use Rattle.store_api.specs.declared.slot.Slot.{Slot}
use Rattle.store_api.specs.declared.slot.Item.{Item}
use Rattle.store_api.specs.declared.slot.Item.TheVariants.{Changed, Created, Discarded}
use Rattle.store_api.specs.View.{Content, Heaps, live}
use Rattle.store_model.specs.Nets.{Row}

-- the change of a row to what a slot has
abbrev pub row_change : Content → ℕ → ℕ → RowId → Slot → Change Row
row_change d t table rid slot = record { txn = t; place = row_place table rid; before = live (d.heaps table rid); after = live (Some slot) }

-- what stands at the place of a container that was made
abbrev pub made : Row
made = Some []

-- the change of a container, which is made or given up
abbrev pub container_change : State Row → ℕ → ℕ → Row → Change Row
container_change s t n after = record { txn = t; place = container_place n; before = s.shown (container_place n); after = after }

-- no live row stands in a container that is given up
abbrev pub AreEmptied : Heaps → List Item → Type 0
AreEmptied heaps [] = Unit {0}
AreEmptied heaps (Changed table rid before ∷ items) = AreEmptied heaps items
AreEmptied heaps (Created n ∷ items) = AreEmptied heaps items
AreEmptied heaps (Discarded n ∷ items) = ((rid : RowId) → live (heaps n rid) ≡ None) × AreEmptied heaps items

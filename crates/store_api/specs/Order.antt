-- The order of row ids, by which heaps are read.
use Rattle.std.specs.Prelude.{◌≡◌, ℕ, Option, Some, None, Bool, true, ◌&&◌, ◌||◌, ◌==◌, nat_lt}
use Rattle.dby_types.specs.declared.number.RowId.{RowId}
use Rattle.store_api.specs.declared.places.At.{At}
use Rattle.store_api.specs.declared.places.At.TheVariants as at
use Rattle.store_api.specs.declared.slot.Slot.{Slot}
use Rattle.store_api.specs.declared.places.Place.{Place}
use Rattle.store_api.specs.View.{Heaps}

-- by page, then by slot
abbrev pub rid_lt : RowId → RowId → Bool
rid_lt a b = nat_lt a.page b.page || (a.page == b.page && nat_lt a.slot b.slot)

-- behind a row id, or anywhere
abbrev pub is_behind : Option RowId → RowId → Bool
is_behind None r = true
is_behind (Some after) r = rid_lt after r

-- before a row id, or anywhere
abbrev pub is_before : RowId → Option RowId → Bool
is_before r None = true
is_before r (Some end) = rid_lt r end

abbrev pub StandsBehind : Heaps → ℕ → Option RowId → Option RowId → Type 0
StandsBehind heaps table after None = Unit {0}
StandsBehind heaps table after (Some rid) = (slot : Slot) × (heaps table rid ≡ Some slot) × (is_behind after rid ≡ true)

-- the first row of a heap behind a row id, live or marked; or the end, where there is none
pub record IsFirstBehind (heaps : Heaps) (table : ℕ) (after found : Option RowId) : Type 0 where
  pub there : StandsBehind heaps table after found
  pub first : (r : RowId) → is_behind after r ≡ true → is_before r found ≡ true → heaps table r ≡ None

-- what stands at a row id
abbrev pub at_slot : RowId → Option Slot → At
at_slot rid None = at.End
at_slot rid (Some s) = at.Row rid s.marked

-- what stands at a place
abbrev pub at_place : Heaps → ℕ → Option RowId → At
at_place heaps table None = at.End
at_place heaps table (Some rid) = at_slot rid (heaps table rid)

abbrev pub shown_at : Heaps → Option Place → Option At
shown_at heaps None = None
shown_at heaps (Some p) = Some (at_place heaps p.table p.at)

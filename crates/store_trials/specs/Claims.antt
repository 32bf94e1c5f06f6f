-- Rows that other open transactions have changed, as a caller keeps them.
use Rattle.std.specs.Prelude.{⊤, ◌≡◌, ◌≢◌, ℕ, List, [], ◌∷◌, Bool, true, false, ◌&&◌, ◌||◌, ◌==◌, Some, None}
use Rattle.dby_types.specs.declared.number.RowId.{RowId}
use Rattle.dby_types.specs.declared.value.Value.{Value}
use Rattle.store_api.specs.declared.slot.Item.{Item}
use Rattle.store_api.specs.declared.slot.Item.TheVariants.{Changed, Created, Discarded}
use Rattle.store_api.specs.declared.answers.StoreAnswer.{StoreAnswer}
use Rattle.store_api.specs.declared.answers.StoreAnswer.TheVariants.{Failed, Damaged, Full, Memory}
use Rattle.store_api.specs.Effects.{with_slot, slot_of}
use Rattle.store_api.specs.Frames.{Spends}
use Rattle.store_api.specs.View.{View, Content, changes_in}
use Rattle.table_model.specs.Tables.{is_same_rid, Each}
use Rattle.store_trials.specs.declared.claims.Claim.{Claim}
use Rattle.store_trials.specs.declared.claims.Written.{Written}
use Rattle.store_trials.specs.declared.claims.Written.TheVariants as written

abbrev pub is_of : ℕ → RowId → Claim → Bool
is_of table rid c = (c.table == table) && is_same_rid c.rid rid

-- one of the claims is of this row
abbrev pub is_claimed : List Claim → ℕ → RowId → Bool
is_claimed [] table rid = false
is_claimed (c ∷ cs) table rid = is_of table rid c || is_claimed cs table rid

abbrev pub IsListed : List Claim → Item → Type 0
IsListed claims (Changed table rid before) = is_claimed claims table rid ≡ true
IsListed claims (Created n) = ⊤
IsListed claims (Discarded n) = ⊤

-- each row that another open transaction has changed is claimed
abbrev pub AreListed : View → ℕ → List Claim → Type 0
AreListed v t claims = (u : ℕ) → u ≢ t → Each (IsListed claims) (changes_in (v.content.changes u))

-- why it wasn't: the store keeps that answer, or counts it, or memory was wanting
abbrev pub Refuses : View → View → StoreAnswer → Type 0
Refuses old new Failed = new.meters.keeps ≡ Some Failed
Refuses old new (Damaged d) = new.meters.keeps ≡ Some (Damaged d)
Refuses old new (Full state) = Spends state old.meters new.meters
Refuses old new Memory = new.meters ≡ old.meters

-- WHAT BECAME OF A ROW that was to be written
abbrev pub Ends : ℕ → ℕ → RowId → List Value → List Claim → Content → Content → Written → Type 0
Ends t table rid row claims old new written.Done = new ≡ with_slot old t table rid (slot_of row false)
Ends t table rid row claims old new written.Claimed = (new ≡ old) × (is_claimed claims table rid ≡ true)
Ends t table rid row claims old new written.Absent = (new ≡ old) × (old.heaps table rid ≡ None)
Ends t table rid row claims old new (written.Held b) = new ≡ old

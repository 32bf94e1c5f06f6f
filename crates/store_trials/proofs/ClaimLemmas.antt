-- A row that isn't claimed is one that nobody else has changed.
use Rattle.std.proofs.Common.{◌≡◌, ◌≢◌, ℕ, List, [], ◌∷◌, sym, ap, subst, ◌∙◌, true, false, Bool, Some, None, inl, inr}
use Rattle.dby_types.specs.declared.number.RowId.{RowId}
use Rattle.dby_types.specs.declared.value.Value.{Value}
use Rattle.store_api.specs.declared.answers.RowRead.{RowRead}
use Rattle.store_api.specs.declared.answers.RowRead.TheVariants as read
use Rattle.store_api.specs.declared.slot.Item.{Item}
use Rattle.store_api.specs.declared.slot.Item.TheVariants.{Changed, Created, Discarded}
use Rattle.store_api.specs.declared.slot.Slot.{Slot}
use Rattle.store_api.specs.Effects.{IsOpen, IsElsewhere, IsFreeFor, MayChange, Reads, slot_of}
use Rattle.store_api.specs.declared.answers.StoreAnswer.{StoreAnswer}
use Rattle.store_api.specs.declared.answers.StoreAnswer.TheVariants.{Failed, Damaged, Full, Memory}
use Rattle.store_api.specs.Frames.{HasCause, Spends}
use Rattle.store_api.specs.View.{View, Content, Meters, changes_in}
use Rattle.dby_types.specs.declared.number.Damage.{Damage}
use Rattle.dby_types.specs.declared.state.SqlState.{SqlState}
use Rattle.table_model.specs.Tables.{Each}
use Rattle.store_trials.specs.declared.claims.Claim.{Claim}
use Rattle.store_trials.specs.Claims.{is_claimed, IsListed, AreListed, Refuses}

elsewhere : (claims : List Claim) (table : ℕ) (rid : RowId) → is_claimed claims table rid ≡ false → (items : List Item) → Each (IsListed claims) items → Each (IsElsewhere table rid) items
elsewhere claims table rid none [] listed = tt
elsewhere claims table rid none (Changed t r before ∷ items) listed = (
  λ p q. differ (sym (ap (λ n. is_claimed claims n r) p ∙ ap (is_claimed claims table) q ∙ none) ∙ listed.0),
  elsewhere claims table rid none items listed.1,
)
  where
    differ : false ≡ true → ⊥
    differ e = cc
elsewhere claims table rid none (Created n ∷ items) listed = (tt, elsewhere claims table rid none items listed.1)
elsewhere claims table rid none (Discarded n ∷ items) listed = (tt, elsewhere claims table rid none items listed.1)

pub is_free : (v : View) (t table : ℕ) (rid : RowId) (claims : List Claim) → AreListed v t claims → is_claimed claims table rid ≡ false → IsFreeFor v t table rid
is_free v t table rid claims listed none u ne = elsewhere claims table rid none (changes_in (v.content.changes u)) (listed u ne)

-- why a call refused, and why the one after it
pub refuses : (memory : Type 0) (full : SqlState → Type 0) (damaged : Damage → Type 0) (left : Content) (v w : View) (e : StoreAnswer) → HasCause memory full damaged left v w e → Refuses v w e
refuses memory full damaged left v w Failed cause = elim cause.0 [
  | inl kept ↦ ap (λ (m : Meters). m.keeps) kept.meters_same ∙ kept.kept
  | inr fails ↦ ap (λ (m : Meters). m.keeps) fails.meters_are
]
refuses memory full damaged left v w (Damaged d) cause = elim cause.0 [
  | inl kept ↦ ap (λ (m : Meters). m.keeps) kept.meters_same ∙ kept.kept
  | inr shows ↦ ap (λ (m : Meters). m.keeps) shows.1.meters_are
]
refuses memory full damaged left v w (Full state) cause = cause.1.counted
refuses memory full damaged left v w Memory cause = cause.1.meters_same

pub refuses_after : (v u w : View) (e : StoreAnswer) → u.meters ≡ v.meters → Refuses u w e → Refuses v w e
refuses_after v u w Failed same why = why
refuses_after v u w (Damaged d) same why = why
refuses_after v u w (Full state) same why = subst (λ (m : Meters). Spends state m w.meters) same why
refuses_after v u w Memory same why = why ∙ same

-- a row that was read may be written over
pub may_change : (v w : View) (a t table : ℕ) (rid : RowId) (r : RowRead) (row : List Value) (marked : Bool) (claims : List Claim) → IsOpen v t → AreListed v t claims → is_claimed claims table rid ≡ false
    → w.content ≡ v.content → r ≡ read.Row row marked → Reads a table rid v w r → MayChange w a t table rid
may_change v w a t table rid r row marked claims begun listed none same is reads =
    let read = subst (Reads a table rid v w) is reads in
    record {
      begun = subst (λ (d : Content). d.changes t ≢ None) (sym same) begun;
      held = read.1.held;
      there = λ e. stands (slot_of row marked) (sym read.0 ∙ sym (ap (λ (d : Content). d.heaps table rid) same) ∙ e);
      free = λ u ne. subst (λ (d : Content). Each (IsElsewhere table rid) (changes_in (d.changes u))) (sym same) (is_free v t table rid claims listed none u ne);
    }
  where
    stands : (slot : Slot) → Some slot ≡ None → ⊥
    stands slot e = cc

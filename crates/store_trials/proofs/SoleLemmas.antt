-- One actor alone with one transaction.
use Rattle.std.proofs.Common.{◌≡◌, ◌≢◌, ◌<◌, ◌≤◌, ◌+◌, ◌*◌, ◌-◌, ℕ, List, [], ◌∷◌, length, Option, Some, None, refl, sym, ◌∙◌, ap, subst, arith, inl, inr, true, false, Bool}
use Rattle.std.specs.Bool.{OnTrue}
use Rattle.std.proofs.lemmas.Bool.{cases_eq}
use Rattle.std.proofs.lemmas.Bool.Decides.{nat_tests}
use Rattle.dby_types.specs.declared.number.RowId.{RowId}
use Rattle.dby_types.specs.declared.value.Value.{Value}
use Rattle.store_api.specs.declared.slot.Item.{Item}
use Rattle.store_api.specs.declared.slot.Item.TheVariants.{Created}
use Rattle.store_api.specs.declared.slot.Slot.{Slot}
use Rattle.store_api.specs.Effects.{slot_of, with_item, FitsTable, MayChange, IsElsewhere, IsOutside, IsAtRow, Undoes, Creates, Reads, Fixes, GoesOn}
use Rattle.dby_types.specs.declared.number.Damage.{Damage}
use Rattle.dby_types.specs.declared.state.SqlState.{SqlState}
use Rattle.store_api.specs.Frames.{HasCause}
use Rattle.store_api.specs.declared.answers.StoreAnswer.{StoreAnswer}
use Rattle.store_api.specs.declared.answers.StoreAnswer.TheVariants.{Failed, Damaged, Full, Memory}
use Rattle.store_api.specs.Catalog.{columns_of_tables, catalog_columns}
use Rattle.store_api.specs.Order.{shown_at, at_place}
use Rattle.store_api.specs.declared.places.Place.{Place}
use Rattle.store_api.specs.declared.places.At.TheVariants as at
use Rattle.store_api.specs.declared.answers.Undo.{Undo}
use Rattle.store_api.specs.declared.answers.Undo.TheVariants as undo
use Rattle.store_api.specs.declared.answers.RowRead.{RowRead}
use Rattle.store_api.specs.declared.answers.RowRead.TheVariants as read
use Rattle.store_api.specs.declared.answers.Made.{Made}
use Rattle.store_api.specs.declared.answers.Made.TheVariants as made
use Rattle.store_api.specs.View.{View, Content, Heaps, IsSound, at_number, FewerThan, MayHold, MayBegin, changes_in}
use Rattle.table_model.specs.Tables.{Each}
use Rattle.table_model.specs.Fitting.{fits_columns}
use Rattle.store_trials.specs.Sole.{IsIdle, IsSole, IsWithin, IsIdleStill, IsSoleStill}
use Rattle.store_trials.specs.Sent.{IsOver}

at_here : {X : Type 0} (f : ℕ → X) (n : ℕ) (x : X) → at_number f n x n ≡ x
at_here f n x = grind (arith, nat_tests)

at_away : {X : Type 0} (f : ℕ → X) (n : ℕ) (x : X) (m : ℕ) → m ≢ n → at_number f n x m ≡ f m
at_away f n x m ne = grind (arith, nat_tests)

few : (bound : ℕ) (P : ℕ → Type 0) → 2 ≤ bound → ((n : ℕ) → P n → ⊥) → FewerThan bound P
few bound P le none [] d e = omega (arith, le)
few bound P le none (n ∷ ns) d e = absurd (none n e.0)

pub may_hold : (v : View) (t : ℕ) → IsSound v → IsSole v t → MayHold v 1
may_hold v t sound sole = few v.limit _ sound.limit.0 (λ b p. p.1 (sole.others b p.0))

pub may_begin : (v : View) → IsSound v → IsIdle v → MayBegin v
may_begin v sound idle = few v.limit _ sound.limit.0 (λ u begun. begun (idle.none_open u))

-- THE END OF A LOOP over answers Onward: what is left of the turns that the pages allow
abbrev pub turns_left : View → ℕ → ℕ
turns_left v most = 5 * most + 16 - (v.pages + (v.actors 1).turns)

pub fewer_left : (v w : View) (most : ℕ) → GoesOn 1 v w → v.pages ≤ w.pages → IsWithin w most → turns_left w most < turns_left v most
fewer_left v w most goes more within = omega (arith, goes, more, within)

-- after a call that leaves the changes, the columns of table 1 and what others hold
pub stays_sole : (v w : View) (t : ℕ) → IsSole v t → w.content.changes ≡ v.content.changes → w.content.columns ≡ v.content.columns → ((b : ℕ) → b ≢ 1 → w.actors b ≡ v.actors b) → IsSole w t
stays_sole v w t sole changes columns others = record {
  begun = subst (λ (f : ℕ → Option (List Item)). f t ≢ None) (sym changes) sole.begun;
  only = λ u ne. ap (λ (f : ℕ → Option (List Item)). f u) changes ∙ sole.only u ne;
  others = λ b ne. ap (λ h. h.pages) (others b ne) ∙ sole.others b ne;
  described = ap (λ f. f 1) columns ∙ sole.described;
}

-- and after one that gives its transaction other changes
pub goes_sole : (v w : View) (t : ℕ) (items : List Item) → IsSole v t → w.content.changes ≡ at_number v.content.changes t (Some items) → w.content.columns 1 ≡ v.content.columns 1
    → ((b : ℕ) → b ≢ 1 → w.actors b ≡ v.actors b) → IsSole w t
goes_sole v w t items sole changes columns others = record {
  begun = λ none. some_none items (sym (at_here v.content.changes t (Some items)) ∙ sym (ap (λ (f : ℕ → Option (List Item)). f t) changes) ∙ none);
  only = λ u ne. ap (λ (f : ℕ → Option (List Item)). f u) changes ∙ at_away v.content.changes t (Some items) u ne ∙ sole.only u ne;
  others = λ b ne. ap (λ h. h.pages) (others b ne) ∙ sole.others b ne;
  described = columns ∙ sole.described;
}
  where
    some_none : (items : List Item) → Some items ≡ None → ⊥
    some_none items e = cc

-- a transaction that was opened is sole
pub opened : (v w : View) (t : ℕ) → IsIdle v → w.content ≡ record v.content { changes = at_number v.content.changes t (Some []); next_txn = t + 1 } → ((b : ℕ) → w.actors b ≡ v.actors b) → IsSole w t
opened v w t idle stored everyone = record {
  begun = λ none. none_at [] (sym (at_here v.content.changes t (Some [])) ∙ sym (ap (λ (d : Content). d.changes t) stored) ∙ none);
  only = λ u ne. ap (λ (d : Content). d.changes u) stored ∙ at_away v.content.changes t (Some []) u ne ∙ idle.none_open u;
  others = λ b ne. ap (λ h. h.pages) (everyone b) ∙ idle.none_holds b;
  described = ap (λ (d : Content). d.columns 1) stored ∙ idle.described;
}
  where
    none_at : (items : List Item) → Some items ≡ None → ⊥
    none_at items e = cc

pub is_described : (v : View) (t : ℕ) → IsSole v t → v.content.columns 1 ≢ None
is_described v t sole none = differ (sym sole.described ∙ none)
  where
    differ : Some columns_of_tables ≡ None → ⊥
    differ e = cc

pub same_content_sole : (v w : View) (t : ℕ) → IsSole v t → w.content ≡ v.content → ((b : ℕ) → b ≢ 1 → w.actors b ≡ v.actors b) → IsSole w t
same_content_sole v w t sole same others = stays_sole v w t sole (ap (λ (d : Content). d.changes) same) (ap (λ (d : Content). d.columns) same) others

-- after a change of its transaction
pub item_sole : (v w : View) (t : ℕ) (item : Item) (heaps : Heaps) → IsSole v t → w.content ≡ record (with_item v.content t item) { heaps = heaps } → ((b : ℕ) → b ≢ 1 → w.actors b ≡ v.actors b) → IsSole w t
item_sole v w t item heaps sole stored others =
    goes_sole v w t (item ∷ changes_in (v.content.changes t)) sole (ap (λ (d : Content). d.changes) stored) (ap (λ (d : Content). d.columns 1) stored) others

pub fits_sole : (v : View) (t : ℕ) (row : List Value) → IsSole v t → fits_columns columns_of_tables row ≡ true → FitsTable v 1 row
fits_sole v t row sole fits = (columns_of_tables, sole.described, fits)

pub sole_change : (v : View) (t : ℕ) (rid : RowId) → IsSole v t → (v.actors 1).holds 1 rid ≡ true → v.content.heaps 1 rid ≢ None → MayChange v 1 t 1 rid
sole_change v t rid sole held there = record {
  begun = sole.begun;
  held = held;
  there = there;
  free = λ u ne. subst (λ x. Each (IsElsewhere 1 rid) (changes_in x)) (sym (sole.only u ne)) tt;
}

-- what stands isn't nothing
pub stands : (heaps : Heaps) (rid : RowId) (slot : Slot) (content : Content) → content.heaps 1 rid ≡ Some slot → content.heaps 1 rid ≢ None
stands heaps rid slot content is none = differ slot (sym is ∙ none)
  where
    differ : (slot : Slot) → Some slot ≡ None → ⊥
    differ slot e = cc

-- a container taken back or made leaves table 1 described
catalog_stays : (v : View) (t c : ℕ) → IsSole v t → at_number v.content.columns c (catalog_columns c) 1 ≡ v.content.columns 1
catalog_stays v t c sole = elim (cases_eq 1 c) [
  | inl e ↦ subst (λ n. at_number v.content.columns n (catalog_columns n) 1 ≡ v.content.columns 1) e (at_here v.content.columns 1 (catalog_columns 1) ∙ sym sole.described)
  | inr ne ↦ at_away v.content.columns c (catalog_columns c) 1 ne
]

pub undone_sole : (v w : View) (t down_to : ℕ) (u : Undo) → IsSole v t → Undoes 1 t down_to v w u → ((b : ℕ) → b ≢ 1 → w.actors b ≡ v.actors b) → IsSole w t
undone_sole v w t down_to (undo.Undid table rid) sole done others =
    let back = done.0.1 in
    goes_sole v w t back.rest sole (ap (λ (d : Content). d.changes) back.stored.stored) (ap (λ (d : Content). d.columns 1) back.stored.stored) others
undone_sole v w t down_to undo.UndidContainer sole done others = elim done.0 [
  | inl made ↦
      let back = made.1 in
      goes_sole v w t back.rest sole (ap (λ (d : Content). d.changes) back.stored.stored) (ap (λ (d : Content). d.columns 1) back.stored.stored ∙ catalog_stays v t made.0 sole) others
  | inr dropped ↦
      let back = dropped.1 in
      goes_sole v w t back.rest sole (ap (λ (d : Content). d.changes) back.stored.stored) (ap (λ (d : Content). d.columns 1) back.stored.stored) others
]
undone_sole v w t down_to undo.Onward sole done others = same_content_sole v w t sole done.0.stored others
undone_sole v w t down_to (undo.Held b) sole done others = same_content_sole v w t sole done.0.stored others
undone_sole v w t down_to undo.Done sole done others = same_content_sole v w t sole done.0.stored others

pub created_sole : (v w : View) (t : ℕ) (m : Made) → IsSole v t → Creates 1 t v w m → ((b : ℕ) → b ≢ 1 → w.actors b ≡ v.actors b) → IsSole w t
created_sole v w t (made.Number n) sole done others =
    goes_sole v w t (Created n ∷ changes_in (v.content.changes t)) sole (ap (λ (d : Content). d.changes) done.stored.stored) (ap (λ (d : Content). d.columns 1) done.stored.stored) others
created_sole v w t made.Onward sole done others = same_content_sole v w t sole done.0.stored others

-- an actor that is shown a row is at one
pub at_row : (v : View) (rid : RowId) (marked : Bool) → Some (at.Row rid marked) ≡ shown_at v.content.heaps (v.actors 1).place → IsAtRow v 1
at_row v rid marked e = go (v.actors 1).place refl e
  where
    go : (place : Option Place) → (v.actors 1).place ≡ place → Some (at.Row rid marked) ≡ shown_at v.content.heaps place → IsAtRow v 1
    go None is q = absurd (differ q)
      where
        differ : Some (at.Row rid marked) ≡ None → ⊥
        differ q = cc
    go (Some p) is q = by_at p.at refl
      where
        differ : Some (at.Row rid marked) ≡ Some at.End → ⊥
        differ q = cc

        by_at : (x : Option RowId) → p.at ≡ x → IsAtRow v 1
        by_at None none = absurd (differ (q ∙ ap (λ x. Some (at_place v.content.heaps p.table x)) none))
        by_at (Some r) some = record { table = p.table; rid = r; at = is ∙ λ i. Some (record { table = p.table; at = some i }) }

-- a row that was read stands, and its page is held
pub read-is : (v w : View) (rid : RowId) (r : RowRead) (row : List Value) (marked : Bool) → r ≡ read.Row row marked → Reads 1 1 rid v w r → (v.content.heaps 1 rid ≡ Some (slot_of row marked)) × Fixes 1 1 rid v w
read-is v w rid r row marked e reads = subst (Reads 1 1 rid v w) e reads

-- no other open transaction has changes
pub free_sole : (v : View) (t c : ℕ) → IsSole v t → (u : ℕ) → u ≢ t → Each (IsOutside c) (changes_in (v.content.changes u))
free_sole v t c sole u ne = subst (λ x. Each (IsOutside c) (changes_in x)) (sym (sole.only u ne)) tt

-- an open transaction of which no change stands
pub empty_sole : (v : View) (t : ℕ) → IsSole v t → length (changes_in (v.content.changes t)) ≡ 0 → v.content.changes t ≡ Some []
empty_sole v t sole none = go (v.content.changes t) refl none
  where
    go : (x : Option (List Item)) → v.content.changes t ≡ x → length (changes_in x) ≡ 0 → v.content.changes t ≡ Some []
    go None e n = absurd (sole.begun e)
    go (Some []) e n = e
    go (Some (i ∷ is)) e n = absurd (omega (arith, n))

-- what holds anyway holds where a test says yes
pub on_true : {P : Type 0} (b : Bool) → P → OnTrue b P
on_true true p = p
on_true false p = tt

-- a store over an idle one is idle, and anyone may hold pages there
pub idle_over : (v w : View) → IsOver v w → IsIdle v → IsIdle w
idle_over v w over idle = record {
  none_open = λ u. ap (λ (d : Content). d.changes u) over.content_same ∙ idle.none_open u;
  none_holds = λ b. ap (λ h. h.pages) (over.everyone b) ∙ idle.none_holds b;
  described = ap (λ (d : Content). d.columns 1) over.content_same ∙ idle.described;
}

pub may_hold_idle : (v : View) → IsSound v → IsIdle v → MayHold v 1
may_hold_idle v sound idle = few v.limit _ sound.limit.0 (λ b p. p.1 (idle.none_holds b))

-- after want of memory an idle store is idle, and a number that was fresh is
pub idle_still : (v w : View) (t : ℕ) (memory : Type 0) (full : SqlState → Type 0) (damaged : Damage → Type 0) (e : StoreAnswer) → IsIdle v → v.content.next_txn ≤ t → HasCause memory full damaged v.content v w e → IsIdleStill w t e
idle_still v w t memory full damaged Failed idle fresh cause = tt
idle_still v w t memory full damaged (Damaged d) idle fresh cause = tt
idle_still v w t memory full damaged (Full state) idle fresh cause = tt
idle_still v w t memory full damaged Memory idle fresh cause = (
  record {
    none_open = λ u. ap (λ (d : Content). d.changes u) cause.1.content_same ∙ idle.none_open u;
    none_holds = λ b. ap (λ h. h.pages) (cause.1.everyone b) ∙ idle.none_holds b;
    described = ap (λ (d : Content). d.columns 1) cause.1.content_same ∙ idle.described;
  },
  subst (λ (d : Content). d.next_txn ≤ t) (sym cause.1.content_same) fresh,
)

-- and a sole transaction is sole
pub sole_still : (v w : View) (t : ℕ) (memory : Type 0) (full : SqlState → Type 0) (damaged : Damage → Type 0) (e : StoreAnswer) → IsSole v t → HasCause memory full damaged v.content v w e → IsSoleStill w t e
sole_still v w t memory full damaged Failed sole cause = tt
sole_still v w t memory full damaged (Damaged d) sole cause = tt
sole_still v w t memory full damaged (Full state) sole cause = tt
sole_still v w t memory full damaged Memory sole cause = same_content_sole v w t sole cause.1.content_same (λ b ne. cause.1.everyone b)

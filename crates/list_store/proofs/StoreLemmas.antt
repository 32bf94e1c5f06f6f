-- What each call of the store does to what it is seen with.
use Rattle.std.proofs.Common.{◌≡◌, ◌≢◌, ◌+◌, ◌<◌, ◌≤◌, ◌^◌, ℕ, List, [], ◌∷◌, ◌++◌, length, refl, sym, ap, subst, ◌∙◌, true, false, Bool, Option, Some, None, arith, inl, inr, slice_set, eq-eqb, length-append}
use Rattle.std.specs.Prelude.{◌==◌, ◌||◌, if◌then◌else◌}
use Rattle.std.proofs.lemmas.Bool.{cases_eq, cases_lt}
use Rattle.dby_types.specs.declared.definition.ColumnDef.{ColumnDef}
use Rattle.dby_types.specs.declared.number.RowId.{RowId}
use Rattle.dby_types.specs.declared.number.TxnNo.{TxnNo}
use Rattle.dby_types.specs.declared.value.Value.{Value}
use Rattle.store_api.specs.declared.answers.Moved.{Moved}
use Rattle.store_api.specs.declared.answers.Moved.TheVariants.{Reached, Onward, Held}
use Rattle.store_api.specs.declared.slot.Item.{Item}
use Rattle.store_api.specs.declared.slot.Item.TheVariants.{Changed, Created, Discarded}
use Rattle.store_api.specs.declared.slot.Slot.{Slot}
use Rattle.store_api.specs.Catalog.{catalog_columns}
use Rattle.store_api.specs.declared.answers.Undo.{Undo}
use Rattle.store_api.specs.Effects.{IsHeld, Reaches, Moves, Fixes, Puts, Undoes, slot_of, put_back, taken_back, with_slot, without_container, without_discarded, without_txn, committed}
use Rattle.store_api.specs.Frames.{Frame, IsUnchanged, Stores}
use Rattle.store_api.specs.View.{Content, MayHold, at_number, changes_in}
use Rattle.table_model.specs.Tables.{is_same_rid}
use Rattle.list_store.specs.declared.begun.Open.{Open}
use Rattle.list_store.specs.declared.heap.Heap.{Heap}
use Rattle.list_store.specs.declared.holders.Holder.{Holder}
use Rattle.list_store.specs.Begun.{changes_of, Becomes, Pushes, IsSame}
use Rattle.list_store.specs.Heaps.{rid_at, number_of, is_place, row_at, rows_in, given_in, heaps_of, columns_of, given_or, first_behind, written_at, rows_put_back, without_discarded as without_rows, RowsBecome, AreSame, Drops, DropsAll, PutsBack}
use Rattle.list_store.specs.Holders.{holder_in, other_in, with_holder, AreHolders, MayPut, touches, is_place_in, is_page, room_of, holding_of, pages_of}
use Rattle.list_store.specs.Lists.{Lists, content_of, seen, IsKept}
use Rattle.list_store.specs.Places.{placed, fixed, Searches, Overwrites, TakesBack}
use Rattle.list_store.proofs.HolderLemmas.{holder_with, holder_with_other, holders_with, other_is, adds_clear, may_put, placed_adds, fixed_adds, placed_some, fixed_some, placed_one, fixed_one}
use Rattle.list_store.proofs.ListLemmas.{content_is, slot_written, columns_same, heaps_same, first_is, frame_of, kept_holders, kept_rows, kept_drop, kept_begun, kept_as, kept_same, open_below, described_below}
use Rattle.list_store.proofs.HeapLemmas.{same_entries, at_here, at_away, at_kept}
use Rattle.list_store.specs.Told.{as_told}
use Rattle.std.specs.Prelude.{Result, Ok, Err, OnOk, OnErr, IfOk, IfErr}
use Rattle.std.specs.declared.alloc.AllocError.{AllocError}
use Rattle.std.proofs.lemmas.List.{length-set}
use Rattle.std.proofs.lemmas.Option.{slice_get_within}
use Rattle.store_api.specs.declared.answers.StoreAnswer.{StoreAnswer}
use Rattle.store_api.specs.declared.answers.StoreAnswer.TheVariants.{Memory}
use Rattle.list_store.proofs.SlotLemmas.{row_push, next_none, row_set, rid_is, by_rid, row_is, row_place}

-- nothing stored is other
pub stores_same : (l l' : Lists) → content_of l' ≡ content_of l → l'.no_pages ≡ l.no_pages → l'.no_log ≡ l.no_log → Stores (seen l) (seen l') (content_of l)
stores_same l l' same p q = record {
  well = record { keeps_none = refl; meters_same = λ i. record { faults = 0; no_pages = p i; no_log = q i; keeps = None } };
  stored = same;
}

pub stores : (l l' : Lists) (d : Content) → content_of l' ≡ d → l'.no_pages ≡ l.no_pages → l'.no_log ≡ l.no_log → Stores (seen l) (seen l') d
stores l l' d same p q = record {
  well = record { keeps_none = refl; meters_same = λ i. record { faults = 0; no_pages = p i; no_log = q i; keeps = None } };
  stored = same;
}

pub room_for : (l : Lists) (a : ℕ) → IsKept l → MayHold (seen l) a → MayPut a l.holders
room_for l a k few = may_put a l.holders k.holders few

-- another actor holds the heap
pub held_is : (l : Lists) (a table b : ℕ) → IsKept l → other_in a table l.holders ≡ Some b → IsHeld a b table (seen l) (seen l)
held_is l a table b k e =
    let o = other_is a table b l.holders k.holders e in
    record { other = o.0; holds = (rid_at 0, o.1); kept = refl }

-- SEARCHES
pub with_others : (l : Lists) (new : Holder) (b : ℕ) → b ≢ new.actor → holder_in b (with_holder new l.holders) ≡ holder_in b l.holders
with_others l new b ne = holder_with_other new b ne l.holders

pub searched_kept : (l : Lists) (a table : ℕ) (after : Option RowId) (hs : List Holder) (m : Moved) → IsKept l → Searches a table after (rows_in l.heaps table) l.holders hs m → IsKept (record l { holders = hs })
searched_kept l a table after hs Reached k s =
    kept_holders l hs k (subst AreHolders (sym s.1) (holders_with (placed a table (first_behind (rows_in l.heaps table) after) l.holders) l.holders
    (placed_some a table (first_behind (rows_in l.heaps table) after) l.holders)
    (adds_clear a table (placed a table (first_behind (rows_in l.heaps table) after) l.holders) l.holders k.holders refl s.0 (placed_adds a table (first_behind (rows_in l.heaps table) after) l.holders)) k.holders))
searched_kept l a table after hs Onward k s = absurd s
searched_kept l a table after hs (Held b) k s = kept_holders l hs k (subst AreHolders (sym s.1) k.holders)

pub searched_frame : (l : Lists) (a table : ℕ) (after : Option RowId) (hs : List Holder) (m : Moved) → Searches a table after (rows_in l.heaps table) l.holders hs m → Frame a (seen l) (seen (record l { holders = hs }))
searched_frame l a table after hs Reached s =
    let new = placed a table (first_behind (rows_in l.heaps table) after) l.holders in
    frame_of l (record l { holders = hs }) a
    (λ b ne. ap (holder_in b) s.1 ∙ holder_with_other new b ne l.holders)
    (subst (λ (h : Holder). pages_of h ≤ pages_of (holder_in a l.holders) + 1) (sym (ap (holder_in a) s.1 ∙ holder_with new l.holders)) (placed_one a table (first_behind (rows_in l.heaps table) after) l.holders)) refl
searched_frame l a table after hs Onward s = absurd s
searched_frame l a table after hs (Held b) s =
    frame_of l (record l { holders = hs }) a (λ c ne. ap (holder_in c) s.1) (subst (λ (xs : List Holder). pages_of (holder_in a xs) ≤ pages_of (holder_in a l.holders) + 1) (sym s.1) (omega arith)) refl

pub searched_is : (l : Lists) (a table : ℕ) (after : Option RowId) (hs : List Holder) (m : Moved) → IsKept l → Searches a table after (rows_in l.heaps table) l.holders hs m
    → Reaches a table after (seen l) (seen (record l { holders = hs })) m
searched_is l a table after hs Reached k s =
    let new = placed a table (first_behind (rows_in l.heaps table) after) l.holders in
    let is : holder_in a hs ≡ new = ap (holder_in a) s.1 ∙ holder_with new l.holders in
    record {
      at = first_behind (rows_in l.heaps table) after;
      first = first_is l.heaps table after;
      place = ap (λ (h : Holder). h.place) is;
      turns = refl;
    }
searched_is l a table after hs Onward k s = absurd s
searched_is l a table after hs (Held b) k s =
    let o = other_is a table b l.holders k.holders s.0 in
    record { other = o.0; holds = (rid_at 0, o.1); kept = ap (λ (xs : List Holder). (seen (record l { holders = xs })).actors a) s.1 }

pub moved_is : (l : Lists) (a table : ℕ) (rid : RowId) (hs : List Holder) (m : Moved) → IsKept l → Searches a table (Some rid) (rows_in l.heaps table) l.holders hs m
    → Moves a table rid (seen l) (seen (record l { holders = hs })) m
moved_is l a table rid hs Reached k s = searched_is l a table (Some rid) hs Reached k s
moved_is l a table rid hs Onward k s = absurd s
moved_is l a table rid hs (Held b) k s = searched_is l a table (Some rid) hs (Held b) k s

-- A HEAP HELD beside the place
pub fixed_kept : (l : Lists) (a table : ℕ) (room : Bool) (hs : List Holder) → IsKept l → other_in a table l.holders ≡ None → hs ≡ with_holder (fixed a table room l.holders) l.holders → IsKept (record l { holders = hs })
fixed_kept l a table room hs k none e =
    kept_holders l hs k (subst AreHolders (sym e) (holders_with (fixed a table room l.holders) l.holders (fixed_some a table room l.holders)
    (adds_clear a table (fixed a table room l.holders) l.holders k.holders refl none (fixed_adds a table room l.holders)) k.holders))

pub fixed_others : (l : Lists) (a table : ℕ) (room : Bool) (hs : List Holder) → hs ≡ with_holder (fixed a table room l.holders) l.holders → (b : ℕ) → b ≢ a → holder_in b hs ≡ holder_in b l.holders
fixed_others l a table room hs e b ne = ap (holder_in b) e ∙ holder_with_other (fixed a table room l.holders) b ne l.holders

pub fixed_pages : (l : Lists) (a table : ℕ) (room : Bool) (hs : List Holder) → hs ≡ with_holder (fixed a table room l.holders) l.holders → pages_of (holder_in a hs) ≤ pages_of (holder_in a l.holders) + 1
fixed_pages l a table room hs e =
    subst (λ (h : Holder). pages_of h ≤ pages_of (holder_in a l.holders) + 1) (sym (ap (holder_in a) e ∙ holder_with (fixed a table room l.holders) l.holders)) (fixed_one a table room l.holders)

pub fixed_is : (l : Lists) (a table : ℕ) (room : Bool) (hs : List Holder) → hs ≡ with_holder (fixed a table room l.holders) l.holders → holder_in a hs ≡ fixed a table room l.holders
fixed_is l a table room hs e = ap (holder_in a) e ∙ holder_with (fixed a table room l.holders) l.holders

pub fixed_touches : (a table : ℕ) (room : Bool) (hs : List Holder) → touches (fixed a table room hs) table ≡ true
fixed_touches a table room hs = or_true (is_place_in (holder_in a hs).place table) (table == table) (eq-eqb table table refl)
  where
    or_true : (x y : Bool) → y ≡ true → (x || y) ≡ true
    or_true true y e = refl
    or_true false y e = e

pub fixes : (l l' : Lists) (a table : ℕ) (rid : RowId) (room : Bool) → l'.holders ≡ with_holder (fixed a table room l.holders) l.holders → Fixes a table rid (seen l) (seen l')
fixes l l' a table rid room e =
    let is = fixed_is l a table room l'.holders e in
    record {
      held = ap (λ (h : Holder). touches h table) is ∙ fixed_touches a table room l.holders;
      place_same = ap (λ (h : Holder). h.place) is;
      turns = refl;
    }

-- CHANGES. The rows of a table with a slot written, and an item noted
pub slot_content : (l l' : Lists) (t table : ℕ) (rid : RowId) (slot : Slot) (rows : List Slot) → RowsBecome l.heaps l'.heaps table rows
    → ((r : RowId) → row_at rows r ≡ (if is_same_rid r rid then Some slot else row_at (rows_in l.heaps table) r))
    → Pushes l.begun l'.begun t (Changed table rid (heaps_of l.heaps table rid)) → l'.next_txn ≡ l.next_txn → l'.next_container ≡ l.next_container
    → content_of l' ≡ with_slot (content_of l) t table rid slot
slot_content l l' t table rid slot rows become at noted p q =
    content_is l' (with_slot (content_of l) t table rid slot)
    (slot_written l.heaps l'.heaps table rows rid (Some slot) become at)
    (columns_same l.heaps l'.heaps become.given_same) noted p q

room_touches : (l : Lists) (a table : ℕ) → room_of (holder_in a l.holders).room (holder_in a l.holders).page ≡ Some table → touches (holder_in a l.holders) table ≡ true
room_touches l a table e = go (holder_in a l.holders).room (holder_in a l.holders).page e
  where
    go : (room : Bool) (page : Option ℕ) → room_of room page ≡ Some table → (is_place_in (holder_in a l.holders).place table || is_page page table) ≡ true
    go false page q = absurd cc
    go true None q = absurd cc
    go true (Some n) q =
        let same : n ≡ table = some_is q in
        or_true (is_place_in (holder_in a l.holders).place table) (n == table) (eq-eqb n table same)
      where
        or_true : (x y : Bool) → y ≡ true → (x || y) ≡ true
        or_true true y e = refl
        or_true false y e = e

        some_is : {X : Type 0} {x y : X} → Some x ≡ Some y → x ≡ y
        some_is e = cc

pub put_is : (l l' : Lists) (a t table : ℕ) (row : List Value) → RowsBecome l.heaps l'.heaps table (rows_in l.heaps table ++ slot_of row false ∷ [])
    → Pushes l.begun l'.begun t (Changed table (rid_at (length (rows_in l.heaps table))) None) → l'.next_txn ≡ l.next_txn → l'.next_container ≡ l.next_container
    → l'.no_pages ≡ l.no_pages → l'.no_log ≡ l.no_log → l'.holders ≡ l.holders
    → room_of (holder_in a l.holders).room (holder_in a l.holders).page ≡ Some table
    → Puts a t table row (seen l) (seen l') (rid_at (length (rows_in l.heaps table)))
put_is l l' a t table row become noted p q n m e room =
    let rows = rows_in l.heaps table in
    let none : heaps_of l.heaps table (rid_at (length rows)) ≡ None = next_none rows in
    record {
      none = none;
      stored = stores l l' _ (slot_content l l' t table (rid_at (length rows)) (slot_of row false) (rows ++ slot_of row false ∷ []) become (row_push rows (slot_of row false))
          (subst (λ (x : Option Slot). Pushes l.begun l'.begun t (Changed table (rid_at (length rows)) x)) (sym none) noted) p q) n m;
      held = ap (λ xs. touches (holder_in a xs) table) e ∙ room_touches l a table room;
      turns = refl;
    }

-- a row written over another
pub written_content : (l l' : Lists) (t table : ℕ) (rid : RowId) (slot : Slot) → is_place rid ≡ true → Overwrites l.heaps l'.heaps l.begun l'.begun t table rid slot → l'.next_txn ≡ l.next_txn → l'.next_container ≡ l.next_container
    → content_of l' ≡ with_slot (content_of l) t table rid slot
written_content l l' t table rid slot place o p q =
    let is = rid_is rid (rid_at (number_of rid)) place in
    slot_content l l' t table rid slot (slice_set (rows_in l.heaps table) (number_of rid) slot) o.rows
    (λ r. row_set (rows_in l.heaps table) (number_of rid) slot o.within r ∙ ap (λ (x : RowId). if is_same_rid r x then Some slot else row_at (rows_in l.heaps table) r) (sym is))
    o.noted p q

-- a table with a row was made
pub row_below : (l : Lists) (table : ℕ) (rid : RowId) → IsKept l → heaps_of l.heaps table rid ≢ None → table < l.next_container
row_below l table rid k there = elim (cases_lt table l.next_container) [
  | inl lt ↦ lt
  | inr le ↦ absurd (there (ap (λ xs. row_at xs rid) (k.heaps_made table le).0 ∙ empty rid))
]
  where
    empty : (r : RowId) → row_at [] r ≡ None
    empty r = by_rid (λ r. row_at [] r ≡ None) (λ m. row_is [] m) (λ r off. rw off refl) r

-- what stands at a row id that no row may have is nothing
pub place_of_row : (rows : List Slot) (rid : RowId) → row_at rows rid ≢ None → is_place rid ≡ true
place_of_row rows rid there =
    elim (is_place rid) as (λ b. is_place rid ≡ b → b ≡ true) [
      | true ↦ λ e. refl
      | false ↦ λ e. absurd (there (rw e refl))
    ] refl

pub written_kept : (l : Lists) (hs : List (ℕ × Heap)) (b : List (TxnNo × Open)) (t table : ℕ) (rid : RowId) (slot : Slot) → IsKept l → changes_of l.begun t ≢ None → heaps_of l.heaps table rid ≢ None
    → Overwrites l.heaps hs l.begun b t table rid slot → IsKept (record l { heaps = hs; begun = b })
written_kept l hs b t table rid slot k begun there o =
    kept_rows (record l { begun = b }) hs table _ o.rows (row_below l table rid k there)
    (subst (λ n. n ≤ 2 ^ 40) (sym (length-set (rows_in l.heaps table) (number_of rid) slot)) (k.heaps_short table))
    (kept_begun l b t _ o.noted (open_below l t k begun) k)

pub unchanged_kept : (l : Lists) (hs : List (ℕ × Heap)) (b : List (TxnNo × Open)) → IsKept l → hs ≡ l.heaps → IsSame l.begun b → IsKept (record l { heaps = hs; begun = b })
unchanged_kept l hs b k e same =
    kept_as (record l { begun = b }) hs (same_entries l.heaps hs e) (kept_same l b same k)

-- by what was answered
pub by_result : {T E P : Type 0} (r : Result T E) → OnOk r P → OnErr r P → P
by_result (Ok x) p q = p
by_result (Err e) p q = q

told_ok_of : {T : Type 0} (P : Type 0) (r : Result T AllocError) → OnOk r P → OnOk (as_told r) P
told_ok_of P (Ok x) p = p
told_ok_of P (Err e) p = tt

told_if_ok_of : {T : Type 0} (P : T → Type 0) (r : Result T AllocError) → IfOk r P → IfOk (as_told r) P
told_if_ok_of P (Ok x) p = p
told_if_ok_of P (Err e) p = tt

told_err_of : {T : Type 0} (Q : StoreAnswer → Type 0) (r : Result T AllocError) → OnErr r (Q Memory) → IfErr (as_told r) Q
told_err_of Q (Ok x) p = tt
told_err_of Q (Err e) p = p

pub told_ok : {T : Type 0} (P : Type 0) (r : Result T AllocError) (told : Result T StoreAnswer) → told ≡ as_told r → OnOk r P → OnOk told P
told_ok P r told e p = subst (λ x. OnOk x P) (sym e) (told_ok_of P r p)

pub told_if_ok : {T : Type 0} (P : T → Type 0) (r : Result T AllocError) (told : Result T StoreAnswer) → told ≡ as_told r → IfOk r P → IfOk told P
told_if_ok P r told e p = subst (λ x. IfOk x P) (sym e) (told_if_ok_of P r p)

pub told_err : {T : Type 0} (Q : StoreAnswer → Type 0) (r : Result T AllocError) (told : Result T StoreAnswer) → told ≡ as_told r → OnErr r (Q Memory) → IfErr told Q
told_err Q r told e p = subst (λ x. IfErr x Q) (sym e) (told_err_of Q r p)

pub if_ok_both : {T E Q : Type 0} (P R : T → Type 0) (r : Result T E) → ((x : T) → P x → Q → R x) → IfOk r P → OnOk r Q → IfOk r R
if_ok_both P R (Ok x) f p q = f x p q
if_ok_both P R (Err e) f p q = tt

pub on_ok_both : {T E Q S : Type 0} (P : T → Type 0) (r : Result T E) → ((x : T) → P x → Q → S) → IfOk r P → OnOk r Q → OnOk r S
on_ok_both P (Ok x) f p q = f x p q
on_ok_both P (Err e) f p q = tt

-- want of memory changed nothing
pub nothing_changed : (l l' : Lists) → content_of l' ≡ content_of l → l'.holders ≡ l.holders → l'.no_pages ≡ l.no_pages → l'.no_log ≡ l.no_log → IsUnchanged (seen l) (seen l')
nothing_changed l l' same hs p q = record {
  keeps_none = refl;
  content_same = same;
  everyone = λ b. ap (λ (xs : List Holder). holding_of (holder_in b xs)) hs;
  meters_same = λ i. record { faults = 0; no_pages = p i; no_log = q i; keeps = None };
}

-- the same rows, columns and changes are the same content
pub same_content : (l l' : Lists) → AreSame l.heaps l'.heaps → IsSame l.begun l'.begun → l'.next_txn ≡ l.next_txn → l'.next_container ≡ l.next_container → content_of l' ≡ content_of l
same_content l l' heaps begun p q =
    content_is l' (content_of l) (heaps_same l.heaps l'.heaps heaps.rows_same) (columns_same l.heaps l'.heaps heaps.given_same) begun p q

pub on_ok_then : {T E P Q : Type 0} (r : Result T E) → (P → Q) → OnOk r P → OnOk r Q
on_ok_then (Ok x) f p = f p
on_ok_then (Err e) f p = tt

pub on_err_then : {T E P Q : Type 0} (r : Result T E) → (P → Q) → OnErr r P → OnErr r Q
on_err_then (Ok x) f p = tt
on_err_then (Err e) f p = f p

-- a row put in a table that was made
pub put_kept : (l : Lists) (hs : List (ℕ × Heap)) (b : List (TxnNo × Open)) (t table : ℕ) (slot : Slot) (item : Item) → IsKept l → changes_of l.begun t ≢ None → columns_of l.heaps table ≢ None
    → length (rows_in l.heaps table) < 2 ^ 40 → RowsBecome l.heaps hs table (rows_in l.heaps table ++ slot ∷ []) → Pushes l.begun b t item → IsKept (record l { heaps = hs; begun = b })
put_kept l hs b t table slot item k begun described few become noted =
    let longer : length (rows_in l.heaps table ++ slot ∷ []) ≡ length (rows_in l.heaps table) + 1 = length-append (rows_in l.heaps table) (slot ∷ []) in
    kept_rows (record l { begun = b }) hs table _ become (described_below l table k described)
    (omega (arith, longer, few))
    (kept_begun l b t _ noted (open_below l t k begun) k)

-- columns that are there are some
pub is_some : (x : Option (List ColumnDef)) (columns : List ColumnDef) → x ≡ Some columns → x ≢ None
is_some x columns e none = absurd (differ columns (sym e ∙ none))
  where
    differ : (columns : List ColumnDef) → Some columns ≡ None → ⊥
    differ columns e = cc

-- UNDO AND ENDS. What taking an item back leaves
at_both : {X : Type 0} (f : ℕ → X) (n : ℕ) (x y : X) (m : ℕ) → y ≡ x → at_number f n x m ≡ at_number f n y m
at_both f n x y m e = ap (λ z. at_number f n z m) (sym e)

put_back_rows : (rows : List Slot) (rid : RowId) (before : Option Slot) (r : RowId)
    → row_at (rows_put_back rows rid before) r ≡ (if is_same_rid r rid then put_back before (row_at rows rid) else row_at rows r)
put_back_rows rows rid before r = go (row_at rows rid) refl
  where
    absent : row_at rows rid ≡ None → row_at rows r ≡ (if is_same_rid r rid then None else row_at rows r)
    absent e = elim (is_same_rid r rid) as (λ b. is_same_rid r rid ≡ b → row_at rows r ≡ (if b then None else row_at rows r)) [
      | true ↦ λ q. ap (row_at rows) (rid_is r rid q) ∙ e
      | false ↦ λ q. refl
    ] refl

    -- a row that stands is within the rows, and is written over
    over : (s new : Slot) → row_at rows rid ≡ Some s → row_at (slice_set rows (number_of rid) new) r ≡ (if is_same_rid r rid then Some new else row_at rows r)
    over s new e =
        let place = place_of_row rows rid (λ none. some_none s (sym e ∙ none)) in
        let is = rid_is rid (rid_at (number_of rid)) place in
        let within = slice_get_within rows (number_of rid) s (sym (row_place rows rid place) ∙ e) in
        row_set rows (number_of rid) new within r ∙ ap (λ (x : RowId). if is_same_rid r x then Some new else row_at rows r) (sym is)
      where
        some_none : (s : Slot) → Some s ≡ None → ⊥
        some_none s e = cc

    go : (x : Option Slot) → row_at rows rid ≡ x → row_at (rows_put_back rows rid before) r ≡ (if is_same_rid r rid then put_back before (row_at rows rid) else row_at rows r)
    go None e =
        let none : put_back before None ≡ None = by_before before in
        rw e (rw none (absent e))
      where
        by_before : (before : Option Slot) → put_back before None ≡ None
        by_before None = refl
        by_before (Some s) = refl
    go (Some s) e = rw e (some before)
      where
        some : (before : Option Slot) → row_at (written_at rows (number_of rid) (put_back before (Some s))) r ≡ (if is_same_rid r rid then put_back before (Some s) else row_at rows r)
        some None = over s (slot_of s.row true) e
        some (Some b) = over s b e

dropped_content : (l l' : Lists) (c : ℕ) → Drops l.heaps l'.heaps c → (t : ℕ) (r : RowId) → heaps_of l'.heaps t r ≡ (if t == c then None else heaps_of l.heaps t r)
dropped_content l l' c drops t r = ap (λ xs. row_at xs r) (drops.rows_are t) ∙ go (t == c)
  where
    go : (b : Bool) → row_at (if b then [] else rows_in l.heaps t) r ≡ (if b then None else heaps_of l.heaps t r)
    go true = by_rid (λ r. row_at [] r ≡ None) (λ m. row_is [] m) (λ r off. rw off refl) r
    go false = refl

dropped_columns : (l l' : Lists) (c : ℕ) → Drops l.heaps l'.heaps c → (n : ℕ) → columns_of l'.heaps n ≡ at_number (columns_of l.heaps) c (catalog_columns c) n
dropped_columns l l' c drops n =
    ap (λ x. given_or x (catalog_columns n)) (drops.given_are n) ∙ elim (cases_eq n c) [
      | inl e ↦ subst (λ m. given_or (at_number (given_in l.heaps) c None m) (catalog_columns m) ≡ at_number (columns_of l.heaps) c (catalog_columns c) m) (sym e)
          (ap (λ x. given_or x (catalog_columns c)) (at_here (given_in l.heaps) c None) ∙ sym (at_here (columns_of l.heaps) c (catalog_columns c)))
      | inr ne ↦ ap (λ x. given_or x (catalog_columns n)) (at_away (given_in l.heaps) c None n ne) ∙ sym (at_away (columns_of l.heaps) c (catalog_columns c) n ne)
    ]

pub taken_content : (l l' : Lists) (t : ℕ) (item : Item) (rest : List Item) (u : Undo) → TakesBack l.heaps l'.heaps item u → Becomes l.begun l'.begun t (Some rest) → l'.next_txn ≡ l.next_txn → l'.next_container ≡ l.next_container
    → content_of l' ≡ record (taken_back (content_of l) item) { changes = at_number (changes_of l.begun) t (Some rest) }
taken_content l l' t (Changed table rid before) rest u taken become p q =
    content_is l' _ (slot_written l.heaps l'.heaps table (rows_put_back (rows_in l.heaps table) rid before) rid (put_back before (heaps_of l.heaps table rid)) taken.1 (put_back_rows (rows_in l.heaps table) rid before))
    (columns_same l.heaps l'.heaps taken.1.given_same) become p q
taken_content l l' t (Created c) rest u taken become p q =
    content_is l' _ (dropped_content l l' c taken.1) (dropped_columns l l' c taken.1) become p q
taken_content l l' t (Discarded c) rest u taken become p q =
    content_is l' _ (heaps_same l.heaps l'.heaps (λ n. ap (λ hs. rows_in hs n) taken.1)) (columns_same l.heaps l'.heaps (λ n. ap (λ hs. given_in hs n) taken.1)) become p q

pub taken_kept : (l : Lists) (hs : List (ℕ × Heap)) (b : List (TxnNo × Open)) (t : ℕ) (item : Item) (rest : List Item) (u : Undo) → IsKept l → changes_of l.begun t ≡ Some (item ∷ rest)
    → TakesBack l.heaps hs item u → Becomes l.begun b t (Some rest) → IsKept (record l { heaps = hs; begun = b })
taken_kept l hs b t item rest u k was taken become = go item taken
  where
    begun : t < l.next_txn
    begun = open_below l t k (λ none. some_none (item ∷ rest) (sym was ∙ none))
      where
        some_none : (items : List Item) → Some items ≡ None → ⊥
        some_none items e = cc

    kept : IsKept (record l { begun = b })
    kept = kept_begun l b t (Some rest) become begun k

    -- the rows put back are as many as before
    same_length : (rows : List Slot) (n : ℕ) (x : Option Slot) → length (written_at rows n x) ≡ length rows
    same_length rows n None = refl
    same_length rows n (Some s) = length-set rows n s

    rows_there : (table : ℕ) (rid : RowId) (before : Option Slot) → PutsBack l.heaps hs table rid before → IsKept (record l { heaps = hs; begun = b })
    rows_there table rid before back = elim (cases_lt table l.next_container) [
      | inl made ↦ kept_rows (record l { begun = b }) hs table _ back made
          (subst (λ n. n ≤ 2 ^ 40) (sym (same_length (rows_in l.heaps table) (number_of rid) (put_back before (row_at (rows_in l.heaps table) rid)))) (k.heaps_short table)) kept
      | inr le ↦
          let none : rows_in l.heaps table ≡ [] = (k.heaps_made table le).0 in
          kept_as (record l { begun = b }) hs (record {
            rows_same = λ n. back.rows_are n ∙ at_kept (rows_in l.heaps) table (rows_put_back (rows_in l.heaps table) rid before) (nothing_back (rows_in l.heaps table) rid before none) n;
            given_same = back.given_same;
          }) kept
    ]
      where
        nothing_back : (rows : List Slot) (rid : RowId) (before : Option Slot) → rows ≡ [] → rows_put_back rows rid before ≡ rows
        nothing_back rows rid before e = subst (λ (xs : List Slot). rows_put_back xs rid before ≡ xs) (sym e) (rw (empty rid) (by_before before))
          where
            empty : (r : RowId) → row_at [] r ≡ None
            empty r = by_rid (λ r. row_at [] r ≡ None) (λ m. row_is [] m) (λ r off. rw off refl) r

            by_before : (before : Option Slot) → written_at [] (number_of rid) (put_back before None) ≡ []
            by_before None = refl
            by_before (Some s) = refl

    go : (item : Item) → TakesBack l.heaps hs item u → IsKept (record l { heaps = hs; begun = b })
    go (Changed table rid before) taken = rows_there table rid before taken.1
    go (Created c) taken = kept_drop (record l { begun = b }) hs c taken.1 kept
    go (Discarded c) taken = kept_as (record l { begun = b }) hs (same_entries l.heaps hs taken.1) kept

pub undone_is : (l l' : Lists) (a t down_to : ℕ) (item : Item) (u : Undo) → (rest : List Item) → changes_of l.begun t ≡ Some (item ∷ rest) → TakesBack l.heaps l'.heaps item u → Becomes l.begun l'.begun t (Some rest)
    → l'.next_txn ≡ l.next_txn → l'.next_container ≡ l.next_container → l'.no_pages ≡ l.no_pages → l'.no_log ≡ l.no_log → Undoes a t down_to (seen l) (seen l') u
undone_is l l' a t down_to (Changed table rid before) u rest was taken become p q n m =
    subst (Undoes a t down_to (seen l) (seen l')) (sym taken.0)
    ((before, record { rest = rest; newest = was; stored = stores l l' _ (taken_content l l' t (Changed table rid before) rest u taken become p q) n m }), refl)
undone_is l l' a t down_to (Created c) u rest was taken become p q n m =
    subst (Undoes a t down_to (seen l) (seen l')) (sym taken.0)
    (inl (c, record { rest = rest; newest = was; stored = stores l l' _ (taken_content l l' t (Created c) rest u taken become p q) n m }), refl)
undone_is l l' a t down_to (Discarded c) u rest was taken become p q n m =
    subst (Undoes a t down_to (seen l) (seen l')) (sym taken.0)
    (inr (c, record { rest = rest; newest = was; stored = stores l l' _ (taken_content l l' t (Discarded c) rest u taken become p q) n m }), refl)

-- what is seen without the containers that were discarded
discarded_heaps : (items : List Item) (d : Content) (rows : ℕ → List Slot) → ((t : ℕ) (r : RowId) → d.heaps t r ≡ row_at (rows t) r)
    → (t : ℕ) (r : RowId) → row_at (without_rows [] items rows t) r ≡ (without_discarded items d).heaps t r
discarded_heaps [] d rows e t r = sym (e t r)
discarded_heaps (Changed table rid before ∷ items) d rows e t r = discarded_heaps items d rows e t r
discarded_heaps (Created c ∷ items) d rows e t r = discarded_heaps items d rows e t r
discarded_heaps (Discarded c ∷ items) d rows e t r = discarded_heaps items (without_container d c) (at_number rows c []) (λ t r. go (t == c) t r) t r
  where
    go : (b : Bool) (t : ℕ) (r : RowId) → (if b then None else d.heaps t r) ≡ row_at (if b then [] else rows t) r
    go true t r = sym (by_rid (λ r. row_at [] r ≡ None) (λ m. row_is [] m) (λ r off. rw off refl) r)
    go false t r = e t r

discarded_columns : (items : List Item) (d : Content) (given : ℕ → Option (List ColumnDef)) → ((n : ℕ) → d.columns n ≡ given_or (given n) (catalog_columns n))
    → (n : ℕ) → given_or (without_rows None items given n) (catalog_columns n) ≡ (without_discarded items d).columns n
discarded_columns [] d given e n = sym (e n)
discarded_columns (Changed table rid before ∷ items) d given e n = discarded_columns items d given e n
discarded_columns (Created c ∷ items) d given e n = discarded_columns items d given e n
discarded_columns (Discarded c ∷ items) d given e n = discarded_columns items (without_container d c) (at_number given c None) each n
  where
    each : (n : ℕ) → at_number d.columns c (catalog_columns c) n ≡ given_or (at_number given c None n) (catalog_columns n)
    each n = elim (cases_eq n c) [
      | inl same ↦ subst (λ m. at_number d.columns c (catalog_columns c) m ≡ given_or (at_number given c None m) (catalog_columns m)) (sym same)
          (at_here d.columns c (catalog_columns c) ∙ sym (ap (λ x. given_or x (catalog_columns c)) (at_here given c None)))
      | inr ne ↦ at_away d.columns c (catalog_columns c) n ne ∙ e n ∙ sym (ap (λ x. given_or x (catalog_columns n)) (at_away given c None n ne))
    ]

discarded_rest : (items : List Item) (d : Content) → ((without_discarded items d).next_txn ≡ d.next_txn) × ((without_discarded items d).next_container ≡ d.next_container) × ((t : ℕ) → (without_discarded items d).changes t ≡ d.changes t)
discarded_rest [] d = (refl, refl, λ t. refl)
discarded_rest (Changed table rid before ∷ items) d = discarded_rest items d
discarded_rest (Created c ∷ items) d = discarded_rest items d
discarded_rest (Discarded c ∷ items) d = discarded_rest items (without_container d c)

pub committed_content : (l l' : Lists) (t : ℕ) (items : List Item) → changes_of l.begun t ≡ Some items → DropsAll l.heaps l'.heaps items → Becomes l.begun l'.begun t None → l'.next_txn ≡ l.next_txn → l'.next_container ≡ l.next_container
    → content_of l' ≡ committed (content_of l) t
committed_content l l' t items was drops become p q =
    content_is l' _ (λ n r. ap (λ xs. row_at xs r) (drops.rows_are n) ∙ discarded_heaps items (content_of l) (rows_in l.heaps) (λ t r. refl) n r)
    (λ n. ap (λ x. given_or x (catalog_columns n)) (drops.given_are n) ∙ discarded_columns items (content_of l) (given_in l.heaps) (λ n. refl) n)
    (λ u. become u ∙ ap (λ (f : ℕ → Option (List Item)). at_number f t None u) (λ i v. sym ((discarded_rest items (content_of l)).2 v) i))
    (p ∙ sym (discarded_rest items (content_of l)).0) (q ∙ sym (discarded_rest items (content_of l)).1)
    ∙ ap (λ x. committed_by (changes_in x) (content_of l) t) (sym was)
  where
    committed_by : List Item → Content → ℕ → Content
    committed_by items d t = without_txn (without_discarded items d) t

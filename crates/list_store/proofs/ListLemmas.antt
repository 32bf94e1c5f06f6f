-- What a store over vectors is seen with, and what it keeps.
use Rattle.std.proofs.Common.{◌≡◌, ◌≢◌, ◌+◌, ◌-◌, ◌<◌, ◌≤◌, ◌^◌, ℕ, List, [], ◌∷◌, length, refl, sym, ap, subst, ◌∙◌, true, false, Bool, Option, Some, None, arith, eq-eqb, inl, inr, nat_lt}
use Rattle.std.specs.Prelude.{◌==◌, ◌||◌, if◌then◌else◌}
use Rattle.std.proofs.lemmas.Bool.Decides.{nat_tests}
use Rattle.std.proofs.lemmas.Bool.{cases_eq, cases_lt}
use Rattle.std.proofs.lemmas.Option.{slice_get_past}
use Rattle.dby_types.specs.declared.definition.ColumnDef.{ColumnDef}
use Rattle.dby_types.specs.declared.number.RowId.{RowId}
use Rattle.dby_types.specs.declared.number.TxnNo.{TxnNo}
use Rattle.store_api.specs.declared.slot.Item.{Item}
use Rattle.store_api.specs.declared.slot.Slot.{Slot}
use Rattle.store_api.specs.Catalog.{catalog_columns}
use Rattle.store_api.specs.Order.{IsFirstBehind, is_behind, is_before}
use Rattle.store_api.specs.View.{Content, HoldsNone, IsSound, at_number, put_slot}
use Rattle.table_model.specs.Tables.{is_same_rid}
use Rattle.list_store.specs.declared.begun.Open.{Open}
use Rattle.list_store.specs.declared.heap.Heap.{Heap}
use Rattle.list_store.specs.declared.holders.Holder.{Holder}
use Rattle.list_store.specs.Begun.{changes_of, Becomes}
use Rattle.list_store.specs.Heaps.{rid_at, row_at, rows_in, given_in, given_or, heaps_of, columns_of, next_number, first_behind, RowsBecome, without_discarded, GivenBecomes, Drops, DropsAll, AreSame}
use Rattle.list_store.specs.Holders.{AreHolders, holder_in, holding_of, pages_of, pages_in, is_place_in, is_page, room_of}
use Rattle.list_store.proofs.HolderLemmas.{holders_apart, pages_few}
use Rattle.store_api.specs.declared.places.Place.{Place}
use Rattle.store_api.specs.declared.slot.Item.TheVariants.{Changed, Created, Discarded}
use Rattle.store_api.specs.Frames.{Frame, GrowingFrame}
use Rattle.list_store.specs.Lists.{Lists, content_of, seen, IsKept}
use Rattle.list_store.proofs.HeapLemmas.{at_here, at_away}
use Rattle.list_store.proofs.SlotLemmas.{by_rid, row_is, slice_get_some, behind_number, number_behind, before_number}

-- CONTENT. Two are the same where they agree at each place
pub content_is : (l : Lists) (d : Content) → ((t : ℕ) (r : RowId) → heaps_of l.heaps t r ≡ d.heaps t r) → ((n : ℕ) → columns_of l.heaps n ≡ d.columns n)
    → ((t : ℕ) → changes_of l.begun t ≡ d.changes t) → l.next_txn ≡ d.next_txn → l.next_container ≡ d.next_container → content_of l ≡ d
content_is l d heaps columns changes txn container = λ i. record {
  heaps = λ t r. heaps t r i;
  columns = λ n. columns n i;
  changes = λ t. changes t i;
  next_txn = txn i;
  next_container = container i;
}

-- the rows of one table, seen as a slot written
pub slot_written : (old new : List (ℕ × Heap)) (table : ℕ) (rows : List Slot) (rid : RowId) (s : Option Slot) → RowsBecome old new table rows
    → ((r : RowId) → row_at rows r ≡ (if is_same_rid r rid then s else row_at (rows_in old table) r))
    → (t : ℕ) (r : RowId) → heaps_of new t r ≡ put_slot (heaps_of old) table rid s t r
slot_written old new table rows rid s become at t r =
    ap (λ xs. row_at xs r) (become.rows_are t) ∙ elim (cases_eq t table) [
      | inl e ↦
          let test : (t == table) ≡ true = eq-eqb t table e in
          rw test (at r ∙ ap (λ k. if is_same_rid r rid then s else row_at (rows_in old k) r) (sym e))
      | inr ne ↦
          let test : (t == table) ≡ false = grind (arith, nat_tests) in
          rw test refl
    ]

-- and the columns stay
pub columns_same : (old new : List (ℕ × Heap)) → ((n : ℕ) → given_in new n ≡ given_in old n) → (n : ℕ) → columns_of new n ≡ columns_of old n
columns_same old new same n = ap (λ x. given_or x (catalog_columns n)) (same n)

pub heaps_same : (old new : List (ℕ × Heap)) → ((n : ℕ) → rows_in new n ≡ rows_in old n) → (t : ℕ) (r : RowId) → heaps_of new t r ≡ heaps_of old t r
heaps_same old new same t r = ap (λ xs. row_at xs r) (same t)

-- columns given
pub columns_given : (old new : List (ℕ × Heap)) (table : ℕ) (columns : List ColumnDef) → GivenBecomes old new table columns
    → (n : ℕ) → columns_of new n ≡ at_number (columns_of old) table (Some columns) n
columns_given old new table columns become n =
    ap (λ x. given_or x (catalog_columns n)) (become.given_are n) ∙ elim (cases_eq n table) [
      | inl e ↦ (let test : (n == table) ≡ true = eq-eqb n table e in rw test refl)
      | inr ne ↦ (let test : (n == table) ≡ false = grind (arith, nat_tests) in rw test refl)
    ]

-- the first row behind a row id
pub first_is : (heaps : List (ℕ × Heap)) (table : ℕ) (after : Option RowId) → IsFirstBehind (heaps_of heaps) table after (first_behind (rows_in heaps table) after)
first_is heaps table after = elim (cases_lt (next_number after) (length (rows_in heaps table))) [
  | inl lt ↦
      let test : nat_lt (next_number after) (length (rows_in heaps table)) ≡ true = grind (arith, nat_tests) in
      rw test (at_row lt)
  | inr le ↦
      let test : nat_lt (next_number after) (length (rows_in heaps table)) ≡ false = grind (arith, nat_tests) in
      rw test (at_end le)
]
  where
    there : (n : ℕ) → n < length (rows_in heaps table) → next_number after ≤ n → (slot : Slot) × (row_at (rows_in heaps table) (rid_at n) ≡ Some slot) × (is_behind after (rid_at n) ≡ true)
    there n lt le = let g = slice_get_some (rows_in heaps table) n lt in (g.0, row_is (rows_in heaps table) n ∙ g.1, number_behind after n le)

    at_row : next_number after < length (rows_in heaps table) → IsFirstBehind (heaps_of heaps) table after (Some (rid_at (next_number after)))
    at_row lt = record {
      there = there (next_number after) lt (omega arith);
      first = by_rid (λ r. is_behind after r ≡ true → is_before r (Some (rid_at (next_number after))) ≡ true → row_at (rows_in heaps table) r ≡ None)
          (λ m behind before. let h = behind_number after m behind in let k = before_number m (next_number after) before in absurd (omega (arith, h, k)))
          (λ r off behind before. rw off refl);
    }

    at_end : length (rows_in heaps table) ≤ next_number after → IsFirstBehind (heaps_of heaps) table after None
    at_end le = record {
      there = tt;
      first = by_rid (λ r. is_behind after r ≡ true → is_before r None ≡ true → row_at (rows_in heaps table) r ≡ None)
          (λ m behind before. row_is (rows_in heaps table) m ∙ slice_get_past (rows_in heaps table) m (let h = behind_number after m behind in omega (arith, h, le)))
          (λ r off behind before. rw off refl);
    }

-- WHAT IS KEPT
pub kept_holders : (l : Lists) (hs : List Holder) → IsKept l → AreHolders hs → IsKept (record l { holders = hs })
kept_holders l hs k ok = record { txns = k.txns; unborn = k.unborn; containers = k.containers; heaps_made = k.heaps_made; heaps_short = k.heaps_short; holders = ok }

pub kept_counts : (l : Lists) (p q : ℕ) → IsKept l → IsKept (record l { no_pages = p; no_log = q })
kept_counts l p q k = record { txns = k.txns; unborn = k.unborn; containers = k.containers; heaps_made = k.heaps_made; heaps_short = k.heaps_short; holders = k.holders }

-- the changes of a transaction below the next number
pub kept_begun : (l : Lists) (b : List (TxnNo × Open)) (t : ℕ) (items : Option (List Item)) → Becomes l.begun b t items → t < l.next_txn → IsKept l → IsKept (record l { begun = b })
kept_begun l b t items become lt k = record {
  txns = k.txns;
  unborn = λ u le. become u ∙ at_away (changes_of l.begun) t items u (λ e. let h = e in absurd (omega (arith, h, le, lt))) ∙ k.unborn u le;
  containers = k.containers;
  heaps_made = k.heaps_made;
  heaps_short = k.heaps_short;
  holders = k.holders;
}

pub kept_same : (l : Lists) (b : List (TxnNo × Open)) → ((u : ℕ) → changes_of b u ≡ changes_of l.begun u) → IsKept l → IsKept (record l { begun = b })
kept_same l b same k = record {
  txns = k.txns;
  unborn = λ u le. same u ∙ k.unborn u le;
  containers = k.containers;
  heaps_made = k.heaps_made;
  heaps_short = k.heaps_short;
  holders = k.holders;
}

-- a transaction that is open is below the next number
pub open_below : (l : Lists) (t : ℕ) → IsKept l → changes_of l.begun t ≢ None → t < l.next_txn
open_below l t k begun = elim (cases_lt t l.next_txn) [ inl lt ↦ lt | inr le ↦ absurd (begun (k.unborn t le)) ]

-- the rows of a table that was made
pub kept_rows : (l : Lists) (hs : List (ℕ × Heap)) (table : ℕ) (rows : List Slot) → RowsBecome l.heaps hs table rows → table < l.next_container → length rows ≤ 2 ^ 40 → IsKept l → IsKept (record l { heaps = hs })
kept_rows l hs table rows become made short k = record {
  txns = k.txns;
  unborn = k.unborn;
  containers = k.containers;
  heaps_made = λ n le.
      (become.rows_are n ∙ at_away (rows_in l.heaps) table rows n (λ e. let h = e in absurd (omega (arith, h, le, made))) ∙ (k.heaps_made n le).0, become.given_same n ∙ (k.heaps_made n le).1);
  heaps_short = λ n. subst (λ xs. length xs ≤ 2 ^ 40) (sym (become.rows_are n)) (elim (cases_eq n table) [
    | inl e ↦ subst (λ m. length (at_number (rows_in l.heaps) table rows m) ≤ 2 ^ 40) (sym e) (subst (λ xs. length xs ≤ 2 ^ 40) (sym (at_here (rows_in l.heaps) table rows)) short)
    | inr ne ↦ subst (λ xs. length xs ≤ 2 ^ 40) (sym (at_away (rows_in l.heaps) table rows n ne)) (k.heaps_short n)
  ]);
  holders = k.holders;
}

pub kept_given : (l : Lists) (hs : List (ℕ × Heap)) (table : ℕ) (columns : List ColumnDef) → GivenBecomes l.heaps hs table columns → table < l.next_container → IsKept l → IsKept (record l { heaps = hs })
kept_given l hs table columns become made k = record {
  txns = k.txns;
  unborn = k.unborn;
  containers = k.containers;
  heaps_made = λ n le.
      (become.rows_same n ∙ (k.heaps_made n le).0, become.given_are n ∙ at_away (given_in l.heaps) table (Some columns) n (λ e. let h = e in absurd (omega (arith, h, le, made))) ∙ (k.heaps_made n le).1);
  heaps_short = λ n. subst (λ xs. length xs ≤ 2 ^ 40) (sym (become.rows_same n)) (k.heaps_short n);
  holders = k.holders;
}

pub kept_as : (l : Lists) (hs : List (ℕ × Heap)) → AreSame l.heaps hs → IsKept l → IsKept (record l { heaps = hs })
kept_as l hs same k = record {
  txns = k.txns;
  unborn = k.unborn;
  containers = k.containers;
  heaps_made = λ n le. (same.rows_same n ∙ (k.heaps_made n le).0, same.given_same n ∙ (k.heaps_made n le).1);
  heaps_short = λ n. subst (λ xs. length xs ≤ 2 ^ 40) (sym (same.rows_same n)) (k.heaps_short n);
  holders = k.holders;
}

kept_none : {X : Type 0} (P : X → Type 0) (none : X) → P none → (f : ℕ → X) (c : ℕ) → ((n : ℕ) → P (f n)) → (n : ℕ) → P (at_number f c none n)
kept_none P none ok f c each n = elim (cases_eq n c) [
  | inl e ↦ subst (λ m. P (at_number f c none m)) (sym e) (subst P (sym (at_here f c none)) ok)
  | inr ne ↦ subst P (sym (at_away f c none n ne)) (each n)
]

none_stays : {X : Type 0} (none : X) (f : ℕ → X) (c n : ℕ) → f n ≡ none → at_number f c none n ≡ none
none_stays none f c n e = elim (cases_eq n c) [
  | inl same ↦ subst (λ m. at_number f c none m ≡ none) (sym same) (at_here f c none)
  | inr ne ↦ at_away f c none n ne ∙ e
]

pub kept_drop : (l : Lists) (hs : List (ℕ × Heap)) (c : ℕ) → Drops l.heaps hs c → IsKept l → IsKept (record l { heaps = hs })
kept_drop l hs c drops k = record {
  txns = k.txns;
  unborn = k.unborn;
  containers = k.containers;
  heaps_made = λ n le. (drops.rows_are n ∙ none_stays [] (rows_in l.heaps) c n (k.heaps_made n le).0, drops.given_are n ∙ none_stays None (given_in l.heaps) c n (k.heaps_made n le).1);
  heaps_short = λ n. subst (λ xs. length xs ≤ 2 ^ 40) (sym (drops.rows_are n)) (kept_none (λ xs. length xs ≤ 2 ^ 40) [] (omega arith) (rows_in l.heaps) c k.heaps_short n);
  holders = k.holders;
}

all_short : (items : List Item) (f : ℕ → List Slot) → ((n : ℕ) → length (f n) ≤ 2 ^ 40) → (n : ℕ) → length (without_discarded [] items f n) ≤ 2 ^ 40
all_short [] f short n = short n
all_short (Changed table rid before ∷ items) f short n = all_short items f short n
all_short (Created c ∷ items) f short n = all_short items f short n
all_short (Discarded c ∷ items) f short n = all_short items (at_number f c []) (kept_none (λ xs. length xs ≤ 2 ^ 40) [] (omega arith) f c short) n

all_none : {X : Type 0} (none : X) (items : List Item) (f : ℕ → X) (n : ℕ) → f n ≡ none → without_discarded none items f n ≡ none
all_none none [] f n e = e
all_none none (Changed table rid before ∷ items) f n e = all_none none items f n e
all_none none (Created c ∷ items) f n e = all_none none items f n e
all_none none (Discarded c ∷ items) f n e = all_none none items (at_number f c none) n (none_stays none f c n e)

pub kept_drops : (l : Lists) (hs : List (ℕ × Heap)) (items : List Item) → DropsAll l.heaps hs items → IsKept l → IsKept (record l { heaps = hs })
kept_drops l hs items drops k = record {
  txns = k.txns;
  unborn = k.unborn;
  containers = k.containers;
  heaps_made = λ n le. (drops.rows_are n ∙ all_none [] items (rows_in l.heaps) n (k.heaps_made n le).0, drops.given_are n ∙ all_none None items (given_in l.heaps) n (k.heaps_made n le).1);
  heaps_short = λ n. subst (λ xs. length xs ≤ 2 ^ 40) (sym (drops.rows_are n)) (all_short items (rows_in l.heaps) k.heaps_short n);
  holders = k.holders;
}

-- a table that was described was made
pub described_below : (l : Lists) (n : ℕ) → IsKept l → columns_of l.heaps n ≢ None → n < l.next_container
described_below l n k described = elim (cases_lt n l.next_container) [
  | inl lt ↦ lt
  | inr le ↦
      let up : 4 ≤ n = (let c = k.containers.0 in omega (arith, c, le)) in
      absurd (described (ap (λ x. given_or x (catalog_columns n)) (k.heaps_made n le).1 ∙ no_catalog n up))
]
  where
    no_catalog : (n : ℕ) → 4 ≤ n → catalog_columns n ≡ None
    no_catalog n up =
        let one : (n == 1) ≡ false = grind (arith, nat_tests) in
        let two : (n == 2) ≡ false = grind (arith, nat_tests) in
        let three : (n == 3) ≡ false = grind (arith, nat_tests) in
        rw (one, two, three) refl

-- WHAT IS SEEN. The frame of a call
pub frame_of : (l l' : Lists) (a : ℕ) → ((b : ℕ) → b ≢ a → holder_in b l'.holders ≡ holder_in b l.holders) → pages_of (holder_in a l'.holders) ≤ pages_of (holder_in a l.holders) + 1
    → l'.next_container ≡ l.next_container → Frame a (seen l) (seen l')
frame_of l l' a others one same = record {
  others = λ b ne. ap holding_of (others b ne);
  one_more = one;
  limit_same = refl;
  pages_same = ap (λ n. n - 13) same;
}

pub growing_frame_of : (l l' : Lists) (a : ℕ) → ((b : ℕ) → b ≢ a → holder_in b l'.holders ≡ holder_in b l.holders) → pages_of (holder_in a l'.holders) ≤ pages_of (holder_in a l.holders) + 1
    → l.next_container ≤ l'.next_container → l'.next_container ≤ l.next_container + 1 → GrowingFrame a (seen l) (seen l')
growing_frame_of l l' a others one le few = record {
  others = λ b ne. ap holding_of (others b ne);
  one_more = one;
  limit_same = refl;
  more_pages = omega arith;
  few_pages = omega arith;
}

abbrev one_or_two : Bool → ℕ
one_or_two v = if v then 1 else 2

-- what holds of the store at any time
pub sound : (l : Lists) → IsKept l → IsSound (seen l)
sound l k = record {
  limit = (omega arith, omega arith);
  txns = k.txns;
  begun = k.unborn;
  containers = k.containers;
  fresh = λ n r le. ap (λ xs. row_at xs r) (k.heaps_made n le).0 ∙ empty r;
  apart = λ a b table r ne h. holders_apart l.holders k.holders a b table ne h;
  few = λ a. pages_few (holder_in a l.holders);
  none = λ a e. nothing_in (holder_in a l.holders).place (holder_in a l.holders).page (holder_in a l.holders).room e;
  at_row = λ a p r place at. at_table (holder_in a l.holders).place (is_page (holder_in a l.holders).page p.table) p place;
  turns = λ a. omega arith;
}
  where
    empty : (r : RowId) → row_at [] r ≡ None
    empty r = by_rid (λ r. row_at [] r ≡ None) (λ m. row_is [] m) (λ r off. rw off refl) r

    at_table : (place : Option Place) (more : Bool) (p : Place) → place ≡ Some p → (is_place_in place p.table || more) ≡ true
    at_table place more p e = ap (λ x. is_place_in x p.table || more) e ∙ (let t : (p.table == p.table) ≡ true = eq-eqb p.table p.table refl in rw t refl)

    nothing_in : (place : Option Place) (page : Option ℕ) (room : Bool) → pages_in place page ≡ 0
        → HoldsNone (record { place = place; holds = λ table rid. is_place_in place table || is_page page table; pages = pages_in place page; room = room_of room page; turns = 0 })
    nothing_in None None true e = record { no_place = refl; no_page = λ t r. refl; no_room = refl }
    nothing_in None None false e = record { no_place = refl; no_page = λ t r. refl; no_room = refl }
    nothing_in None (Some n) room e = absurd (omega (arith, e))
    nothing_in (Some p) None room e = absurd (omega (arith, e))
    nothing_in (Some p) (Some n) room e = absurd (one_two (p.table == n) e)
      where
        one_two : (v : Bool) → one_or_two v ≡ 0 → ⊥
        one_two true e = absurd (omega (arith, e))
        one_two false e = absurd (omega (arith, e))

-- What is stored goes on showing the log's state, call by call.
use Rattle.std.proofs.Common.{◌≡◌, ◌≢◌, ℕ, List, [], ◌∷◌, Bool, true, false, Option, Some, None, refl, sym, ◌∙◌, ap, subst, arith, inl, inr}
use Rattle.std.specs.Prelude.{◌&&◌, ◌==◌, if◌then◌else◌, slice_index_or}
use Rattle.std.proofs.lemmas.Bool.Decides.{nat_tests}
use Rattle.std.proofs.lemmas.Bool.{cases_eq}
use Rattle.dby_types.specs.declared.number.RowId.{RowId}
use Rattle.table_model.specs.Tables.{Each, is_same_rid, rest_of}
use Rattle.log_model.specs.Places.{Place, Database, Change, put, reversed, row_place, container_place}
use Rattle.log_model.specs.Steps.{changes_of, newest_of, without_newest}
use Rattle.log_model.specs.Steps.Step.{change, compensation, commit, rolled_back}
use Rattle.log_model.specs.States.{State, IsOpen, MayFollow, stepped}
use Rattle.log_model.proofs.Lists.{changes_mine, changes_other, changes_rest, newest_txn}
use Rattle.log_model.proofs.Effects.{row_put, container_put}
use Rattle.log_model.proofs.Apiece.{lists_follow}
use Rattle.store_api.specs.declared.slot.Slot.{Slot}
use Rattle.store_api.specs.declared.slot.Item.{Item}
use Rattle.store_api.specs.declared.slot.Item.TheVariants.{Changed, Created, Discarded}
use Rattle.store_api.specs.View.{Content, Heaps, at_number, put_slot, live, changes_in}
use Rattle.store_api.specs.Effects.{IsElsewhere, IsOutside, with_item, with_slot, put_back, taken_back, without_container, without_discarded, without_txn, committed}
use Rattle.store_model.specs.Nets.{Row, IsItem, AreItems, Shows}
use Rattle.store_model.specs.Effects.{row_change, made, container_change, AreEmptied}

-- a list of another place in a function of numbers, and the same choice the other way round
here : {Y : Type 0} (u t : ℕ) (x y : Y) → u ≡ t → (if u == t then x else y) ≡ x
here u t x y e = grind (arith, nat_tests)

there : {Y : Type 0} (u t : ℕ) (x y : Y) → u ≢ t → (if u == t then x else y) ≡ y
there u t x y ne = grind (arith, nat_tests)

-- the items of each transaction, where one has others now
items_at : (d : Content) (s : State Row) (t u : ℕ) (cs : List (Change Row)) (o : Option (List Item)) → Shows d s → AreItems cs (changes_in o)
    → AreItems (if t == u then cs else changes_of u s.standing) (changes_in (at_number d.changes t o u))
items_at d s t u cs o shows are = elim (cases_eq u t) [
  | inl e ↦ subst (λ (x : List (Change Row)). AreItems x (changes_in (at_number d.changes t o u))) (sym (here t u cs (changes_of u s.standing) (sym e)))
      (subst (λ (x : Option (List Item)). AreItems cs (changes_in x)) (sym (here u t o (d.changes u) e)) are)
  | inr ne ↦ subst (λ (x : List (Change Row)). AreItems x (changes_in (at_number d.changes t o u))) (sym (there t u cs (changes_of u s.standing) (λ e. ne (sym e))))
      (subst (λ (x : Option (List Item)). AreItems (changes_of u s.standing) (changes_in x)) (sym (there u t o (d.changes u) ne)) (shows.items u))
]

nested : (a b : Bool) (x y : Option Slot) → live (if a then (if b then x else y) else y) ≡ (if a && b then live x else live y)
nested true true x y = refl
nested true false x y = refl
nested false b x y = refl

-- a slot put, read as a row
row_slot : (heaps : Heaps) (shown : Database Row) (table : ℕ) (rid : RowId) (o : Option Slot) (x : Row) → ((t : ℕ) (r : RowId) → live (heaps t r) ≡ shown (row_place t r)) → live o ≡ x
    → (t : ℕ) (r : RowId) → live (put_slot heaps table rid o t r) ≡ put shown (row_place table rid) x (row_place t r)
row_slot heaps shown table rid o x rows e t r =
    nested (t == table) (is_same_rid r rid) o (heaps t r)
    ∙ ap (λ z. if (t == table) && is_same_rid r rid then z else live (heaps t r)) e
    ∙ ap (λ z. if (t == table) && is_same_rid r rid then x else z) (rows t r)
    ∙ sym (row_put shown table t rid r x)

-- AN ITEM MORE of one transaction
item_added : (d : Content) (s : State Row) (c : Change Row) (i : Item) → Shows d s → IsItem c i → (u : ℕ)
    → AreItems (changes_of u (stepped s (change c)).standing) (changes_in (at_number d.changes c.txn (Some (i ∷ changes_in (d.changes c.txn))) u))
item_added d s c i shows is u = subst (λ (x : List (Change Row)). AreItems x (changes_in (at_number d.changes c.txn (Some (i ∷ changes_in (d.changes c.txn))) u)))
    (sym (lists_follow s (change c) u ∙ mine))
    (items_at d s c.txn u (c ∷ changes_of c.txn s.standing) (Some (i ∷ changes_in (d.changes c.txn))) shows (is, shows.items c.txn))
  where
    mine : (if c.txn == u then c ∷ changes_of u s.standing else changes_of u s.standing) ≡ (if c.txn == u then c ∷ changes_of c.txn s.standing else changes_of u s.standing)
    mine = elim (cases_eq c.txn u) [
      | inl e ↦ ap (λ v. if c.txn == u then c ∷ changes_of v s.standing else changes_of u s.standing) (sym e)
      | inr ne ↦ there c.txn u (c ∷ changes_of u s.standing) (changes_of u s.standing) ne ∙ sym (there c.txn u (c ∷ changes_of c.txn s.standing) (changes_of u s.standing) ne)
    ]

pub row_changed : (d : Content) (s : State Row) (t table : ℕ) (rid : RowId) (slot : Slot) → Shows d s → Shows (with_slot d t table rid slot) (stepped s (change (row_change d t table rid slot)))
row_changed d s t table rid slot shows = record {
  rows = row_slot d.heaps s.shown table rid (Some slot) (live (Some slot)) shows.rows refl;
  items = item_added d s (row_change d t table rid slot) (Changed table rid (d.heaps table rid)) shows (refl, refl);
}

-- something at a container's own place is no row
container_rows : (d : Content) (s : State Row) (p : Place) (n : ℕ) (x : Row) → Shows d s → p ≡ container_place n → (t : ℕ) (r : RowId) → live (d.heaps t r) ≡ put s.shown p x (row_place t r)
container_rows d s p n x shows e t r = shows.rows t r ∙ sym (ap (λ q. put s.shown q x (row_place t r)) e ∙ container_put s.shown n t r x)

pub container_made : (d : Content) (s : State Row) (t n next : ℕ) → Shows d s → Shows (record (with_item d t (Created n)) { next_container = next }) (stepped s (change (container_change s t n made)))
container_made d s t n next shows = record { rows = container_rows d s (container_place n) n made shows refl; items = item_added d s (container_change s t n made) (Created n) shows refl }

pub container_given_up : (d : Content) (s : State Row) (t n : ℕ) → Shows d s → Shows (with_item d t (Discarded n)) (stepped s (change (container_change s t n None)))
container_given_up d s t n shows = record { rows = container_rows d s (container_place n) n None shows refl; items = item_added d s (container_change s t n None) (Discarded n) shows refl }

-- a row's place tells its table and row id
row_is : (table t : ℕ) (rid r : RowId) → row_place table rid ≡ row_place t r → (t ≡ table) × (r ≡ rid)
row_is table t rid r e =
    let page = ap (λ (p : Place). slice_index_or p.key 0 0) e in
    let slot = ap (λ (p : Place). slice_index_or p.key 1 0) e in
    (sym (ap (λ (p : Place). p.container) e), sym (λ i. record { page = page i; slot = slot i }))

row_no_container : (table n : ℕ) (rid : RowId) → row_place table rid ≡ container_place n → ⊥
row_no_container table n rid e = cons (ap (λ (p : Place). p.key) e)
  where
    cons : rid.page ∷ rid.slot ∷ [] ≡ [] → ⊥
    cons k = cc

items_elsewhere : (table : ℕ) (rid : RowId) (cs : List (Change Row)) (items : List Item) → AreItems cs items → Each (IsElsewhere table rid) items → Each (λ (c : Change Row). row_place table rid ≢ c.place) cs
items_elsewhere table rid [] items are h = tt
items_elsewhere table rid (c ∷ cs) [] are h = absurd are
items_elsewhere table rid (c ∷ cs) (Changed t r before ∷ items) are h = (
  (λ e. let same = row_is table t rid r (e ∙ are.0.0) in h.0 same.0 same.1),
  items_elsewhere table rid cs items are.1 h.1,
)
items_elsewhere table rid (c ∷ cs) (Created n ∷ items) are h = ((λ e. row_no_container table n rid (e ∙ are.0)), items_elsewhere table rid cs items are.1 h.1)
items_elsewhere table rid (c ∷ cs) (Discarded n ∷ items) are h = ((λ e. row_no_container table n rid (e ∙ are.0)), items_elsewhere table rid cs items are.1 h.1)

items_outside : (n : ℕ) (cs : List (Change Row)) (items : List Item) → AreItems cs items → Each (IsOutside n) items → Each (λ (c : Change Row). container_place n ≢ c.place) cs
items_outside n [] items are h = tt
items_outside n (c ∷ cs) [] are h = absurd are
items_outside n (c ∷ cs) (Changed t r before ∷ items) are h = ((λ e. row_no_container t n r (sym (e ∙ are.0.0))), items_outside n cs items are.1 h.1)
items_outside n (c ∷ cs) (Created m ∷ items) are h = ((λ e. h.0 (sym (ap (λ (p : Place). p.container) (e ∙ are.0)))), items_outside n cs items are.1 h.1)
items_outside n (c ∷ cs) (Discarded m ∷ items) are h = ((λ e. h.0 (sym (ap (λ (p : Place). p.container) (e ∙ are.0)))), items_outside n cs items are.1 h.1)

-- what holds of each other transaction's changes holds of all changes of others
each_of : (P : Change Row → Type 0) (t : ℕ) (cs : List (Change Row)) → ((u : ℕ) → u ≢ t → Each P (changes_of u cs)) → Each (λ (c : Change Row). c.txn ≢ t → P c) cs
each_of P t [] h = tt
each_of P t (c ∷ cs) h = (
  (λ ne. (subst (Each P) (changes_mine c.txn c cs refl) (h c.txn ne)).0),
  each_of P t cs (λ u ne. elim (cases_eq c.txn u) [
    | inl e ↦ (subst (Each P) (changes_mine u c cs e) (h u ne)).1
    | inr other ↦ subst (Each P) (changes_other u c cs other) (h u ne)
  ]),
)

-- AND SUCH A CHANGE MAY FOLLOW, where the contract lets it be made
pub row_may_change : (d : Content) (s : State Row) (t table : ℕ) (rid : RowId) (slot : Slot) → Shows d s → IsOpen t s → ((u : ℕ) → u ≢ t → Each (IsElsewhere table rid) (changes_in (d.changes u)))
    → MayFollow s (change (row_change d t table rid slot))
row_may_change d s t table rid slot shows is free = (
  is,
  shows.rows table rid,
  each_of (λ (c : Change Row). row_place table rid ≢ c.place) t s.standing (λ u ne. items_elsewhere table rid (changes_of u s.standing) (changes_in (d.changes u)) (shows.items u) (free u ne)),
)

pub container_may_change : (d : Content) (s : State Row) (t n : ℕ) (x : Row) → Shows d s → IsOpen t s → ((u : ℕ) → u ≢ t → Each (IsOutside n) (changes_in (d.changes u)))
    → MayFollow s (change (container_change s t n x))
container_may_change d s t n x shows is free = (
  is,
  refl,
  each_of (λ (c : Change Row). container_place n ≢ c.place) t s.standing (λ u ne. items_outside n (changes_of u s.standing) (changes_in (d.changes u)) (shows.items u) (free u ne)),
)

-- A ROW TAKEN BACK
put_back_live : (before now : Option Slot) → now ≢ None → live (put_back before now) ≡ live before
put_back_live before None h = absurd (h refl)
put_back_live (Some b) (Some n) h = refl
put_back_live None (Some n) h = refl

-- AN ITEM LESS of one transaction, which was its newest change
newest_is : (d : Content) (s : State Row) (t : ℕ) (i : Item) (rest : List Item) (c : Change Row) → Shows d s → newest_of t s.standing ≡ Some c → d.changes t ≡ Some (i ∷ rest) → AreItems (c ∷ rest_of (changes_of t s.standing)) (i ∷ rest)
newest_is d s t i rest c shows n list =
    let first : changes_of t s.standing ≡ c ∷ changes_of t (without_newest t s.standing) = changes_rest t s.standing c n in
    subst (λ (x : List Item). AreItems (c ∷ rest_of (changes_of t s.standing)) x) (ap changes_in list)
    (subst (λ (x : List (Change Row)). AreItems x (changes_in (d.changes t))) (first ∙ ap (λ (x : List (Change Row)). c ∷ rest_of x) (sym first)) (shows.items t))

item_taken : (d : Content) (s : State Row) (t : ℕ) (i : Item) (rest : List Item) (c : Change Row) → Shows d s → newest_of t s.standing ≡ Some c → d.changes t ≡ Some (i ∷ rest) → (u : ℕ)
    → AreItems (changes_of u (stepped s (compensation (reversed c))).standing) (changes_in (at_number d.changes t (Some rest) u))
item_taken d s t i rest c shows n list u = subst (λ (x : List (Change Row)). AreItems x (changes_in (at_number d.changes t (Some rest) u)))
    (sym (lists_follow s (compensation (reversed c)) u ∙ mine))
    (items_at d s t u (rest_of (changes_of t s.standing)) (Some rest) shows (newest_is d s t i rest c shows n list).1)
  where
    mine : (if c.txn == u then rest_of (changes_of u s.standing) else changes_of u s.standing) ≡ (if t == u then rest_of (changes_of t s.standing) else changes_of u s.standing)
    mine = ap (λ v. if v == u then rest_of (changes_of u s.standing) else changes_of u s.standing) (newest_txn t s.standing c n) ∙ elim (cases_eq t u) [
      | inl e ↦ ap (λ v. if t == u then rest_of (changes_of v s.standing) else changes_of u s.standing) (sym e)
      | inr ne ↦ there t u (rest_of (changes_of u s.standing)) (changes_of u s.standing) ne ∙ sym (there t u (rest_of (changes_of t s.standing)) (changes_of u s.standing) ne)
    ]

pub row_undone : (d : Content) (s : State Row) (t table : ℕ) (rid : RowId) (before : Option Slot) (rest : List Item) (c : Change Row) → Shows d s → newest_of t s.standing ≡ Some c
    → d.changes t ≡ Some (Changed table rid before ∷ rest) → d.heaps table rid ≢ None
    → Shows (record (taken_back d (Changed table rid before)) { changes = at_number d.changes t (Some rest) }) (stepped s (compensation (reversed c)))
row_undone d s t table rid before rest c shows n list stands =
    let is : IsItem c (Changed table rid before) = (newest_is d s t (Changed table rid before) rest c shows n list).0 in
    record {
      rows = λ v r. row_slot d.heaps s.shown table rid (put_back before (d.heaps table rid)) c.before shows.rows (put_back_live before (d.heaps table rid) stands ∙ sym is.1) v r
          ∙ ap (λ (p : Place). put s.shown p c.before (row_place v r)) (sym is.0);
      items = item_taken d s t (Changed table rid before) rest c shows n list;
    }

-- AN END
pub rollback_shown : (d : Content) (s : State Row) (t : ℕ) → Shows d s → Shows (without_txn d t) (stepped s (rolled_back t))
rollback_shown d s t shows = record {
  rows = shows.rows;
  items = λ u. subst (λ (x : List (Change Row)). AreItems x (changes_in (at_number d.changes t None u))) (sym (lists_follow s (rolled_back t) u)) (items_at d s t u [] None shows tt);
}

-- containers given up in which no live row stands
emptied : (n : ℕ) (d : Content) → ((rid : RowId) → live (d.heaps n rid) ≡ None) → (t : ℕ) (r : RowId) → live ((without_container d n).heaps t r) ≡ live (d.heaps t r)
emptied n d none t r = elim (cases_eq t n) [
  | inl e ↦ ap live (here t n None (d.heaps t r) e) ∙ sym (none r) ∙ ap (λ v. live (d.heaps v r)) (sym e)
  | inr ne ↦ ap live (there t n None (d.heaps t r) ne)
]

still_emptied : (heaps now : Heaps) (items : List Item) → ((t : ℕ) (r : RowId) → live (now t r) ≡ live (heaps t r)) → AreEmptied heaps items → AreEmptied now items
still_emptied heaps now [] same h = tt
still_emptied heaps now (Changed t r b ∷ items) same h = still_emptied heaps now items same h
still_emptied heaps now (Created n ∷ items) same h = still_emptied heaps now items same h
still_emptied heaps now (Discarded n ∷ items) same h = ((λ rid. same n rid ∙ h.0 rid), still_emptied heaps now items same h.1)

discarded_rows : (items : List Item) (d : Content) → AreEmptied d.heaps items → (t : ℕ) (r : RowId) → live ((without_discarded items d).heaps t r) ≡ live (d.heaps t r)
discarded_rows [] d h t r = refl
discarded_rows (Changed a b c ∷ items) d h t r = discarded_rows items d h t r
discarded_rows (Created n ∷ items) d h t r = discarded_rows items d h t r
discarded_rows (Discarded n ∷ items) d h t r = let same = emptied n d h.0 in discarded_rows items (without_container d n) (still_emptied d.heaps (without_container d n).heaps items same h.1) t r ∙ same t r

discarded_lists : (items : List Item) (d : Content) → (without_discarded items d).changes ≡ d.changes
discarded_lists [] d = refl
discarded_lists (Changed a b c ∷ items) d = discarded_lists items d
discarded_lists (Created n ∷ items) d = discarded_lists items d
discarded_lists (Discarded n ∷ items) d = discarded_lists items (without_container d n)

pub commit_shown : (d : Content) (s : State Row) (t : ℕ) → Shows d s → AreEmptied d.heaps (changes_in (d.changes t)) → Shows (committed d t) (stepped s (commit t))
commit_shown d s t shows h = record {
  rows = λ v r. discarded_rows (changes_in (d.changes t)) d h v r ∙ shows.rows v r;
  items = λ u. subst (λ (f : ℕ → Option (List Item)). AreItems (changes_of u (stepped s (commit t)).standing) (changes_in (at_number f t None u))) (sym (discarded_lists (changes_in (d.changes t)) d))
      (subst (λ (x : List (Change Row)). AreItems x (changes_in (at_number d.changes t None u))) (sym (lists_follow s (commit t) u)) (items_at d s t u [] None shows tt));
}

-- A CONTAINER taken back: one that was made goes with what stood in it, where no live row did
pub making_undone : (d : Content) (s : State Row) (t n : ℕ) (rest : List Item) (c : Change Row) → Shows d s → newest_of t s.standing ≡ Some c → d.changes t ≡ Some (Created n ∷ rest)
    → ((rid : RowId) → live (d.heaps n rid) ≡ None) → Shows (record (taken_back d (Created n)) { changes = at_number d.changes t (Some rest) }) (stepped s (compensation (reversed c)))
making_undone d s t n rest c shows first list none = record {
  rows = λ v r. emptied n d none v r ∙ container_rows d s c.place n c.before shows (newest_is d s t (Created n) rest c shows first list).0 v r;
  items = item_taken d s t (Created n) rest c shows first list;
}

pub giving_up_undone : (d : Content) (s : State Row) (t n : ℕ) (rest : List Item) (c : Change Row) → Shows d s → newest_of t s.standing ≡ Some c → d.changes t ≡ Some (Discarded n ∷ rest)
    → Shows (record (taken_back d (Discarded n)) { changes = at_number d.changes t (Some rest) }) (stepped s (compensation (reversed c)))
giving_up_undone d s t n rest c shows first list = record {
  rows = container_rows d s c.place n c.before shows (newest_is d s t (Discarded n) rest c shows first list).0;
  items = item_taken d s t (Discarded n) rest c shows first list;
}

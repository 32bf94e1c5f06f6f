-- The list of holders.
use Rattle.std.proofs.Common.{◌≡◌, ◌≢◌, ◌+◌, ◌<◌, ℕ, List, [], ◌∷◌, ◌++◌, length, Option, Some, None, Bool, true, false, not, ◌&&◌, ◌||◌, ◌==◌, refl, sym, ◌∙◌, ap, subst, arith, inl, inr, suc, take, drop, if◌then◌else◌, ◌⊎◌, map, ◌≤◌}
use Rattle.std.specs.Prelude.{slice_set}
use Rattle.std.specs.List.{remove, refill}
use Rattle.std.proofs.Math.Seq.{take-length}
use Rattle.std.proofs.lemmas.List.{take-append-le}
use Rattle.std.proofs.lemmas.Bool.Decides.{nat_tests}
use Rattle.std.proofs.lemmas.Bool.{both_ways, cases_eq, and_parts}
use Rattle.list_store.specs.declared.holders.Holder.{Holder}
use Rattle.list_store.specs.Holders.{holder_in, with_holder, without_actor, place_from, no_holder, touches, pages_of, other_in, AreApart, AreHolders, MayPut, is_place_in, is_page, pages_in}
use Rattle.list_store.specs.Places.{placed as at_table, fixed}
use Rattle.dby_types.specs.declared.number.RowId.{RowId}
use Rattle.store_api.specs.declared.places.Place.{Place}
use Rattle.store_api.specs.View.{AreDistinct, FewerThan}
use Rattle.table_model.specs.Tables.{Each}
use Rattle.table_model.proofs.TablesLemmas.{each_map}

-- where an actor stands, and what it is to write or to take away there
pub record Placed (n i : ℕ) (hs : List Holder) (a : ℕ) : Type 0 where
  pub k : ℕ
  pub is : i ≡ n + k
  pub within : k < length hs
  pub set : (new : Holder) → new.actor ≡ a → slice_set hs k new ≡ with_holder new hs
  pub removed : remove hs k ≡ without_actor a hs

some_is : {X : Type 0} {x y : X} → Some x ≡ Some y → x ≡ y
some_is e = cc

pub test_true : (a b : ℕ) → a ≡ b → (a == b) ≡ true
test_true a b e = grind (arith, nat_tests)

pub test_false : (a b : ℕ) → a ≢ b → (a == b) ≡ false
test_false a b ne = grind (arith, nat_tests)

pub if_true : {X : Type 0} (b : Bool) (x y : X) → b ≡ true → (if b then x else y) ≡ x
if_true true x y e = refl
if_true false x y e = absurd (both_ways _ refl e)

pub if_false : {X : Type 0} (b : Bool) (x y : X) → b ≡ false → (if b then x else y) ≡ y
if_false false x y e = refl
if_false true x y e = absurd (both_ways _ e refl)

pub placed : (n a : ℕ) (hs : List Holder) (i : ℕ) → place_from n a hs ≡ Some i → Placed n i hs a
placed n a [] i e = absurd cc
placed n a (h ∷ hs) i e = elim (cases_eq h.actor a) [
  | inl eq ↦
      let here : n ≡ i = some_is (sym (if_true (h.actor == a) _ _ (test_true _ _ eq)) ∙ e) in
      record {
        k = 0;
        is = omega arith;
        within = omega arith;
        set = λ new same. sym (if_true (h.actor == new.actor) _ _ (test_true _ _ (eq ∙ sym same)));
        removed = sym (if_true (h.actor == a) _ _ (test_true _ _ eq));
      }
  | inr ne ↦
      let p = placed (n + 1) a hs i (sym (if_false (h.actor == a) _ _ (test_false _ _ ne)) ∙ e) in
      let at : i ≡ n + suc p.k = p.is ∙ omega arith in
      let lt : p.k < length hs = p.within in
      let lt' : suc p.k < suc (length hs) = omega arith in
      record {
        k = suc p.k;
        is = at;
        within = lt';
        set = λ new same. ap (λ xs. h ∷ xs) (p.set new same) ∙ sym (if_false (h.actor == new.actor) _ _ (test_false _ _ (λ e. ne (e ∙ same))));
        removed = ap (λ xs. h ∷ xs) p.removed ∙ sym (if_false (h.actor == a) _ _ (test_false _ _ ne));
      }
]

-- an actor that isn't in the list
pub record Missing (hs : List Holder) (a : ℕ) : Type 0 where
  pub pushed : (new : Holder) → new.actor ≡ a → hs ++ new ∷ [] ≡ with_holder new hs
  pub unchanged : hs ≡ without_actor a hs
  pub none : holder_in a hs ≡ no_holder a

pub missing : (n a : ℕ) (hs : List Holder) → place_from n a hs ≡ None → Missing hs a
missing n a [] e = record { pushed = λ new same. refl; unchanged = refl; none = refl }
missing n a (h ∷ hs) e = elim (cases_eq h.actor a) [
  | inl eq ↦ absurd (some_none n (sym (if_true (h.actor == a) _ _ (test_true _ _ eq)) ∙ e))
  | inr ne ↦
      let p = missing (n + 1) a hs (sym (if_false (h.actor == a) _ _ (test_false _ _ ne)) ∙ e) in
      record {
        pushed = λ new same. ap (λ xs. h ∷ xs) (p.pushed new same) ∙ sym (if_false (h.actor == new.actor) _ _ (test_false _ _ (λ e. ne (e ∙ same))));
        unchanged = ap (λ xs. h ∷ xs) p.unchanged ∙ sym (if_false (h.actor == a) _ _ (test_false _ _ ne));
        none = if_false (h.actor == a) _ _ (test_false _ _ ne) ∙ p.none;
      }
]
  where
    some_none : (n : ℕ) → Some n ≡ None → ⊥
    some_none n e = cc

-- the same, from the first place on
pub record Found (i : ℕ) (hs : List Holder) (a : ℕ) : Type 0 where
  pub within : i < length hs
  pub set : (new : Holder) → new.actor ≡ a → slice_set hs i new ≡ with_holder new hs
  pub removed : remove hs i ≡ without_actor a hs

pub found : (a : ℕ) (hs : List Holder) (i : ℕ) → place_from 0 a hs ≡ Some i → Found i hs a
found a hs i e =
    let p = placed 0 a hs i e in
    let k-is : p.k ≡ i = sym (p.is ∙ omega arith) in
    record {
      within = subst (λ k. k < length hs) k-is p.within;
      set = λ new same. subst (λ k. slice_set hs k new ≡ with_holder new hs) k-is (p.set new same);
      removed = subst (λ k. remove hs k ≡ without_actor a hs) k-is p.removed;
    }

-- items written through a lent slice
pub refilled : (xs ws : List Holder) → length ws ≡ length xs → refill (length xs) xs ws ≡ ws
refilled xs ws e =
    ap (λ n. take n (ws ++ drop (length ws) xs)) (sym e) ∙ take-append-le (length ws) ws (drop (length ws) xs) (omega arith) ∙ take-length ws

-- WHO HOLDS WHAT
pub each_in : (P : Holder → Type 0) (b : ℕ) (hs : List Holder) → P (no_holder b) → Each P hs → P (holder_in b hs)
each_in P b [] none h = none
each_in P b (k ∷ hs) none h = elim (cases_eq k.actor b) [
  | inl e ↦ subst P (sym (if_true (k.actor == b) _ _ (test_true _ _ e))) h.0
  | inr ne ↦ subst P (sym (if_false (k.actor == b) _ _ (test_false _ _ ne))) (each_in P b hs none h.1)
]

pub holder_with : (new : Holder) (hs : List Holder) → holder_in new.actor (with_holder new hs) ≡ new
holder_with new [] = if_true (new.actor == new.actor) _ _ (test_true _ _ refl)
holder_with new (h ∷ hs) = elim (cases_eq h.actor new.actor) [
  | inl e ↦ ap (holder_in new.actor) (if_true (h.actor == new.actor) _ _ (test_true _ _ e)) ∙ if_true (new.actor == new.actor) _ _ (test_true _ _ refl)
  | inr ne ↦ ap (holder_in new.actor) (if_false (h.actor == new.actor) _ _ (test_false _ _ ne)) ∙ if_false (h.actor == new.actor) _ _ (test_false _ _ ne) ∙ holder_with new hs
]

pub holder_with_other : (new : Holder) (b : ℕ) → b ≢ new.actor → (hs : List Holder) → holder_in b (with_holder new hs) ≡ holder_in b hs
holder_with_other new b other [] = if_false (new.actor == b) _ _ (test_false _ _ (λ e. other (sym e)))
holder_with_other new b other (h ∷ hs) = elim (cases_eq h.actor new.actor) [
  | inl e ↦ ap (holder_in b) (if_true (h.actor == new.actor) _ _ (test_true _ _ e)) ∙ if_false (new.actor == b) _ _ (test_false _ _ (λ q. other (sym q)))
      ∙ sym (if_false (h.actor == b) _ _ (test_false _ _ (λ q. other (sym q ∙ e))))
  | inr ne ↦ ap (holder_in b) (if_false (h.actor == new.actor) _ _ (test_false _ _ ne)) ∙ ap (λ x. if h.actor == b then h else x) (holder_with_other new b other hs)
]

pub holder_without_other : (a b : ℕ) → b ≢ a → (hs : List Holder) → holder_in b (without_actor a hs) ≡ holder_in b hs
holder_without_other a b other [] = refl
holder_without_other a b other (h ∷ hs) = elim (cases_eq h.actor a) [
  | inl e ↦ ap (holder_in b) (if_true (h.actor == a) _ _ (test_true _ _ e)) ∙ sym (if_false (h.actor == b) _ _ (test_false _ _ (λ q. other (sym q ∙ e))))
  | inr ne ↦ ap (holder_in b) (if_false (h.actor == a) _ _ (test_false _ _ ne)) ∙ ap (λ x. if h.actor == b then h else x) (holder_without_other a b other hs)
]

-- an actor that no item of the list is
pub absent_in : (a : ℕ) (hs : List Holder) → Each (λ k. k.actor ≢ a) hs → holder_in a hs ≡ no_holder a
absent_in a [] h = refl
absent_in a (k ∷ hs) h = if_false (k.actor == a) _ _ (test_false _ _ h.0) ∙ absent_in a hs h.1

pub holder_without : (a : ℕ) (hs : List Holder) → AreHolders hs → holder_in a (without_actor a hs) ≡ no_holder a
holder_without a [] ok = refl
holder_without a (h ∷ hs) ok = elim (cases_eq h.actor a) [
  | inl e ↦ ap (holder_in a) (if_true (h.actor == a) _ _ (test_true _ _ e))
      ∙ absent_in a hs (each_map (AreApart h) (λ k. k.actor ≢ a) (λ k apart q. apart.actors (e ∙ sym q)) hs ok.1)
  | inr ne ↦ ap (holder_in a) (if_false (h.actor == a) _ _ (test_false _ _ ne)) ∙ if_false (h.actor == a) _ _ (test_false _ _ ne) ∙ holder_without a hs ok.2
]

-- nobody has a heap of another
pub holders_apart : (hs : List Holder) → AreHolders hs → (a b t : ℕ) → a ≢ b → touches (holder_in a hs) t ≡ true → touches (holder_in b hs) t ≡ false
holders_apart [] ok a b t ne h = refl
holders_apart (k ∷ hs) ok a b t ne h = elim (cases_eq k.actor a) [
  | inl e ↦
      let mine : touches k t ≡ true = subst (λ (x : Holder). touches x t ≡ true) (if_true (k.actor == a) _ _ (test_true _ _ e)) h in
      subst (λ (x : Holder). touches x t ≡ false) (sym (if_false (k.actor == b) _ _ (test_false _ _ (λ q. ne (sym e ∙ q)))))
      (each_in (λ x. touches x t ≡ false) b hs refl (each_map (AreApart k) (λ x. touches x t ≡ false) (λ x apart. apart.heaps t mine) hs ok.1))
  | inr other ↦
      let mine : touches (holder_in a hs) t ≡ true = subst (λ (x : Holder). touches x t ≡ true) (if_false (k.actor == a) _ _ (test_false _ _ other)) h in
      elim (cases_eq k.actor b) [
        | inl e ↦ subst (λ (x : Holder). touches x t ≡ false) (sym (if_true (k.actor == b) _ _ (test_true _ _ e)))
            (elim (touches k t) as (λ v. touches k t ≡ v → v ≡ false) [
              | true ↦ λ q. absurd (both_ways _ (each_in (λ x. touches x t ≡ false) a hs refl (each_map (AreApart k) (λ x. touches x t ≡ false) (λ x apart. apart.heaps t q) hs ok.1)) mine)
              | false ↦ λ q. refl
            ] refl)
        | inr more ↦ subst (λ (x : Holder). touches x t ≡ false) (sym (if_false (k.actor == b) _ _ (test_false _ _ more))) (holders_apart hs ok.2 a b t ne mine)
      ]
]

-- the other actor that has a heap
pub other_is : (a t b : ℕ) (hs : List Holder) → AreHolders hs → other_in a t hs ≡ Some b → (b ≢ a) × (touches (holder_in b hs) t ≡ true)
other_is a t b [] ok h = absurd cc
other_is a t b (k ∷ hs) ok h = go (other_is a t b hs ok.2) (not (k.actor == a) && touches k t) refl
  where
    go : (other_in a t hs ≡ Some b → (b ≢ a) × (touches (holder_in b hs) t ≡ true)) → (v : Bool) → (not (k.actor == a) && touches k t) ≡ v → (b ≢ a) × (touches (holder_in b (k ∷ hs)) t ≡ true)
    go rest_is true e =
        let is : k.actor ≡ b = some_is (sym (if_true _ _ _ e) ∙ h) in
        let parts = and_parts (not (k.actor == a)) (touches k t) e in
        let differs : k.actor ≢ a = λ q. both_ways (not (k.actor == a)) (ap not (test_true _ _ q)) parts.0 in
        (λ q. differs (is ∙ q), subst (λ (x : Holder). touches x t ≡ true) (sym (if_true (k.actor == b) _ _ (test_true _ _ is))) parts.1)
    go rest_is false e =
        let rest = rest_is (sym (if_false _ _ _ e) ∙ h) in (
          rest.0,
          elim (cases_eq k.actor b) [
            | inl is ↦ absurd (both_ways (touches (holder_in b hs) t) (ap (λ (x : Holder). touches x t) (absent_in b hs (each_map (AreApart k) (λ x. x.actor ≢ b) (λ x apart q. apart.actors (is ∙ sym q)) hs ok.1))) rest.1)
            | inr ne ↦ subst (λ (x : Holder). touches x t ≡ true) (sym (if_false (k.actor == b) _ _ (test_false _ _ ne))) rest.1
          ],
        )

-- no other has it
pub no_other : (a t : ℕ) (hs : List Holder) → other_in a t hs ≡ None → Each (λ k. k.actor ≢ a → touches k t ≡ false) hs
no_other a t [] h = tt
no_other a t (k ∷ hs) h = go (no_other a t hs) (not (k.actor == a) && touches k t) refl
  where
    go : (other_in a t hs ≡ None → Each (λ k. k.actor ≢ a → touches k t ≡ false) hs) → (v : Bool) → (not (k.actor == a) && touches k t) ≡ v → Each (λ k. k.actor ≢ a → touches k t ≡ false) (k ∷ hs)
    go rest true e = absurd (some_none k.actor (sym (if_true _ _ _ e) ∙ h))
      where
        some_none : (n : ℕ) → Some n ≡ None → ⊥
        some_none n e = cc
    go rest false e = (λ ne. second (touches k t) (ap (λ v. not v && touches k t) (sym (test_false _ _ ne)) ∙ e), rest (sym (if_false _ _ _ e) ∙ h))
      where
        second : (v : Bool) → v ≡ false → v ≡ false
        second v q = q

-- a holder that has what no other has
abbrev pub IsClear : Holder → List Holder → Type 0
IsClear new hs = Each (λ k. k.actor ≢ new.actor → (t : ℕ) → touches new t ≡ true → touches k t ≡ false) hs

turned_apart : (h k : Holder) → AreApart h k → AreApart k h
turned_apart h k apart = record {
  actors = λ e. apart.actors (sym e);
  heaps = λ t e. elim (touches h t) as (λ v. touches h t ≡ v → v ≡ false) [
    | true ↦ λ q. absurd (both_ways _ (apart.heaps t q) e)
    | false ↦ λ q. refl
  ] refl;
}

clear_apart : (new : Holder) (hs : List Holder) → Each (λ k. k.actor ≢ new.actor) hs → IsClear new hs → Each (AreApart new) hs
clear_apart new [] ne clear = tt
clear_apart new (k ∷ hs) ne clear = (record { actors = λ e. ne.0 (sym e); heaps = clear.0 ne.0 }, clear_apart new hs ne.1 clear.1)

-- of each holder but one
each_with : (h new : Holder) (hs : List Holder) → h.actor ≢ new.actor → ((t : ℕ) → touches new t ≡ true → touches h t ≡ false) → Each (AreApart h) hs → Each (AreApart h) (with_holder new hs)
each_with h new [] ne clear each = (turned_apart new h (record { actors = λ e. ne (sym e); heaps = clear }), tt)
each_with h new (k ∷ hs) ne clear each = elim (cases_eq k.actor new.actor) [
  | inl e ↦ subst (Each (AreApart h)) (sym (if_true (k.actor == new.actor) _ _ (test_true _ _ e))) (turned_apart new h (record { actors = λ e. ne (sym e); heaps = clear }), each.1)
  | inr other ↦ subst (Each (AreApart h)) (sym (if_false (k.actor == new.actor) _ _ (test_false _ _ other))) (each.0, each_with h new hs ne clear each.1)
]

pub holders_with : (new : Holder) (hs : List Holder) → pages_of new ≢ 0 → IsClear new hs → AreHolders hs → AreHolders (with_holder new hs)
holders_with new [] some clear ok = (some, tt, tt)
holders_with new (k ∷ hs) some clear ok = elim (cases_eq k.actor new.actor) [
  | inl e ↦ subst AreHolders (sym (if_true (k.actor == new.actor) _ _ (test_true _ _ e)))
      (some, clear_apart new hs (each_map (AreApart k) (λ x. x.actor ≢ new.actor) (λ x apart q. apart.actors (e ∙ sym q)) hs ok.1) clear.1, ok.2)
  | inr other ↦ subst AreHolders (sym (if_false (k.actor == new.actor) _ _ (test_false _ _ other)))
      (ok.0, each_with k new hs other (clear.0 other) ok.1, holders_with new hs some clear.1 ok.2)
]

each_without : (P : Holder → Type 0) (a : ℕ) (hs : List Holder) → Each P hs → Each P (without_actor a hs)
each_without P a [] h = tt
each_without P a (k ∷ hs) h = elim (cases_eq k.actor a) [
  | inl e ↦ subst (Each P) (sym (if_true (k.actor == a) _ _ (test_true _ _ e))) h.1
  | inr ne ↦ subst (Each P) (sym (if_false (k.actor == a) _ _ (test_false _ _ ne))) (h.0, each_without P a hs h.1)
]

pub holders_without : (a : ℕ) (hs : List Holder) → AreHolders hs → AreHolders (without_actor a hs)
holders_without a [] ok = tt
holders_without a (k ∷ hs) ok = elim (cases_eq k.actor a) [
  | inl e ↦ subst AreHolders (sym (if_true (k.actor == a) _ _ (test_true _ _ e))) ok.2
  | inr ne ↦ subst AreHolders (sym (if_false (k.actor == a) _ _ (test_false _ _ ne))) (ok.0, each_without (AreApart k) a hs ok.1, holders_without a hs ok.2)
]

-- WHAT SEARCHING AND FIXING KEEP. No other has the heap, nor what the actor has already
own_clear : (a t : ℕ) (hs : List Holder) → AreHolders hs → touches (holder_in a hs) t ≡ true → Each (λ k. k.actor ≢ a → touches k t ≡ false) hs
own_clear a t [] ok h = tt
own_clear a t (k ∷ hs) ok h = elim (cases_eq k.actor a) [
  | inl e ↦
      let mine : touches k t ≡ true = subst (λ (x : Holder). touches x t ≡ true) (if_true (k.actor == a) _ _ (test_true _ _ e)) h in
      ((λ ne. absurd (ne e)), each_map (AreApart k) (λ x. x.actor ≢ a → touches x t ≡ false) (λ x apart ne. apart.heaps t mine) hs ok.1)
  | inr other ↦
      let mine : touches (holder_in a hs) t ≡ true = subst (λ (x : Holder). touches x t ≡ true) (if_false (k.actor == a) _ _ (test_false _ _ other)) h in (
        (λ ne. elim (touches k t) as (λ v. touches k t ≡ v → v ≡ false) [
          | true ↦ λ q. absurd (both_ways _ (each_in (λ x. touches x t ≡ false) a hs refl (each_map (AreApart k) (λ x. touches x t ≡ false) (λ x apart. apart.heaps t q) hs ok.1)) mine)
          | false ↦ λ q. refl
        ] refl),
        own_clear a t hs ok.2 mine,
      )
]

-- a holder has no heap but this one and those that its actor had
abbrev pub AddsOnly : ℕ → ℕ → Holder → List Holder → Type 0
AddsOnly a table new hs = (t : ℕ) → touches new t ≡ true → (t ≡ table) ⊎ (touches (holder_in a hs) t ≡ true)

each_all : {I : Type 0} (P : I → Holder → Type 0) (hs : List Holder) → ((i : I) → Each (P i) hs) → Each (λ k. (i : I) → P i k) hs
each_all P [] h = tt
each_all P (k ∷ hs) h = ((λ i. (h i).0), each_all P hs (λ i. (h i).1))

pub adds_clear : (a table : ℕ) (new : Holder) (hs : List Holder) → AreHolders hs → new.actor ≡ a → other_in a table hs ≡ None → AddsOnly a table new hs → IsClear new hs
adds_clear a table new hs ok same none adds =
    each_map (λ k. (t : ℕ) → touches new t ≡ true → k.actor ≢ a → touches k t ≡ false) (λ k. k.actor ≢ new.actor → (t : ℕ) → touches new t ≡ true → touches k t ≡ false)
    (λ k f ne t e. f t e (λ q. ne (q ∙ sym same))) hs
    (each_all (λ t k. touches new t ≡ true → k.actor ≢ a → touches k t ≡ false) hs (λ t. when t))
  where
    when : (t : ℕ) → Each (λ k. touches new t ≡ true → k.actor ≢ a → touches k t ≡ false) hs
    when t = elim (touches new t) as (λ v. touches new t ≡ v → Each (λ k. touches new t ≡ true → k.actor ≢ a → touches k t ≡ false) hs) [
      | true ↦ λ q. each_map (λ k. k.actor ≢ a → touches k t ≡ false) (λ k. touches new t ≡ true → k.actor ≢ a → touches k t ≡ false) (λ k f e. f) hs
          (elim (adds t q) [ inl e ↦ subst (λ n. Each (λ k. k.actor ≢ a → touches k n ≡ false) hs) (sym e) (no_other a table hs none) | inr own ↦ own_clear a t hs ok own ])
      | false ↦ λ q. each_map (λ k. Unit {0}) (λ k. touches new t ≡ true → k.actor ≢ a → touches k t ≡ false) (λ k u e. absurd (both_ways _ q e)) hs (units hs)
    ] refl
      where
        units : (hs : List Holder) → Each (λ k. Unit {0}) hs
        units [] = tt
        units (k ∷ hs) = (tt, units hs)

-- ROOM. Fewer than 65 other actors hold heaps, so one more may
abbrev actors_of : List Holder → List ℕ
actors_of hs = map (λ h. h.actor) hs

distinct : (hs : List Holder) → AreHolders hs → AreDistinct (actors_of hs)
distinct [] ok = tt
distinct (k ∷ hs) ok = (each_actor hs ok.1, distinct hs ok.2)
  where
    each_actor : (hs : List Holder) → Each (AreApart k) hs → Each (λ m. m ≢ k.actor) (actors_of hs)
    each_actor [] h = tt
    each_actor (x ∷ hs) h = ((λ e. h.0.actors (sym e)), each_actor hs h.1)

busy : (a : ℕ) (all hs : List Holder) → ((k : Holder) → k.actor ≢ a → pages_of k ≢ 0 → holder_in k.actor all ≡ k → (k.actor ≢ a) × (pages_of (holder_in k.actor all) ≢ 0))
    → Each (λ k. (k.actor ≢ a) × (pages_of k ≢ 0) × (holder_in k.actor all ≡ k)) hs → Each (λ n. (n ≢ a) × (pages_of (holder_in n all) ≢ 0)) (actors_of hs)
busy a all [] f h = tt
busy a all (k ∷ hs) f h = (f k h.0.0 h.0.1 h.0.2, busy a all hs f h.1)

-- each holder is found by its actor
found_each : (hs : List Holder) → AreHolders hs → Each (λ k. holder_in k.actor hs ≡ k) hs
found_each [] ok = tt
found_each (k ∷ hs) ok = (
  if_true (k.actor == k.actor) _ _ (test_true _ _ refl),
  each_two (λ x. holder_in x.actor hs ≡ x) (AreApart k) (λ x. holder_in x.actor (k ∷ hs) ≡ x) (λ x e apart. if_false (k.actor == x.actor) _ _ (test_false _ _ apart.actors) ∙ e) hs (found_each hs ok.2) ok.1,
)
  where
    each_two : (P Q R : Holder → Type 0) → ((x : Holder) → P x → Q x → R x) → (hs : List Holder) → Each P hs → Each Q hs → Each R hs
    each_two P Q R f [] p q = tt
    each_two P Q R f (x ∷ hs) p q = (f x p.0 q.0, each_two P Q R f hs p.1 q.1)

no_actor : (n a : ℕ) (hs : List Holder) → place_from n a hs ≡ None → Each (λ k. k.actor ≢ a) hs
no_actor n a [] h = tt
no_actor n a (k ∷ hs) h = elim (cases_eq k.actor a) [
  | inl e ↦ absurd (some_none n (sym (if_true (k.actor == a) _ _ (test_true _ _ e)) ∙ h))
  | inr ne ↦ (ne, no_actor (n + 1) a hs (sym (if_false (k.actor == a) _ _ (test_false _ _ ne)) ∙ h))
]
  where
    some_none : (n : ℕ) → Some n ≡ None → ⊥
    some_none n e = cc

pages_each : (hs : List Holder) → AreHolders hs → Each (λ k. pages_of k ≢ 0) hs
pages_each [] ok = tt
pages_each (k ∷ hs) ok = (ok.0, pages_each hs ok.2)

three : (P Q R : Holder → Type 0) (hs : List Holder) → Each P hs → Each Q hs → Each R hs → Each (λ k. P k × Q k × R k) hs
three P Q R [] p q r = tt
three P Q R (k ∷ hs) p q r = ((p.0, q.0, r.0), three P Q R hs p.1 q.1 r.1)

actors_length : (hs : List Holder) → length (actors_of hs) ≡ length hs
actors_length [] = refl
actors_length (k ∷ hs) = ap suc (actors_length hs)

pub may_put : (a : ℕ) (hs : List Holder) → AreHolders hs → FewerThan 65 (λ b. (b ≢ a) × (pages_of (holder_in b hs) ≢ 0)) → MayPut a hs
may_put a hs ok few none =
    subst (λ n. n < 65) (actors_length hs)
    (few (actors_of hs) (distinct hs ok)
    (busy a hs hs (λ k ne some is. (ne, λ e. some (sym (ap pages_of is) ∙ e))) (three (λ k. k.actor ≢ a) (λ k. pages_of k ≢ 0) (λ k. holder_in k.actor hs ≡ k) hs (no_actor 0 a hs none) (pages_each hs ok) (found_each hs ok))))

-- what an actor has once it has come to a place, or holds a heap beside it
or_cases : (x y : Bool) → (x || y) ≡ true → (x ≡ true) ⊎ (y ≡ true)
or_cases true y e = inl refl
or_cases false y e = inr e

or_right : (x y : Bool) → y ≡ true → (x || y) ≡ true
or_right true y e = refl
or_right false y e = e

or_left : (x y : Bool) → x ≡ true → (x || y) ≡ true
or_left true y e = refl
or_left false y e = absurd (both_ways _ refl e)

eq_of : (a b : ℕ) → (a == b) ≡ true → a ≡ b
eq_of a b e = grind (arith, nat_tests)

pub placed_adds : (a table : ℕ) (at : Option RowId) (hs : List Holder) → AddsOnly a table (at_table a table at hs) hs
placed_adds a table at hs t e = elim (or_cases (table == t) (is_page (holder_in a hs).page t) e) [
  | inl here ↦ inl (sym (eq_of table t here))
  | inr own ↦ inr (or_right (is_place_in (holder_in a hs).place t) _ own)
]

pub fixed_adds : (a table : ℕ) (room : Bool) (hs : List Holder) → AddsOnly a table (fixed a table room hs) hs
fixed_adds a table room hs t e = elim (or_cases (is_place_in (holder_in a hs).place t) (table == t) e) [
  | inl own ↦ inr (or_left _ (is_page (holder_in a hs).page t) own)
  | inr here ↦ inl (sym (eq_of table t here))
]

abbrev one_or_two : Bool → ℕ
one_or_two v = if v then 1 else 2

pub placed_some : (a table : ℕ) (at : Option RowId) (hs : List Holder) → pages_of (at_table a table at hs) ≢ 0
placed_some a table at hs = go (holder_in a hs).page
  where
    go : (page : Option ℕ) → pages_in (Some (record { table = table; at = at })) page ≢ 0
    go None e = absurd (omega (arith, e))
    go (Some n) e = one_two (table == n) e
      where
        one_two : (v : Bool) → one_or_two v ≡ 0 → ⊥
        one_two true e = absurd (omega (arith, e))
        one_two false e = absurd (omega (arith, e))

pub fixed_some : (a table : ℕ) (room : Bool) (hs : List Holder) → pages_of (fixed a table room hs) ≢ 0
fixed_some a table room hs = go (holder_in a hs).place
  where
    go : (place : Option Place) → pages_in place (Some table) ≢ 0
    go None e = absurd (omega (arith, e))
    go (Some p) e = one_two (p.table == table) e
      where
        one_two : (v : Bool) → one_or_two v ≡ 0 → ⊥
        one_two true e = absurd (omega (arith, e))
        one_two false e = absurd (omega (arith, e))

-- at most one page more
pub placed_one : (a table : ℕ) (at : Option RowId) (hs : List Holder) → pages_of (at_table a table at hs) ≤ pages_of (holder_in a hs) + 1
placed_one a table at hs = go (holder_in a hs).place (holder_in a hs).page
  where
    go : (place : Option Place) (page : Option ℕ) → pages_in (Some (record { table = table; at = at })) page ≤ pages_in place page + 1
    go None None = omega arith
    go None (Some n) = one_two (table == n)
      where
        one_two : (v : Bool) → (if v then 1 else 2) ≤ 1 + 1
        one_two true = omega arith
        one_two false = omega arith
    go (Some p) None = omega arith
    go (Some p) (Some n) = both (table == n) (p.table == n)
      where
        both : (v w : Bool) → (if v then 1 else 2) ≤ (if w then 1 else 2) + 1
        both true true = omega arith
        both true false = omega arith
        both false true = omega arith
        both false false = omega arith

pub fixed_one : (a table : ℕ) (room : Bool) (hs : List Holder) → pages_of (fixed a table room hs) ≤ pages_of (holder_in a hs) + 1
fixed_one a table room hs = go (holder_in a hs).place (holder_in a hs).page
  where
    go : (place : Option Place) (page : Option ℕ) → pages_in place (Some table) ≤ pages_in place page + 1
    go None page = omega arith
    go (Some p) None = one_two (p.table == table)
      where
        one_two : (v : Bool) → (if v then 1 else 2) ≤ 1 + 1
        one_two true = omega arith
        one_two false = omega arith
    go (Some p) (Some n) = both (p.table == table) (p.table == n)
      where
        both : (v w : Bool) → (if v then 1 else 2) ≤ (if w then 1 else 2) + 1
        both true true = omega arith
        both true false = omega arith
        both false true = omega arith
        both false false = omega arith

-- and never more than two
pub pages_few : (h : Holder) → pages_of h ≤ 4
pages_few h = go h.place h.page
  where
    go : (place : Option Place) (page : Option ℕ) → pages_in place page ≤ 4
    go None None = omega arith
    go None (Some n) = omega arith
    go (Some p) None = omega arith
    go (Some p) (Some n) = one_two (p.table == n)
      where
        one_two : (v : Bool) → (if v then 1 else 2) ≤ 4
        one_two true = omega arith
        one_two false = omega arith

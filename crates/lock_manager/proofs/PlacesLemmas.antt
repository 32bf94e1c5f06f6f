-- Lists of names in one map.
use Rattle.std.proofs.Common.{◌≡◌, ℕ, zero, suc, ◌+◌, ◌<◌, ◌≤◌, Bool, true, false, refl, sym, ◌∙◌, ap, cond, List, [], ◌∷◌, length, subst, arith, Option, Some, None, Result, Ok, Err, ◌⊎◌, inl, inr}
use Rattle.std.specs.Prelude.{◌&&◌, ◌==◌, nat_lt}
use Rattle.std.specs.Option.{is_some}
use Rattle.std.specs.Map.{lookup, remove_entry}
use Rattle.std.specs.HashMap.{HashMap, get, get_by, Updates}
use Rattle.std.specs.Result.{OnOk, IsOk}
use Rattle.std.proofs.lemmas.Bool.{both_ways, and_parts, and_from, eqb-true, eq-eqb, ltb-true, ltb-false}
use Rattle.dby_types.specs.declared.number.TxnNo.{TxnNo}
use Rattle.lock_modes.specs.declared.name.LockName.{LockName}
use Rattle.lock_modes.specs.Names.{same_name, same_txn}
use Rattle.lock_modes.proofs.NamesLemmas.{name_eq, name_refl, txn_eq}
use Rattle.lock_manager.specs.contracts.places.PlacePartialEq.TheImpl.{eq-value}
use Rattle.lock_manager.specs.declared.places.Place.{Place}
use Rattle.lock_manager.specs.Places.{same_place, place, holder_at, is_taken, is_one, IsPacked, IsEnd, IsFilled, Lists, Unlists}
use Rattle.lock_manager.proofs.NameLemmas as names

abbrev Entries : Type 0
Entries = List (Place × TxnNo)

-- equality of places as the map tests it
map_eq : (a b : Place) → eq-value.it a b ≡ same_place a b
map_eq a b = ap (λ x. x && a.number == b.number) (names.map_eq a.name b.name)

pub get_same : {V S : Type 0} (m : HashMap Place V S) (p : Place) → get_by (eq-value.it p) m ≡ get_by (same_place p) m
get_same m p = λ i. get_by (λ q. map_eq p q i) m

-- what the map has at each place after one was changed
pub changed : {V S : Type 0} (m n : HashMap Place V S) (p : Place) (v : Option V)
    → ((q : Place) → get eq-value.it n q ≡ cond (eq-value.it p q) v (get eq-value.it m q))
    → (q : Place) → get same_place n q ≡ cond (same_place p q) v (get same_place m q)
changed m n p v put q =
    sym (get_same n q) ∙ put q ∙ ap (λ b. cond b v (get eq-value.it m q)) (map_eq p q) ∙ ap (λ o. cond (same_place p q) v o) (get_same m q)

-- what the map has at each place after one was put
pub inserted : {V S T E : Type 0} (m n : HashMap Place V S) (r : Result T E) (p : Place) (t : V) → OnOk r (Updates eq-value.it m n p (Some t)) → IsOk r
    → (q : Place) → get same_place n q ≡ cond (same_place p q) (Some t) (get same_place m q)
inserted m n (Ok x) p t updates ok = changed m n p (Some t) updates.0
inserted m n (Err e) p t updates ok = absurd (both_ways _ refl ok)

-- the map has the same at each place
pub reordered : {V S : Type 0} (m n : HashMap Place V S) → ((q : Place) → get eq-value.it n q ≡ get eq-value.it m q) → (q : Place) → get same_place n q ≡ get same_place m q
reordered m n same q = sym (get_same n q) ∙ same q ∙ get_same m q

-- nothing was there
pub not_there : {V S : Type 0} (m : HashMap Place V S) (p : Place) → is_some (get same_place m p) ≡ true → None ≡ get_by (eq-value.it p) m → ⊥
not_there m p taken none = both_ways _ (ap is_some (sym (none ∙ get_same m p))) taken

pub place_eq : (a b : Place) → same_place a b ≡ true → a ≡ b
place_eq a b h =
    let p = and_parts _ _ h in
    let n : a.name ≡ b.name = name_eq a.name b.name p.0 in
    let k : a.number ≡ b.number = eqb-true a.number b.number p.1 in
    λ i. record { name = n i; number = k i }

pub place_refl : (a : Place) → same_place a a ≡ true
place_refl a = and_from _ _ (name_refl a.name) (eq-eqb a.number a.number refl)

-- places that aren't equal aren't the same
place_apart : (a b : Place) → (a ≡ b → ⊥) → same_place a b ≡ false
place_apart a b differ =
    let cases = λ (x : Bool) (e : same_place a b ≡ x).
    (elim x as (λ w. same_place a b ≡ w → w ≡ false) [ true ↦ λ s. absurd (differ (place_eq a b s)) | false ↦ λ _. refl ]) e in
    cases (same_place a b) refl

place_flip : (a b : Place) → same_place a b ≡ false → same_place b a ≡ false
place_flip a b h = place_apart b a (λ e. both_ways _ h (ap (λ x. same_place a x) e ∙ place_refl a))

-- another place keeps its entry where one is removed
kept : (p q : Place) (es : Entries) → same_place p q ≡ false → lookup (same_place q) (remove_entry (same_place p) es) ≡ lookup (same_place q) es
kept p q [] h = refl
kept p q (e ∷ es) h =
    let rest = kept p q es h in
    let cases = λ (x : Bool) (s : same_place p e.0 ≡ x).
    (elim x as (λ w. same_place p e.0 ≡ w → lookup (same_place q) (cond w es (e ∷ remove_entry (same_place p) es)) ≡ cond (same_place q e.0) (Some e.1) (lookup (same_place q) es)) [
      | true ↦ λ t. sym (ap (λ b. cond b (Some e.1) (lookup (same_place q) es)) (ap (λ z. same_place q z) (sym (place_eq p e.0 t)) ∙ place_flip p q h))
      | false ↦ λ _. ap (λ o. cond (same_place q e.0) (Some e.1) o) rest
    ]) s in
    cases (same_place p e.0) refl

removed : (p : Place) (es : Entries) → is_some (lookup (same_place p) es) ≡ true → suc (length (remove_entry (same_place p) es)) ≡ length es
removed p [] h = absurd (both_ways _ refl h)
removed p (e ∷ es) h =
    let cases = λ (x : Bool) (s : same_place p e.0 ≡ x).
    (elim x as (λ w. is_some (cond w (Some e.1) (lookup (same_place p) es)) ≡ true → suc (length (cond w es (e ∷ remove_entry (same_place p) es))) ≡ suc (length es)) [ true ↦ λ _. refl | false ↦ λ k. ap suc (removed p es k) ]) in
    cases (same_place p e.0) refl h

-- a list is no longer than the map
short : (n : LockName) (k : ℕ) (es : Entries) → ((i : ℕ) → i < k → is_some (lookup (same_place (place n i)) es) ≡ true) → k ≤ length es
short n zero es h = omega arith
short n (suc k) es h =
    let es' : Entries = remove_entry (same_place (place n k)) es in
    let one : suc (length es') ≡ length es = removed (place n k) es (h k (omega arith)) in
    let rest : k ≤ length es' = short n k es' (λ i less. ap is_some (kept (place n k) (place n i) es (place_apart (place n k) (place n i) (λ e. (let s : k ≡ i = ap (λ (p : Place). p.number) e in let bad : ⊥ = omega (arith, s, less) in bad)))) ∙ h i (omega (arith, less))) in
    omega (arith, one, rest)

pub taken_below : {S : Type 0} (m : HashMap Place TxnNo S) → IsPacked m → (n : LockName) (i j : ℕ) → i ≤ j → is_taken m n j ≡ true → is_taken m n i ≡ true
taken_below m packed n i j less taken =
    let cases = λ (x : Bool) (e : is_taken m n i ≡ x).
    (elim x as (λ w. is_taken m n i ≡ w → w ≡ true) [ true ↦ λ _. refl | false ↦ λ s. absurd (both_ways _ (packed n i j less s) taken) ]) e in
    cases (is_taken m n i) refl

pub taken_short : {S : Type 0} (m : HashMap Place TxnNo S) (n : LockName) (k : ℕ) → ((i : ℕ) → i < k → is_taken m n i ≡ true) → k ≤ length m.entries
taken_short m n k taken = short n k m.entries taken

-- where a transaction stands, and below, no place is free
pub taken_here : {S : Type 0} (m : HashMap Place TxnNo S) → IsPacked m → (n : LockName) (i : ℕ) (t : TxnNo) → is_one (holder_at m n i) t ≡ true → (j : ℕ) → j < i + 1 → is_taken m n j ≡ true
taken_here m packed n i t one j less = taken_below m packed n j i (omega (arith, less)) (somebody (holder_at m n i) one)
  where
    somebody : (o : Option TxnNo) → is_one o t ≡ true → is_some o ≡ true
    somebody None h = absurd (both_ways _ refl h)
    somebody (Some h) k = refl

-- behind as many places as the map has, all are free
pub free_behind : {S : Type 0} (m : HashMap Place TxnNo S) → IsPacked m → (n : LockName) (k : ℕ) → k ≡ length m.entries → is_taken m n k ≡ false
free_behind m packed n k long =
    let cases = λ (x : Bool) (e : is_taken m n k ≡ x).
    (elim x as (λ w. is_taken m n k ≡ w → w ≡ false) [
      | true ↦ λ s. (let much = short n (suc k) m.entries (λ i less. taken_below m packed n i k (omega (arith, less)) s) in absurd (omega (arith, much, long)))
      | false ↦ λ _. refl
    ]) e in
    cases (is_taken m n k) refl

-- no free place is below the end
end_least : {S : Type 0} (m : HashMap Place TxnNo S) (n : LockName) (k i : ℕ) → IsEnd m n k → is_taken m n i ≡ false → k ≤ i
end_least m n k i e free =
    let cases = λ (x : Bool) (s : nat_lt i k ≡ x).
    (elim x as (λ w. nat_lt i k ≡ w → k ≤ i) [ true ↦ λ s. absurd (both_ways _ free (e.taken i (ltb-true i k s))) | false ↦ λ s. ltb-false i k s ]) s in
    cases (nat_lt i k) refl

pub none_one : (o : Option TxnNo) (u : TxnNo) → is_some o ≡ false → is_one o u ≡ false
none_one None u h = refl
none_one (Some t) u h = absurd (both_ways _ h refl)

-- one more at the end of a list
pub listed_packed : {S : Type 0} (m n : HashMap Place TxnNo S) (name : LockName) (k : ℕ) (t : TxnNo) → IsPacked m → IsEnd m name k
    → ((q : Place) → get same_place n q ≡ cond (same_place (place name k) q) (Some t) (get same_place m q)) → IsPacked n
listed_packed m n name k t packed e put x i j less free =
    let at_i = λ (b : Bool) (s : same_place (place name k) (place x i) ≡ b).
    (elim b as (λ w. same_place (place name k) (place x i) ≡ w → is_some (cond w (Some t) (holder_at m x i)) ≡ false → (same_place (place name k) (place x i) ≡ false) × (is_taken m x i ≡ false)) [
      | true ↦ λ _ f. absurd (both_ways _ f refl)
      | false ↦ λ s f. (s, f)
    ]) s in
    let q = at_i (same_place (place name k) (place x i)) refl (sym (ap is_some (put (place x i))) ∙ free) in
    let at_j = λ (b : Bool) (s : same_place (place name k) (place x j) ≡ b).
    (elim b as (λ w. same_place (place name k) (place x j) ≡ w → is_some (cond w (Some t) (holder_at m x j)) ≡ false) [
      | true ↦ λ s.
          let same = place_eq (place name k) (place x j) s in
          let n_is : name ≡ x = ap (λ (p : Place). p.name) same in
          let k_is : k ≡ j = ap (λ (p : Place). p.number) same in
          let low : k ≤ i = end_least m name k i e (subst (λ (y : LockName). is_taken m y i ≡ false) (sym n_is) q.1) in
          let i_is : k ≡ i = omega (arith, low, less, k_is) in
          let there : place name k ≡ place x i = λ z. record { name = n_is z; number = i_is z } in
          absurd (both_ways _ q.0 (ap (λ y. same_place (place name k) y) (sym there) ∙ place_refl (place name k)))
      | false ↦ λ _. packed x i j less q.1
    ]) s in
    ap is_some (put (place x j)) ∙ at_j (same_place (place name k) (place x j)) refl

pub listed : {S : Type 0} (m n : HashMap Place TxnNo S) (name : LockName) (k : ℕ) (t : TxnNo) → IsEnd m name k
    → ((q : Place) → get same_place n q ≡ cond (same_place (place name k) q) (Some t) (get same_place m q)) → Lists m n name t
listed m n name k t e put x u none =
    let other = λ (b : Bool) (s : (same_name name x && same_txn t u) ≡ b).
    (elim b as (λ w. (same_name name x && same_txn t u) ≡ w → w ≡ false) [
      | true ↦ λ s.
          let p = and_parts _ _ s in
          let here : same_place (place name k) (place x k) ≡ true = and_from _ _ p.0 (eq-eqb k k refl) in
          absurd (both_ways _ (none k) (ap (λ o. is_one o u) (put (place x k) ∙ ap (λ b. cond b (Some t) (get same_place m (place x k))) here) ∙ p.1))
      | false ↦ λ _. refl
    ]) s in
    let at = λ (i : ℕ) (b : Bool) (s : same_place (place name k) (place x i) ≡ b).
    (elim b as (λ w. same_place (place name k) (place x i) ≡ w → is_one (cond w (Some t) (holder_at m x i)) u ≡ false → is_one (holder_at m x i) u ≡ false) [
      | true ↦ λ s _. ap (λ (p : Place). is_one (get same_place m p) u) (sym (place_eq (place name k) (place x i) s)) ∙ none_one (holder_at m name k) u e.free
      | false ↦ λ _ f. f
    ]) s in
    (other (same_name name x && same_txn t u) refl, λ i. at i (same_place (place name k) (place x i)) refl (sym (ap (λ o. is_one o u) (put (place x i))) ∙ none i))

-- the last place was the one that was to be filled
pub filled_none : {S : Type 0} (m n : HashMap Place TxnNo S) (name : LockName) (i last : ℕ)
    → ((q : Place) → get same_place n q ≡ cond (same_place (place name last) q) None (get same_place m q))
    → is_taken m name i ≡ true → None ≡ get same_place n (place name i) → IsFilled m n name i last
filled_none m n name i last put taken gone p =
    let where_last = λ (b : Bool) (s : same_place (place name last) (place name i) ≡ b).
    (elim b as (λ w. same_place (place name last) (place name i) ≡ w → None ≡ cond w None (get same_place m (place name i)) → place name last ≡ place name i) [
      | true ↦ λ s _. place_eq (place name last) (place name i) s
      | false ↦ λ _ k. absurd (both_ways _ (ap is_some (sym k)) taken)
    ]) s in
    let same : place name last ≡ place name i = where_last (same_place (place name last) (place name i)) refl (gone ∙ put (place name i)) in
    let cases = λ (b : Bool).
    (elim b as (λ w. cond w None (get same_place m p) ≡ cond w None (cond w (holder_at m name last) (get same_place m p))) [ true ↦ refl | false ↦ refl ]) in
    put p ∙ cases (same_place (place name last) p) ∙ ap (λ q. cond (same_place (place name last) p) None (cond (same_place q p) (holder_at m name last) (get same_place m p))) same

-- the last was moved
pub filled_some : {S : Type 0} (m n o : HashMap Place TxnNo S) (name : LockName) (i last : ℕ) (moved was : TxnNo)
    → ((q : Place) → get same_place n q ≡ cond (same_place (place name last) q) None (get same_place m q))
    → ((q : Place) → get same_place o q ≡ cond (same_place (place name i) q) (Some moved) (get same_place n q))
    → Some moved ≡ holder_at m name last → Some was ≡ get same_place n (place name i) → IsFilled m o name i last
filled_some m n o name i last moved was put set moves there p =
    let cases = λ (b c : Bool) (s : same_place (place name last) p ≡ b) (t : same_place (place name i) p ≡ c).
    (elim b as (λ w. same_place (place name last) p ≡ w → cond c (Some moved) (cond w None (get same_place m p)) ≡ cond w None (cond c (Some moved) (get same_place m p))) [
      | true ↦ λ s. (elim c as (λ v. same_place (place name i) p ≡ v → cond v (Some moved) None ≡ None) [
        | true ↦ λ t.
            let same : place name i ≡ place name last = place_eq (place name i) p t ∙ sym (place_eq (place name last) p s) in
            absurd (both_ways _ (ap is_some (put (place name i) ∙ ap (λ b. cond b None (get same_place m (place name i))) (ap (λ q. same_place q (place name i)) (sym same) ∙ place_refl (place name i)))) (ap is_some (sym there)))
        | false ↦ λ _. refl
      ]) t
      | false ↦ λ _. refl
    ]) s in
    set p ∙ ap (λ x. cond (same_place (place name i) p) (Some moved) x) (put p)
    ∙ cases (same_place (place name last) p) (same_place (place name i) p) refl refl
    ∙ ap (λ x. cond (same_place (place name last) p) None (cond (same_place (place name i) p) x (get same_place m p))) moves

-- a place that is free afterwards is the last one, or was free
free_before : {S : Type 0} (m n : HashMap Place TxnNo S) (name : LockName) (i last : ℕ) → IsFilled m n name i last → is_taken m name last ≡ true
    → (x : LockName) (a : ℕ) → is_taken n x a ≡ false → (same_place (place name last) (place x a) ≡ true) ⊎ (is_taken m x a ≡ false)
free_before m n name i last filled taken x a free =
    let cases = λ (b c : Bool) (s : same_place (place name last) (place x a) ≡ b).
    (elim b as (λ w. same_place (place name last) (place x a) ≡ w → is_some (cond w None (cond c (holder_at m name last) (holder_at m x a))) ≡ false → (same_place (place name last) (place x a) ≡ true) ⊎ (is_taken m x a ≡ false)) [
      | true ↦ λ s _. inl s
      | false ↦ λ _. (elim c as (λ v. is_some (cond v (holder_at m name last) (holder_at m x a)) ≡ false → (same_place (place name last) (place x a) ≡ true) ⊎ (is_taken m x a ≡ false)) [
        | true ↦ λ f. absurd (both_ways _ f taken)
        | false ↦ λ f. inr f
      ])
    ]) s in
    cases (same_place (place name last) (place x a)) (same_place (place name i) (place x a)) refl (sym (ap is_some (filled (place x a))) ∙ free)

-- a place is free afterwards
free_after : {S : Type 0} (m n : HashMap Place TxnNo S) (name : LockName) (i last : ℕ) → IsFilled m n name i last → (x : LockName) (a : ℕ)
    → (same_place (place name last) (place x a) ≡ false → same_place (place name i) (place x a) ≡ true → ⊥)
    → (same_place (place name last) (place x a) ≡ false → is_taken m x a ≡ false) → is_taken n x a ≡ false
free_after m n name i last filled x a elsewhere free =
    let cases = λ (b c : Bool) (s : same_place (place name last) (place x a) ≡ b) (t : same_place (place name i) (place x a) ≡ c).
    (elim b as (λ w. same_place (place name last) (place x a) ≡ w → is_some (cond w None (cond c (holder_at m name last) (holder_at m x a))) ≡ false) [
      | true ↦ λ _. refl
      | false ↦ λ s. (elim c as (λ v. same_place (place name i) (place x a) ≡ v → is_some (cond v (holder_at m name last) (holder_at m x a)) ≡ false) [
        | true ↦ λ t. absurd (elsewhere s t)
        | false ↦ λ _. free s
      ]) t
    ]) s in
    ap is_some (filled (place x a)) ∙ cases (same_place (place name last) (place x a)) (same_place (place name i) (place x a)) refl refl

-- no gap stays where one was taken out of a list
pub unlisted_packed : {S : Type 0} (m n : HashMap Place TxnNo S) (name : LockName) (i last end : ℕ) → IsPacked m → IsEnd m name end → end ≡ last + 1 → i < end → IsFilled m n name i last → IsPacked n
unlisted_packed m n name i last end packed e is within filled x a b less free =
    elim (free_before m n name i last filled (e.taken last (omega (arith, is))) x a free) [
      | inl s ↦
          let same = place_eq (place name last) (place x a) s in
          let n_is : name ≡ x = ap (λ (p : Place). p.name) same in
          let a_is : last ≡ a = ap (λ (p : Place). p.number) same in
          free_after m n name i last filled x b
          (λ other t. (let b_is : i ≡ b = ap (λ (p : Place). p.number) (place_eq (place name i) (place x b) t) in
          let l_is : last ≡ b = omega (arith, a_is, b_is, less, within, is) in
          let there : place name last ≡ place x b = λ z. record { name = n_is z; number = l_is z } in
          both_ways _ other (ap (λ y. same_place (place name last) y) (sym there) ∙ place_refl (place name last))))
          (λ other. behind other n_is a_is)
      | inr f ↦
          free_after m n name i last filled x b
          (λ _ t. (let same = place_eq (place name i) (place x b) t in
          let n_is : name ≡ x = ap (λ (p : Place). p.name) same in
          let b_is : i ≡ b = ap (λ (p : Place). p.number) same in
          both_ways _ (packed x a b less f) (ap (λ (p : Place). is_some (get same_place m p)) (sym same) ∙ e.taken i within)))
          (λ _. packed x a b less f)
    ]
  where
    behind : same_place (place name last) (place x b) ≡ false → name ≡ x → last ≡ a → is_taken m x b ≡ false
    behind other n_is a_is =
        let cases = λ (w : Bool) (s : nat_lt last b ≡ w).
        (elim w as (λ v. nat_lt last b ≡ v → is_taken m x b ≡ false) [
          | true ↦ λ s. (let l : last < b = ltb-true last b s in packed x end b (omega (arith, l, is)) (subst (λ (y : LockName). is_taken m y end ≡ false) n_is e.free))
          | false ↦ λ s. (let l : b ≤ last = ltb-false last b s in
              let l_is : last ≡ b = omega (arith, l, a_is, less) in
              let there : place name last ≡ place x b = λ z. record { name = n_is z; number = l_is z } in
              absurd (both_ways _ other (ap (λ y. same_place (place name last) y) (sym there) ∙ place_refl (place name last))))
        ]) s in
        cases (nat_lt last b) refl

-- who stands at a place, if it is a given one, is no other
one_other : (o : Option TxnNo) (t u : TxnNo) → is_one o t ≡ true → same_txn t u ≡ false → is_one o u ≡ false
one_other None t u one other = absurd (both_ways _ refl one)
one_other (Some h) t u one other = ap (λ x. same_txn x u) (txn_eq h t one) ∙ other

-- all others are listed as before
pub unlisted : {S : Type 0} (m n : HashMap Place TxnNo S) (name : LockName) (i last : ℕ) (t : TxnNo) → is_one (holder_at m name i) t ≡ true → IsFilled m n name i last → Unlists m n (same_name name) t
unlisted m n name i last t one filled x u other none a =
    let cases = λ (b c : Bool) (s : same_place (place name last) (place x a) ≡ b) (k : same_place (place name i) (place x a) ≡ c).
    (elim c as (λ v. same_place (place name i) (place x a) ≡ v → is_one (cond b None (cond v (holder_at m name last) (holder_at m x a))) u ≡ false → is_one (holder_at m x a) u ≡ false) [
      | true ↦ λ k _.
          let same = place_eq (place name i) (place x a) k in
          let n_is : same_name name x ≡ true = (and_parts (same_name name x) (i == a) k).0 in
          let differ : same_txn t u ≡ false = ap (λ y. y && same_txn t u) (sym n_is) ∙ other in
          ap (λ (p : Place). is_one (get same_place m p) u) (sym same) ∙ one_other (holder_at m name i) t u one differ
      | false ↦ λ k. (elim b as (λ w. same_place (place name last) (place x a) ≡ w → is_one (cond w None (holder_at m x a)) u ≡ false → is_one (holder_at m x a) u ≡ false) [
        | true ↦ λ s _.
            let same = place_eq (place name last) (place x a) s in
            ap (λ (p : Place). is_one (get same_place m p) u) (sym same) ∙ moved same k
        | false ↦ λ _ f. f
      ]) s
    ]) k in
    cases (same_place (place name last) (place x a)) (same_place (place name i) (place x a)) refl refl (sym (ap (λ o. is_one o u) (filled (place x a))) ∙ none a)
  where
    moved : place name last ≡ place x a → same_place (place name i) (place x a) ≡ false → is_one (holder_at m name last) u ≡ false
    moved same k =
        let n_is : name ≡ x = ap (λ (p : Place). p.name) same in
        let apart : same_place (place name last) (place name i) ≡ false = ap (λ q. same_place q (place name i)) same ∙ place_flip (place name i) (place x a) k in
        let now : holder_at n name i ≡ holder_at m name last = filled (place name i)
        ∙ ap (λ b. cond b None (cond (same_place (place name i) (place name i)) (holder_at m name last) (holder_at m name i))) apart
        ∙ ap (λ b. cond b (holder_at m name last) (holder_at m name i)) (place_refl (place name i)) in
        sym (ap (λ o. is_one o u) now) ∙ ap (λ y. is_one (holder_at n y i) u) n_is ∙ none i

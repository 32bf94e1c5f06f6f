-- The table of grants as the records of the open transactions tell it.
use Rattle.std.proofs.Common.{◌≡◌, ℕ, Bool, true, false, refl, sym, ◌∙◌, ap, cond, [], ◌∷◌, ◌+◌, ◌<◌, ◌≤◌, arith, Option, Some, None, ◌⊎◌, inl, inr}
use Rattle.std.specs.Prelude.{◌&&◌, ◌||◌}
use Rattle.std.specs.List.{sum_by}
use Rattle.std.specs.Option.{is_some}
use Rattle.std.specs.Map.{lookup, set_value, remove_entry}
use Rattle.std.specs.List.Sorted.{IsPermutation}
use Rattle.std.proofs.lemmas.List.Recursion.{is_sum_by}
use Rattle.std.proofs.lemmas.List.Sorted.{sum_by-IsPermutation}
use Rattle.std.proofs.lemmas.Bool.{both_ways, and_parts}
use Rattle.dby_types.specs.declared.number.TxnNo.{TxnNo}
use Rattle.lock_modes.specs.declared.modes.Modes.{Modes}
use Rattle.lock_modes.specs.declared.name.LockName.{LockName}
use Rattle.lock_modes.specs.Lock.{Grants, released, released_all}
use Rattle.lock_modes.specs.Modes.{no_modes, is_held}
use Rattle.lock_modes.specs.Names.{same_name, same_txn}
use Rattle.lock_modes.proofs.ModesLemmas.{held_none}
use Rattle.lock_modes.proofs.NamesLemmas.{txn_eq, txn_refl}
use Rattle.lock_manager.specs.declared.owner.Owner.{Owner}
use Rattle.lock_manager.specs.Holdings.{modes_in}
use Rattle.lock_manager.specs.Owners.{Owners, modes_of, grants_in, left_of, waits_of, victim_of, left_in, waits_in, left_sum, claim_in, claims_sum, Changes, IsSame}
use Rattle.lock_manager.specs.Tallies.{one}

and_no : (a : Bool) → (a && false) ≡ false
and_no true = refl
and_no false = refl

or_none : (a b : Bool) → (a || b) ≡ false → (a ≡ false) × (b ≡ false)
or_none true b h = absurd (both_ways true h refl)
or_none false b h = (refl, h)

-- what is read of a transaction's record after another record was put under a number
pub put_owner : {X : Type 0} (f : Option Owner → X) (m n : Owners) (t : TxnNo) (w : Option Owner)
    → ((q : TxnNo) → lookup (same_txn q) n ≡ cond (same_txn t q) w (lookup (same_txn q) m))
    → (u : TxnNo) → f (lookup (same_txn u) n) ≡ cond (same_txn t u) (f w) (f (lookup (same_txn u) m))
put_owner f m n t w put u =
    let cases = λ (b : Bool) (e : same_txn t u ≡ b).
    (elim b as (λ x. f (cond x w (lookup (same_txn u) m)) ≡ cond x (f w) (f (lookup (same_txn u) m))) [ true ↦ refl | false ↦ refl ]) in
    ap f (put u) ∙ cases (same_txn t u) refl

-- the record that was read under the number is that of each number that is the same
pub read_owner : {X : Type 0} (f : Option Owner → X) (m : Owners) (t u : TxnNo) (o : Option Owner) (x : X → X) (y : X)
    → lookup (same_txn t) m ≡ o → cond (same_txn t u) (x (f o)) y ≡ cond (same_txn t u) (x (f (lookup (same_txn u) m))) y
read_owner f m t u o x y was =
    let cases = λ (b : Bool) (e : same_txn t u ≡ b).
    (elim b as (λ w. same_txn t u ≡ w → cond w (x (f o)) y ≡ cond w (x (f (lookup (same_txn u) m))) y)
    [ true ↦ λ s. ap (λ z. x (f z)) (sym was ∙ ap (λ q. lookup (same_txn q) m) (txn_eq t u s)) | false ↦ λ _. refl ]) e in
    cases (same_txn t u) refl

both_same : {X : Type 0} (b : Bool) (x : X) → cond b x x ≡ x
both_same true x = refl
both_same false x = refl

two_conds : {X : Type 0} (a b : Bool) (x y : X) → cond a (cond b x y) y ≡ cond (a && b) x y
two_conds true b x y = refl
two_conds false b x y = refl

-- one name of one record was changed
pub put_name : (m n : Owners) (t : TxnNo) (o w : Owner) (name : LockName) (change : Modes → Modes)
    → ((q : TxnNo) → lookup (same_txn q) n ≡ cond (same_txn t q) (Some w) (lookup (same_txn q) m))
    → Some o ≡ lookup (same_txn t) m
    → ((k : LockName) → modes_in w.holdings k ≡ cond (same_name name k) (change (modes_in o.holdings k)) (modes_in o.holdings k))
    → (u : TxnNo) (k : LockName) → grants_in n u k ≡ cond (same_txn t u && same_name name k) (change (grants_in m u k)) (grants_in m u k)
put_name m n t o w name change put was changed u k =
    put_owner (λ z. modes_of z k) m n t (Some w) put u
    ∙ ap (λ v. cond (same_txn t u) v (grants_in m u k)) (changed k)
    ∙ read_owner (λ z. modes_of z k) m t u (Some o) (λ v. cond (same_name name k) (change v) v) (grants_in m u k) (sym was)
    ∙ two_conds (same_txn t u) (same_name name k) (change (grants_in m u k)) (grants_in m u k)

-- the names of one record that pass a test were changed
pub put_names : (m n : Owners) (t : TxnNo) (o w : Owner) (test : LockName → Bool) (change : Modes → Modes)
    → ((q : TxnNo) → lookup (same_txn q) n ≡ cond (same_txn t q) (Some w) (lookup (same_txn q) m))
    → Some o ≡ lookup (same_txn t) m
    → ((k : LockName) → modes_in w.holdings k ≡ cond (test k) (change (modes_in o.holdings k)) (modes_in o.holdings k))
    → (u : TxnNo) (k : LockName) → grants_in n u k ≡ cond (same_txn t u && test k) (change (grants_in m u k)) (grants_in m u k)
put_names m n t o w test change put was changed u k =
    put_owner (λ z. modes_of z k) m n t (Some w) put u
    ∙ ap (λ v. cond (same_txn t u) v (grants_in m u k)) (changed k)
    ∙ read_owner (λ z. modes_of z k) m t u (Some o) (λ v. cond (test k) (change v) v) (grants_in m u k) (sym was)
    ∙ two_conds (same_txn t u) (test k) (change (grants_in m u k)) (grants_in m u k)

-- no names are released of who has no record
pub no_names_released : (m : Owners) (t : TxnNo) (test : LockName → Bool) → None ≡ lookup (same_txn t) m → (u : TxnNo) (k : LockName) → grants_in m u k ≡ cond (same_txn t u && test k) no_modes (grants_in m u k)
no_names_released m t test none u k =
    let cases = λ (b : Bool) (e : (same_txn t u && test k) ≡ b).
    (elim b as (λ x. (same_txn t u && test k) ≡ x → grants_in m u k ≡ cond x no_modes (grants_in m u k))
    [ true ↦ λ s. ap (λ q. grants_in m q k) (sym (txn_eq t u (and_parts _ _ s).0)) ∙ ap (λ (o : Option Owner). modes_of o k) (sym none) | false ↦ λ _. refl ]) e in
    cases (same_txn t u && test k) refl

-- the sum after one record was changed
pub sum_set : (t : TxnNo) (os : Owners) (o w : Owner) → lookup (same_txn t) os ≡ Some o → left_sum (set_value (same_txn t) os w) + o.left ≡ left_sum os + w.left
sum_set t [] o w h = absurd (cc h)
sum_set t (e ∷ es) o w h =
    let cases = λ (b : Bool) (q : same_txn t e.0 ≡ b).
    (elim b as (λ x. cond x (Some e.1) (lookup (same_txn t) es) ≡ Some o → left_sum (cond x ((e.0, w) ∷ es) (e ∷ set_value (same_txn t) es w)) + o.left ≡ (e.1.left + left_sum es) + w.left) [
      | true ↦ λ s. let k : e.1 ≡ o = cc s in let l : e.1.left ≡ o.left = ap (λ (z : Owner). z.left) k in
          let g : (w.left + left_sum es) + o.left ≡ (e.1.left + left_sum es) + w.left = omega (arith, l) in g
      | false ↦ λ s. let k = sum_set t es o w s in
          let g : (e.1.left + left_sum (set_value (same_txn t) es w)) + o.left ≡ (e.1.left + left_sum es) + w.left = omega (arith, k) in g
    ]) in
    cases (same_txn t e.0) refl h

-- what all may take after one record was changed
claims_set : (t : TxnNo) (os : Owners) (o w : Owner) → lookup (same_txn t) os ≡ Some o → claims_sum (set_value (same_txn t) os w) + (o.left + one o.waits) ≡ claims_sum os + (w.left + one w.waits)
claims_set t [] o w h = absurd (cc h)
claims_set t (e ∷ es) o w h =
    let cases = λ (b : Bool) (q : same_txn t e.0 ≡ b).
    (elim b as (λ x. cond x (Some e.1) (lookup (same_txn t) es) ≡ Some o → claims_sum (cond x ((e.0, w) ∷ es) (e ∷ set_value (same_txn t) es w)) + (o.left + one o.waits) ≡ ((e.1.left + one e.1.waits) + claims_sum es) + (w.left + one w.waits)) [
      | true ↦ λ s. let k : e.1 ≡ o = cc s in let l : e.1.left + one e.1.waits ≡ o.left + one o.waits = ap (λ (z : Owner). z.left + one z.waits) k in
          let g : ((w.left + one w.waits) + claims_sum es) + (o.left + one o.waits) ≡ ((e.1.left + one e.1.waits) + claims_sum es) + (w.left + one w.waits) = omega (arith, l) in g
      | false ↦ λ s. let k = claims_set t es o w s in
          let g : ((e.1.left + one e.1.waits) + claims_sum (set_value (same_txn t) es w)) + (o.left + one o.waits) ≡ ((e.1.left + one e.1.waits) + claims_sum es) + (w.left + one w.waits) = omega (arith, k) in g
    ]) in
    cases (same_txn t e.0) refl h

sum_moves : (n s m x x' y y' : ℕ) → n ≡ s → s + x ≡ m + y → x' ≡ x → y' ≡ y → n + x' ≡ m + y'
sum_moves n s m x x' y y' a b c d = ap (λ z. z + x') a ∙ ap (λ z. s + z) c ∙ b ∙ ap (λ z. m + z) (sym d)

-- the records of others stay
others : {X : Type 0} (f : Option Owner → X) (m n : Owners) (t : TxnNo) (w : Owner)
    → ((q : TxnNo) → lookup (same_txn q) n ≡ cond (same_txn t q) (Some w) (lookup (same_txn q) m))
    → (u : TxnNo) → same_txn t u ≡ false → f (lookup (same_txn u) n) ≡ f (lookup (same_txn u) m)
others f m n t w put u other = put_owner f m n t (Some w) put u ∙ ap (λ b. cond b (f (Some w)) (f (lookup (same_txn u) m))) other

-- a change of one record
pub changes : (m n : Owners) (t : TxnNo) (o w : Owner) (g : Grants)
    → ((q : TxnNo) → lookup (same_txn q) n ≡ cond (same_txn t q) (Some w) (lookup (same_txn q) m))
    → n ≡ set_value (same_txn t) m w
    → Some o ≡ lookup (same_txn t) m
    → ((u : TxnNo) (k : LockName) → grants_in n u k ≡ g u k)
    → Changes m n t g
changes m n t o w g put set was grants =
    let mine : left_in n t ≡ w.left = put_owner left_of m n t (Some w) put t ∙ ap (λ b. cond b w.left (left_of (lookup (same_txn t) m))) (txn_refl t) in
    let mine_before : left_in m t ≡ o.left = ap left_of (sym was) in
    let waits_mine : waits_in n t ≡ w.waits = put_owner waits_of m n t (Some w) put t ∙ ap (λ b. cond b w.waits (waits_of (lookup (same_txn t) m))) (txn_refl t) in
    let waits_before : waits_in m t ≡ o.waits = ap waits_of (sym was) in
    let sum : left_sum n ≡ left_sum (set_value (same_txn t) m w) = ap left_sum set in
    let set_sum : left_sum (set_value (same_txn t) m w) + o.left ≡ left_sum m + w.left = sum_set t m o w (sym was) in
    record {
      grants_are = grants;
      others_left = others left_of m n t w put;
      others_wait = others waits_of m n t w put;
      others_victims = others victim_of m n t w put;
      total = ap (λ x. x + left_in m t) sum ∙ ap (λ x. left_sum (set_value (same_txn t) m w) + x) mine_before ∙ set_sum ∙ ap (λ x. left_sum m + x) (sym mine);
      claims = sum_moves (claims_sum n) (claims_sum (set_value (same_txn t) m w)) (claims_sum m) (o.left + one o.waits) (claim_in m t) (w.left + one w.waits) (claim_in n t)
          (ap claims_sum set) (claims_set t m o w (sym was)) (λ i. mine_before i + one (waits_before i)) (λ i. mine i + one (waits_mine i));
    }

-- what every transaction has stays where the changed record keeps what it has
pub same_grants : (m n : Owners) (t : TxnNo) (o w : Owner)
    → ((q : TxnNo) → lookup (same_txn q) n ≡ cond (same_txn t q) (Some w) (lookup (same_txn q) m))
    → Some o ≡ lookup (same_txn t) m → w.holdings ≡ o.holdings
    → (u : TxnNo) (k : LockName) → grants_in n u k ≡ grants_in m u k
same_grants m n t o w put was same u k =
    put_owner (λ z. modes_of z k) m n t (Some w) put u
    ∙ ap (λ h. cond (same_txn t u) (modes_in h k) (grants_in m u k)) same
    ∙ read_owner (λ z. modes_of z k) m t u (Some o) (λ v. v) (grants_in m u k) (sym was)
    ∙ both_same (same_txn t u) (grants_in m u k)

-- who has no record has nothing, and may ask for nothing
pub no_owner : (m : Owners) (t : TxnNo) (n : LockName) → None ≡ lookup (same_txn t) m → (is_held (grants_in m t n) ≡ true) ⊎ (0 < left_in m t) → ⊥
no_owner m t n none h = elim h [
  | inl held ↦ both_ways _ (ap (λ (o : Option Owner). is_held (modes_of o n)) (sym none) ∙ held_none) held
  | inr some ↦ let z : left_in m t ≡ 0 = ap left_of (sym none) in omega (arith, z, some)
]

pub no_waiter : (m : Owners) (t : TxnNo) → None ≡ lookup (same_txn t) m → waits_in m t ≡ true → ⊥
no_waiter m t none h = both_ways _ (ap waits_of (sym none)) h

-- nothing is released of who has no record
pub none_released : (m : Owners) (t : TxnNo) (n : LockName) → None ≡ lookup (same_txn t) m → (u : TxnNo) (k : LockName) → grants_in m u k ≡ released (grants_in m) t n u k
none_released m t n none u k =
    let cases = λ (b : Bool) (e : (same_txn t u && same_name n k) ≡ b).
    (elim b as (λ x. (same_txn t u && same_name n k) ≡ x → grants_in m u k ≡ cond x no_modes (grants_in m u k))
    [ true ↦ λ s. ap (λ q. grants_in m q k) (sym (txn_eq t u (and_parts _ _ s).0)) ∙ ap (λ (o : Option Owner). modes_of o k) (sym none) | false ↦ λ _. refl ]) e in
    cases (same_txn t u && same_name n k) refl

pub unchanged : (m : Owners) (t : TxnNo) (g : Grants) → ((u : TxnNo) (k : LockName) → grants_in m u k ≡ g u k) → Changes m m t g
unchanged m t g grants = record { grants_are = grants; others_left = λ u h. refl; others_wait = λ u h. refl; others_victims = λ u h. refl; total = refl; claims = refl }

-- the sum without one record
pub sum_remove : (t : TxnNo) (os : Owners) → left_sum (remove_entry (same_txn t) os) + left_in os t ≡ left_sum os
sum_remove t [] = refl
sum_remove t (e ∷ es) =
    let rest = sum_remove t es in
    let cases = λ (b : Bool) (q : same_txn t e.0 ≡ b).
    (elim b as (λ x. left_sum (cond x es (e ∷ remove_entry (same_txn t) es)) + left_of (cond x (Some e.1) (lookup (same_txn t) es)) ≡ e.1.left + left_sum es) [
      | true ↦ (let g : left_sum es + e.1.left ≡ e.1.left + left_sum es = omega arith in g)
      | false ↦ (let g : (e.1.left + left_sum (remove_entry (same_txn t) es)) + left_in es t ≡ e.1.left + left_sum es = omega (arith, rest) in g)
    ]) in
    cases (same_txn t e.0) refl

pub claims_remove : (t : TxnNo) (os : Owners) → claims_sum (remove_entry (same_txn t) os) + claim_in os t ≡ claims_sum os
claims_remove t [] = refl
claims_remove t (e ∷ es) =
    let rest = claims_remove t es in
    let cases = λ (b : Bool) (q : same_txn t e.0 ≡ b).
    (elim b as (λ x. claims_sum (cond x es (e ∷ remove_entry (same_txn t) es)) + (left_of (cond x (Some e.1) (lookup (same_txn t) es)) + one (waits_of (cond x (Some e.1) (lookup (same_txn t) es)))) ≡ (e.1.left + one e.1.waits) + claims_sum es) [
      | true ↦ (let g : claims_sum es + (e.1.left + one e.1.waits) ≡ (e.1.left + one e.1.waits) + claims_sum es = omega arith in g)
      | false ↦ (let g : ((e.1.left + one e.1.waits) + claims_sum (remove_entry (same_txn t) es)) + claim_in es t ≡ (e.1.left + one e.1.waits) + claims_sum es = omega (arith, rest) in g)
    ]) in
    cases (same_txn t e.0) refl

claims_are : (os : Owners) → claims_sum os ≡ sum_by (λ (e : TxnNo × Owner). e.1.left + one e.1.waits) os
claims_are os = is_sum_by claims_sum (λ (e : TxnNo × Owner). e.1.left + one e.1.waits) refl (λ x xs. refl) os

pub claims_permutation : (xs ys : Owners) → IsPermutation xs ys → claims_sum xs ≡ claims_sum ys
claims_permutation xs ys p = claims_are xs ∙ sym (sum_by-IsPermutation (λ (e : TxnNo × Owner). e.1.left + one e.1.waits) xs ys p) ∙ sym (claims_are ys)

-- what one may take is part of the whole
pub claim_within : (os : Owners) (t : TxnNo) → claim_in os t ≤ claims_sum os
claim_within os t = let k = claims_remove t os in omega (arith, k)

sum_is : (os : Owners) → left_sum os ≡ sum_by (λ (e : TxnNo × Owner). e.1.left) os
sum_is os = is_sum_by left_sum (λ (e : TxnNo × Owner). e.1.left) refl (λ x xs. refl) os

pub sum_permutation : (xs ys : Owners) → IsPermutation xs ys → left_sum xs ≡ left_sum ys
sum_permutation xs ys p = sum_is xs ∙ sym (sum_by-IsPermutation (λ (e : TxnNo × Owner). e.1.left) xs ys p) ∙ sym (sum_is ys)

-- who is gone has nothing
pub removed_grants : (m n : Owners) (t : TxnNo) → ((q : TxnNo) → lookup (same_txn q) n ≡ cond (same_txn t q) None (lookup (same_txn q) m))
    → (u : TxnNo) (k : LockName) → grants_in n u k ≡ released_all (grants_in m) t u k
removed_grants m n t put u k = put_owner (λ z. modes_of z k) m n t None put u

-- what is read stays where a transaction gets a record that tells nothing new
fresh : {X : Type 0} (f : Option Owner → X) (m n : Owners) (t : TxnNo) (o : Owner) → f (Some o) ≡ f None → lookup (same_txn t) m ≡ None
    → ((q : TxnNo) → lookup (same_txn q) n ≡ cond (same_txn t q) (Some o) (lookup (same_txn q) m)) → (u : TxnNo) → f (lookup (same_txn u) n) ≡ f (lookup (same_txn u) m)
fresh f m n t o new none put u =
    put_owner f m n t (Some o) put u ∙ ap (λ v. cond (same_txn t u) v (f (lookup (same_txn u) m))) new
    ∙ read_owner f m t u None (λ v. v) (f (lookup (same_txn u) m)) none ∙ both_same (same_txn t u) (f (lookup (same_txn u) m))

pub opened : (m n : Owners) (t : TxnNo) (o : Owner) → ((k : LockName) → modes_in o.holdings k ≡ no_modes) → o.left ≡ 0 → o.waits ≡ false → o.victim ≡ false
    → lookup (same_txn t) m ≡ None → ((q : TxnNo) → lookup (same_txn q) n ≡ cond (same_txn t q) (Some o) (lookup (same_txn q) m))
    → IsPermutation ((t, o) ∷ m) n → IsSame m n
opened m n t o nothing left waits victim none put all =
    let sum = sum_permutation ((t, o) ∷ m) n all in
    record {
      grants = λ u k. fresh (λ z. modes_of z k) m n t o (nothing k) none put u;
      lefts = fresh left_of m n t o left none put;
      waits = fresh waits_of m n t o waits none put;
      victims = fresh victim_of m n t o victim none put;
      total = omega (arith, sum, left);
      claims = (let all = claims_permutation ((t, o) ∷ m) n all in let none : one o.waits ≡ 0 = ap one waits in omega (arith, all, left, none));
    }

pub itself : (m : Owners) → IsSame m m
itself m = record { grants = λ u k. refl; lefts = λ u. refl; waits = λ u. refl; victims = λ u. refl; total = refl; claims = refl }

pub nobody : (o : Option Owner) → is_some o ≡ false → o ≡ None
nobody None h = refl
nobody (Some o) h = absurd (both_ways _ h refl)

-- what every transaction has stays where the changed record has the same modes
pub same_modes : (m n : Owners) (t : TxnNo) (o w : Owner)
    → ((q : TxnNo) → lookup (same_txn q) n ≡ cond (same_txn t q) (Some w) (lookup (same_txn q) m))
    → Some o ≡ lookup (same_txn t) m → ((k : LockName) → modes_in w.holdings k ≡ modes_in o.holdings k)
    → (u : TxnNo) (k : LockName) → grants_in n u k ≡ grants_in m u k
same_modes m n t o w put was same u k =
    put_owner (λ z. modes_of z k) m n t (Some w) put u
    ∙ ap (λ v. cond (same_txn t u) v (grants_in m u k)) (same k)
    ∙ read_owner (λ z. modes_of z k) m t u (Some o) (λ v. v) (grants_in m u k) (sym was)
    ∙ both_same (same_txn t u) (grants_in m u k)

-- Those who are listed under a name are all who have something on it.
use Rattle.std.proofs.Common.{◌≡◌, ℕ, zero, suc, ◌+◌, ◌-◌, ◌<◌, ◌≤◌, Bool, true, false, refl, sym, ◌∙◌, ap, cond, subst, arith, Option, Some, ◌⊎◌, inl, inr}
use Rattle.std.specs.Option.{is_some}
use Rattle.std.specs.Prelude.{◌&&◌, ◌||◌, nat_lt}
use Rattle.std.specs.HashMap.{HashMap, get}
use Rattle.std.proofs.lemmas.Bool.{both_ways, and_parts, ltb-true, ltb-false}
use Rattle.dby_types.specs.declared.number.TxnNo.{TxnNo}
use Rattle.lock_modes.specs.declared.entry.Request.{Request}
use Rattle.lock_modes.specs.declared.mode.Mode.{Mode}
use Rattle.lock_modes.specs.declared.modes.Modes.{Modes}
use Rattle.lock_modes.specs.declared.name.LockName.{LockName}
use Rattle.lock_modes.specs.Lock.{Grants, granted}
use Rattle.lock_modes.specs.Modes.{hinders, is_held, no_modes, with_mode}
use Rattle.lock_modes.specs.Names.{same_name, same_txn, is_row_name}
use Rattle.lock_modes.proofs.ModesLemmas.{hinders_none, held_none}
use Rattle.lock_modes.proofs.NamesLemmas.{name_eq, txn_eq}
use Rattle.lock_modes.proofs.TablesLemmas.{not_held}
use Rattle.lock_manager.specs.declared.places.Place.{Place}
use Rattle.lock_manager.specs.Blocking.{better, IsLeast}
use Rattle.lock_manager.specs.Places.{same_place, place, holder_at, is_taken, is_one, is_seen, IsPacked, IsUnlisted, IsListed, Lists, Unlists}
use Rattle.lock_manager.specs.Owners.{Owners, left_in, waits_in, claims_sum, Changes}
use Rattle.lock_manager.specs.Tallies.{one}
use Rattle.lock_manager.proofs.BlockingLemmas.{least_same, least_next, with_one}
use Rattle.lock_manager.proofs.PlacesLemmas.{none_one}

or_none : (a b : Bool) → (a || b) ≡ false → (a ≡ false) × (b ≡ false)
or_none true b h = absurd (both_ways true h refl)
or_none false b h = (refl, h)

and_no : (a : Bool) → (a && false) ≡ false
and_no true = refl
and_no false = refl

and_yes : (a : Bool) → (a && true) ≡ a
and_yes true = refl
and_yes false = refl

or_no : (a : Bool) → (a || false) ≡ a
or_no true = refl
or_no false = refl

and_flip : (a b : Bool) → (a && b) ≡ (b && a)
and_flip true true = refl
and_flip true false = refl
and_flip false true = refl
and_flip false false = refl

-- modes on a name on which nothing is held hinder nobody
pub hinders_quiet : (ms : Modes) (m : Mode) → is_held ms ≡ false → hinders ms m ≡ false
hinders_quiet ms m h = ap (λ x. hinders x m) (not_held ms h) ∙ hinders_none m

pub in_way_quiet : (a : Bool) (ms : Modes) (m : Mode) → is_held ms ≡ false → (a && hinders ms m) ≡ false
in_way_quiet a ms m h = ap (λ b. a && b) (hinders_quiet ms m h) ∙ and_no a

seen_none : {S : Type 0} (m : HashMap Place TxnNo S) (n : LockName) (k : ℕ) (t : TxnNo) → is_seen m n k t ≡ false → (j : ℕ) → j < k → is_one (holder_at m n j) t ≡ false
seen_none m n zero t h j less = absurd (omega (arith, less))
seen_none m n (suc k) t h j less =
    let p = or_none (is_seen m n k t) (is_one (holder_at m n k) t) h in
    let cases = λ (x : Bool) (s : nat_lt j k ≡ x).
    (elim x as (λ w. nat_lt j k ≡ w → is_one (holder_at m n j) t ≡ false) [
      | true ↦ λ s. seen_none m n k t p.0 j (ltb-true j k s)
      | false ↦ λ s. (let l : k ≤ j = ltb-false j k s in let same : k ≡ j = omega (arith, l, less) in ap (λ i. is_one (holder_at m n i) t) (sym same) ∙ p.1)
    ]) s in
    cases (nat_lt j k) refl

-- who isn't among those before a free place isn't listed
unseen : {S : Type 0} (m : HashMap Place TxnNo S) → IsPacked m → (n : LockName) (k : ℕ) → is_taken m n k ≡ false → (t : TxnNo) → is_seen m n k t ≡ false → IsUnlisted m n t
unseen m packed n k free t h j =
    let cases = λ (x : Bool) (s : nat_lt j k ≡ x).
    (elim x as (λ w. nat_lt j k ≡ w → is_one (holder_at m n j) t ≡ false) [
      | true ↦ λ s. seen_none m n k t h j (ltb-true j k s)
      | false ↦ λ s. none_one (holder_at m n j) t (packed n k j (ltb-false j k s) free)
    ]) s in
    cases (nat_lt j k) refl

-- a test that only those pass who have something on the name is passed by nobody else
pub seen_all : {S : Type 0} (m : HashMap Place TxnNo S) (g : Grants) → IsPacked m → IsListed m g → (n : LockName) (k : ℕ) → is_taken m n k ≡ false
    → (f : TxnNo → Bool) → ((h : TxnNo) → is_held (g h n) ≡ false → f h ≡ false) → (h : TxnNo) → (f h && is_seen m n k h) ≡ f h
seen_all m g packed listed n k free f quiet h =
    let cases = λ (x : Bool) (s : is_seen m n k h ≡ x).
    (elim x as (λ w. is_seen m n k h ≡ w → (f h && w) ≡ f h) [
      | true ↦ λ _. and_yes (f h)
      | false ↦ λ s. and_no (f h) ∙ sym (quiet h (listed n h (unseen m packed n k free h s)))
    ]) s in
    cases (is_seen m n k h) refl

-- nobody passes where none of those who are listed does
pub none_passes : {S : Type 0} (m : HashMap Place TxnNo S) (g : Grants) → IsPacked m → IsListed m g → (n : LockName) (k : ℕ) → is_taken m n k ≡ false
    → (f : TxnNo → Bool) → ((h : TxnNo) → is_held (g h n) ≡ false → f h ≡ false) → ((h : TxnNo) → (f h && is_seen m n k h) ≡ false) → (h : TxnNo) → f h ≡ false
none_passes m g packed listed n k free f quiet none h = sym (seen_all m g packed listed n k free f quiet h) ∙ none h

pub least_passes : {S : Type 0} (m : HashMap Place TxnNo S) (g : Grants) → IsPacked m → IsListed m g → (n : LockName) (k : ℕ) → is_taken m n k ≡ false
    → (f : TxnNo → Bool) → ((h : TxnNo) → is_held (g h n) ≡ false → f h ≡ false) → (above best : Option TxnNo) → IsLeast (λ h. f h && is_seen m n k h) above best → IsLeast f above best
least_passes m g packed listed n k free f quiet above best least =
    least_same (λ h. f h && is_seen m n k h) f above best (λ h. sym (seen_all m g packed listed n k free f quiet h)) least

suc_is : (k : ℕ) → suc k ≡ k + 1
suc_is k = omega arith

-- one more was asked, and doesn't pass
pub none_next : {S : Type 0} (m : HashMap Place TxnNo S) (n : LockName) (k : ℕ) (t : TxnNo) (f : TxnNo → Bool) → Some t ≡ holder_at m n k → f t ≡ false
    → ((h : TxnNo) → (f h && is_seen m n k h) ≡ false) → (h : TxnNo) → (f h && is_seen m n (k + 1) h) ≡ false
none_next m n k t f there fails none h =
    let cases = λ (x : Bool) (s : same_txn t h ≡ x).
    (elim x as (λ w. same_txn t h ≡ w → (f h && (is_seen m n k h || w)) ≡ false) [
      | true ↦ λ s. ap (λ b. b && (is_seen m n k h || true)) (ap f (sym (txn_eq t h s)) ∙ fails)
      | false ↦ λ _. ap (λ b. f h && b) (or_no (is_seen m n k h)) ∙ none h
    ]) s in
    subst (λ (j : ℕ). (f h && is_seen m n j h) ≡ false) (suc_is k)
    (ap (λ (o : Option TxnNo). f h && (is_seen m n k h || is_one o h)) (sym there) ∙ cases (same_txn t h) refl)

-- one more was asked, and is the best so far where it passes and is better
pub least_more : {S : Type 0} (m : HashMap Place TxnNo S) (n : LockName) (k : ℕ) (t : TxnNo) (f : TxnNo → Bool) (above best : Option TxnNo) → Some t ≡ holder_at m n k
    → IsLeast (λ h. f h && is_seen m n k h) above best → IsLeast (λ h. f h && is_seen m n (k + 1) h) above (better above best (f t) t)
least_more m n k t f above best there least =
    subst (λ (j : ℕ). IsLeast (λ h. f h && is_seen m n j h) above (better above best (f t) t)) (suc_is k)
    (least_same (with_one (λ h. f h && is_seen m n k h) t (f t)) (λ h. f h && is_seen m n (suc k) h) above (better above best (f t) t)
    (λ h. ap (λ (o : Option TxnNo). f h && (is_seen m n k h || is_one o h)) (sym there) ∙ either h)
    (least_next (λ h. f h && is_seen m n k h) above best t (f t) least))
  where
    both : (a b : Bool) → (a && (b || true)) ≡ ((a && b) || a)
    both true true = refl
    both true false = refl
    both false b = refl

    neither : (a b : Bool) → (a && (b || false)) ≡ ((a && b) || false)
    neither true true = refl
    neither true false = refl
    neither false b = refl

    either : (h : TxnNo) → (f h && (is_seen m n k h || same_txn t h)) ≡ ((f h && is_seen m n k h) || (same_txn t h && f t))
    either h =
        let cases = λ (x : Bool) (s : same_txn t h ≡ x).
        (elim x as (λ w. same_txn t h ≡ w → (f h && (is_seen m n k h || w)) ≡ ((f h && is_seen m n k h) || (w && f t))) [
          | true ↦ λ s. both (f h) (is_seen m n k h) ∙ ap (λ b. (f h && is_seen m n k h) || b) (ap f (sym (txn_eq t h s)))
          | false ↦ λ _. neither (f h) (is_seen m n k h)
        ]) s in
        cases (same_txn t h) refl

-- a name that is new to a transaction was granted, and the transaction listed under it
pub granted_listed : {S : Type 0} (m n : HashMap Place TxnNo S) (g g' : Grants) (r : Request) → Lists m n r.name r.txn → IsListed m g
    → ((u : TxnNo) (k : LockName) → g' u k ≡ granted g r u k) → IsListed n g'
granted_listed m n g g' r lists listed is k u none =
    let q = lists k u none in
    ap is_held (is u k ∙ ap (λ b. cond b (with_mode (g u k) r.mode) (g u k)) (and_flip (same_txn r.txn u) (same_name r.name k) ∙ q.0)) ∙ listed k u q.1

-- a mode more was granted on a name on which the transaction had something
pub granted_held : {S : Type 0} (m : HashMap Place TxnNo S) (g g' : Grants) (r : Request) → is_held (g r.txn r.name) ≡ true → IsListed m g
    → ((u : TxnNo) (k : LockName) → g' u k ≡ granted g r u k) → IsListed m g'
granted_held m g g' r held listed is k u none =
    let cases = λ (b : Bool) (s : (same_txn r.txn u && same_name r.name k) ≡ b).
    (elim b as (λ w. (same_txn r.txn u && same_name r.name k) ≡ w → is_held (cond w (with_mode (g u k) r.mode) (g u k)) ≡ false) [
      | true ↦ λ s.
          let p = and_parts _ _ s in
          let here : is_held (g r.txn r.name) ≡ is_held (g u k) = (λ i. is_held (g (txn_eq r.txn u p.0 i) (name_eq r.name k p.1 i))) in
          absurd (both_ways _ (here ∙ listed k u none) held)
      | false ↦ λ _. listed k u none
    ]) s in
    ap is_held (is u k) ∙ cases (same_txn r.txn u && same_name r.name k) refl

-- names that pass a test were given back, and the transaction taken out of their lists
pub less_listed : {S : Type 0} (m n : HashMap Place TxnNo S) (g g' : Grants) (test : LockName → Bool) (t : TxnNo) → Unlists m n test t → IsListed m g
    → ((u : TxnNo) (k : LockName) → (test k && same_txn t u) ≡ true → is_held (g' u k) ≡ false)
    → ((u : TxnNo) (k : LockName) → (test k && same_txn t u) ≡ false → g' u k ≡ g u k) → IsListed n g'
less_listed m n g g' test t unlists listed gone stays k u none =
    let cases = λ (b : Bool) (s : (test k && same_txn t u) ≡ b).
    (elim b as (λ w. (test k && same_txn t u) ≡ w → is_held (g' u k) ≡ false) [
      | true ↦ λ s. gone u k s
      | false ↦ λ s. ap is_held (stays u k s) ∙ listed k u (unlists k u s none)
    ]) s in
    cases (test k && same_txn t u) refl

-- all that a transaction had on the names that pass was given back
pub given_back : {S : Type 0} (m n : HashMap Place TxnNo S) (g g' : Grants) (test : LockName → Bool) (t : TxnNo) → Unlists m n test t → IsListed m g
    → ((u : TxnNo) (k : LockName) → g' u k ≡ cond (same_txn t u && test k) no_modes (g u k)) → IsListed n g'
given_back m n g g' test t unlists listed is =
    less_listed m n g g' test t unlists listed
    (λ u k s. ap is_held (is u k ∙ ap (λ b. cond b no_modes (g u k)) (and_flip (same_txn t u) (test k) ∙ s)) ∙ held_none)
    (λ u k s. is u k ∙ ap (λ b. cond b no_modes (g u k)) (and_flip (same_txn t u) (test k) ∙ s))

pub all_given_back : {S : Type 0} (m n : HashMap Place TxnNo S) (g g' : Grants) (t : TxnNo) → Unlists m n (λ k. true) t → IsListed m g
    → ((u : TxnNo) (k : LockName) → g' u k ≡ cond (same_txn t u) no_modes (g u k)) → IsListed n g'
all_given_back m n g g' t unlists listed is =
    given_back m n g g' (λ k. true) t unlists listed (λ u k. is u k ∙ ap (λ b. cond b no_modes (g u k)) (sym (and_yes (same_txn t u))))

-- the map has the same at each place
pub same_packed : {S : Type 0} (m n : HashMap Place TxnNo S) → ((q : Place) → get same_place n q ≡ get same_place m q) → IsPacked m → IsPacked n
same_packed m n same packed k i j less free = ap is_some (same (place k j)) ∙ packed k i j less (sym (ap is_some (same (place k i))) ∙ free)

pub same_places : {S : Type 0} (m n : HashMap Place TxnNo S) (g g' : Grants) → ((q : Place) → get same_place n q ≡ get same_place m q) → IsListed m g
    → ((u : TxnNo) (k : LockName) → g' u k ≡ g u k) → IsListed n g'
same_places m n g g' same listed is k u none = ap is_held (is u k) ∙ listed k u (λ i. sym (ap (λ o. is_one o u) (same (place k i))) ∙ none i)

-- what all may take: as before, less by one, more by some
pub claims_same : (os os' : Owners) (t : TxnNo) (g : Grants) (n : ℕ) → Changes os os' t g → left_in os' t ≡ left_in os t → waits_in os' t ≡ waits_in os t → n ≡ claims_sum os → n ≡ claims_sum os'
claims_same os os' t g n ch left waits was =
    let w : one (waits_in os' t) ≡ one (waits_in os t) = ap one waits in
    let c : claims_sum os' + (left_in os t + one (waits_in os t)) ≡ claims_sum os + (left_in os' t + one (waits_in os' t)) = ch.claims in
    omega (arith, c, left, w, was)

pub claims_spent : (os os' : Owners) (t : TxnNo) (g : Grants) (n : ℕ) → Changes os os' t g → left_in os' t ≡ left_in os t - 1 → 0 < left_in os t → waits_in os' t ≡ waits_in os t → n ≡ claims_sum os → n - 1 ≡ claims_sum os'
claims_spent os os' t g n ch left some waits was =
    let w : one (waits_in os' t) ≡ one (waits_in os t) = ap one waits in
    let c : claims_sum os' + (left_in os t + one (waits_in os t)) ≡ claims_sum os + (left_in os' t + one (waits_in os' t)) = ch.claims in
    omega (arith, c, left, some, w, was)

pub claims_granted : (os os' : Owners) (t : TxnNo) (g : Grants) (n : ℕ) → Changes os os' t g → left_in os' t ≡ left_in os t → waits_in os t ≡ true → waits_in os' t ≡ false → n ≡ claims_sum os → n - 1 ≡ claims_sum os'
claims_granted os os' t g n ch left before waits was =
    let b : one (waits_in os t) ≡ 1 = ap one before in
    let w : one (waits_in os' t) ≡ 0 = ap one waits in
    let c : claims_sum os' + (left_in os t + one (waits_in os t)) ≡ claims_sum os + (left_in os' t + one (waits_in os' t)) = ch.claims in
    omega (arith, c, left, b, w, was)

pub claims_more : (os os' : Owners) (t : TxnNo) (g : Grants) (n k : ℕ) → Changes os os' t g → left_in os' t ≡ k → left_in os t ≤ k → waits_in os' t ≡ waits_in os t → n ≡ claims_sum os → n + (k - left_in os t) ≡ claims_sum os'
claims_more os os' t g n k ch left more waits was =
    let w : one (waits_in os' t) ≡ one (waits_in os t) = ap one waits in
    let c : claims_sum os' + (left_in os t + one (waits_in os t)) ≡ claims_sum os + (left_in os' t + one (waits_in os' t)) = ch.claims in
    omega (arith, c, left, more, w, was)

-- there is one to spend where a new name is granted
pub some_to_spend : (h : Bool) (k : ℕ) → (h ≡ true) ⊎ (0 < k) → h ≡ false → 0 < k
some_to_spend h k (inl held) none = absurd (both_ways _ none held)
some_to_spend h k (inr some) none = some

-- the grants are as before
pub same_listed : {S : Type 0} (m : HashMap Place TxnNo S) (g g' : Grants) → IsListed m g → ((u : TxnNo) (k : LockName) → g' u k ≡ g u k) → IsListed m g'
same_listed m g g' listed is k u none = ap is_held (is u k) ∙ listed k u none

-- a name that isn't a row's of the table, or not the transaction's, isn't the row that was taken out
pub row_other : (table : ℕ) (name k : LockName) (t u : TxnNo) → is_row_name table name ≡ true → (is_row_name table k && same_txn t u) ≡ false → (same_name name k && same_txn t u) ≡ false
row_other table name k t u row other =
    let cases = λ (b : Bool) (s : same_name name k ≡ b).
    (elim b as (λ w. same_name name k ≡ w → (w && same_txn t u) ≡ false) [
      | true ↦ λ s. sym (ap (λ b. b && same_txn t u) (ap (λ x. is_row_name table x) (sym (name_eq name k s)) ∙ row)) ∙ other
      | false ↦ λ _. refl
    ]) s in
    cases (same_name name k) refl

pub txn_other : (name k : LockName) (t u : TxnNo) → same_txn t u ≡ false → (same_name name k && same_txn t u) ≡ false
txn_other name k t u other = ap (λ b. same_name name k && b) other ∙ and_no (same_name name k)

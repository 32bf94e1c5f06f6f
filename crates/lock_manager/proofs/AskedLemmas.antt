-- The requests of a line by name.
use Rattle.std.proofs.Common.{◌≡◌, ℕ, zero, suc, ◌+◌, ◌<◌, ◌≤◌, Bool, true, false, refl, sym, ◌∙◌, ap, cond, List, [], ◌∷◌, ◌++◌, length, take, drop, get_or, subst, arith, Option, Some, None, append-nil}
use Rattle.std.specs.Prelude.{◌&&◌, ◌||◌, ◌==◌, not, nat_lt}
use Rattle.std.specs.Option.{is_some, unwrap_or}
use Rattle.std.specs.List.{list_any, slice_get, remove}
use Rattle.std.specs.Map.{lookup}
use Rattle.std.specs.HashMap.{HashMap, get}
use Rattle.std.proofs.Math.Seq.{drop-cons}
use Rattle.std.proofs.lemmas.List.{take-append-drop}
use Rattle.std.proofs.lemmas.List.Elements.{filter-append}
use Rattle.std.proofs.lemmas.Map.Views.{any-filter_same}
use Rattle.std.proofs.lemmas.Bool.{both_ways, and_parts, and_from, or_left, eqb-true, eq-eqb, ltb-true, ltb-false}
use Rattle.dby_types.specs.declared.number.TxnNo.{TxnNo}
use Rattle.lock_modes.specs.declared.entry.Request.{Request}
use Rattle.lock_modes.specs.declared.mode.Mode.{Mode}
use Rattle.lock_modes.specs.declared.modes.Modes.{Modes}
use Rattle.lock_modes.specs.declared.name.LockName.{LockName}
use Rattle.lock_modes.specs.Modes.{is_held, no_modes}
use Rattle.lock_modes.specs.Names.{same_name, same_txn}
use Rattle.lock_modes.specs.Waits.{asks_before, opposes}
use Rattle.lock_modes.proofs.ModesLemmas.{held_none}
use Rattle.lock_modes.proofs.NamesLemmas.{name_eq, name_refl, txn_eq, txn_refl}
use Rattle.lock_manager.specs.Asked.{asks_for, is_asked, asks_for_any, asked_at, IsByName, Closes, Closing}
use Rattle.lock_manager.specs.Places.{same_place, place}
use Rattle.lock_manager.specs.Serve.{contests}
use Rattle.lock_manager.specs.declared.places.Place.{Place}

or_none : (a b : Bool) → (a || b) ≡ false → (a ≡ false) × (b ≡ false)
or_none true b h = absurd (both_ways true h refl)
or_none false b h = (refl, h)

and_no : (a : Bool) → (a && false) ≡ false
and_no true = refl
and_no false = refl

-- what only requests for a name pass is asked of these alone
pub asks_only : (n : LockName) (test : Request → Bool) → ((q : Request) → test q ≡ true → same_name q.name n ≡ true) → (rs : List Request) → list_any test (asks_for n rs) ≡ list_any test rs
asks_only n test only rs = any-filter_same test (λ r. same_name r.name n) true only rs

pub asks_before_only : (r : Request) (h : TxnNo) (rs : List Request) → asks_before (asks_for r.name rs) r h ≡ asks_before rs r h
asks_before_only r h rs = asks_only r.name (λ q. same_txn q.txn h && opposes q r) (λ q s. (and_parts (same_name q.name r.name) _ (and_parts (same_txn q.txn h) _ s).1).0) rs

pub contests_only : (n : LockName) (m : Mode) (rs : List Request) → list_any (contests n m) (asks_for n rs) ≡ list_any (contests n m) rs
contests_only n m rs = asks_only n (contests n m) (λ q s. (and_parts (same_name q.name n) _ s).0) rs

-- what stands from a place on, where there is a request, and where there is none
next_suc : (xs : List Request) (i : ℕ) (q : Request) → Some q ≡ slice_get xs i → drop i xs ≡ q ∷ drop (suc i) xs
next_suc [] i q h = absurd (cc h)
next_suc (x ∷ xs) zero q h = let e : q ≡ x = ap (λ (o : Option Request). unwrap_or o q) h in ap (λ y. y ∷ xs) (sym e)
next_suc (x ∷ xs) (suc i) q h = next_suc xs i q h

suc_is : (k : ℕ) → suc k ≡ k + 1
suc_is k = omega arith

pub next_some : (xs : List Request) (i : ℕ) (q : Request) → Some q ≡ slice_get xs i → drop i xs ≡ q ∷ drop (i + 1) xs
next_some xs i q h = next_suc xs i q h ∙ ap (λ k. q ∷ drop k xs) (suc_is i)

pub next_none : (xs : List Request) (i : ℕ) → is_some (slice_get xs i) ≡ false → drop i xs ≡ []
next_none [] zero h = refl
next_none [] (suc i) h = refl
next_none (x ∷ xs) zero h = absurd (both_ways _ h refl)
next_none (x ∷ xs) (suc i) h = next_none xs i h

-- no asker was found in the way so far
abbrev pub Passed : List Request → Request → ℕ → Type 0
Passed line r i = (h : TxnNo) → (not (same_txn h r.txn) && asks_before line r h) ≡ (not (same_txn h r.txn) && asks_before (drop i (asks_for r.name line)) r h)

pub passed_starts : (line : List Request) (r : Request) → Passed line r 0
passed_starts line r h = ap (λ b. not (same_txn h r.txn) && b) (sym (asks_before_only r h line))

pub passed_all : (line : List Request) (r : Request) (i : ℕ) → is_some (slice_get (asks_for r.name line) i) ≡ false → Passed line r i → (h : TxnNo) → (not (same_txn h r.txn) && asks_before line r h) ≡ false
passed_all line r i none passed h =
    passed h ∙ ap (λ xs. not (same_txn h r.txn) && asks_before xs r h) (next_none (asks_for r.name line) i none) ∙ and_no (not (same_txn h r.txn))

pub passed_next : (line : List Request) (r : Request) (i : ℕ) (q : Request) → Some q ≡ slice_get (asks_for r.name line) i → (not (same_txn q.txn r.txn) && contests r.name r.mode q) ≡ false → Passed line r i → Passed line r (i + 1)
passed_next line r i q there fails passed h =
    passed h ∙ ap (λ xs. not (same_txn h r.txn) && asks_before xs r h) (next_some (asks_for r.name line) i q there) ∙ cases (same_txn q.txn h) refl
  where
    rest : Bool
    rest = asks_before (drop (i + 1) (asks_for r.name line)) r h

    drops : (a b c : Bool) → (a && b) ≡ false → (a && (b || c)) ≡ (a && c)
    drops true true c k = absurd (both_ways _ k refl)
    drops true false c k = refl
    drops false b c k = refl

    cases : (w : Bool) → same_txn q.txn h ≡ w → (not (same_txn h r.txn) && ((same_txn q.txn h && contests r.name r.mode q) || rest)) ≡ (not (same_txn h r.txn) && rest)
    cases true s =
        ap (λ w. not (same_txn h r.txn) && ((w && contests r.name r.mode q) || rest)) s
        ∙ drops (not (same_txn h r.txn)) (contests r.name r.mode q) rest (ap (λ (t : TxnNo). not (same_txn t r.txn) && contests r.name r.mode q) (sym (txn_eq q.txn h s)) ∙ fails)
    cases false s = ap (λ w. not (same_txn h r.txn) && ((w && contests r.name r.mode q) || rest)) s

pub passed_found : (line : List Request) (r : Request) (i : ℕ) (q : Request) → Some q ≡ slice_get (asks_for r.name line) i → (not (same_txn q.txn r.txn) && contests r.name r.mode q) ≡ true → Passed line r i
    → (not (same_txn q.txn r.txn) && asks_before line r q.txn) ≡ true
passed_found line r i q there holds passed =
    let p = and_parts (not (same_txn q.txn r.txn)) (contests r.name r.mode q) holds in
    passed q.txn ∙ ap (λ xs. not (same_txn q.txn r.txn) && asks_before xs r q.txn) (next_some (asks_for r.name line) i q there)
    ∙ and_from _ _ p.0 (or_left _ _ (and_from _ _ (txn_refl q.txn) p.1))

pub contest_next : (n : LockName) (m : Mode) (xs : List Request) (i : ℕ) (q : Request) → Some q ≡ slice_get xs i → contests n m q ≡ false → list_any (contests n m) (drop i xs) ≡ list_any (contests n m) (drop (i + 1) xs)
contest_next n m xs i q there fails = ap (list_any (contests n m)) (next_some xs i q there) ∙ ap (λ b. b || list_any (contests n m) (drop (i + 1) xs)) fails

pub contest_found : (n : LockName) (m : Mode) (xs : List Request) (i : ℕ) (q : Request) → Some q ≡ slice_get xs i → contests n m q ≡ true → list_any (contests n m) (drop i xs) ≡ true
contest_found n m xs i q there holds = ap (list_any (contests n m)) (next_some xs i q there) ∙ or_left _ _ holds

pub contest_none : (n : LockName) (m : Mode) (xs : List Request) (i : ℕ) → is_some (slice_get xs i) ≡ false → list_any (contests n m) (drop i xs) ≡ false
contest_none n m xs i none = ap (list_any (contests n m)) (next_none xs i none)

pub some_within : (xs : List Request) (i : ℕ) → is_some (slice_get xs i) ≡ true → i < length xs
some_within [] i h = absurd (both_ways _ refl h)
some_within (x ∷ xs) zero h = omega arith
some_within (x ∷ xs) (suc i) h = let k = some_within xs i h in omega (arith, k)

pub none_beyond : (xs : List Request) (i : ℕ) → is_some (slice_get xs i) ≡ false → length xs ≤ i
none_beyond [] i h = omega arith
none_beyond (x ∷ xs) zero h = absurd (both_ways _ h refl)
none_beyond (x ∷ xs) (suc i) h = let k = none_beyond xs i h in omega (arith, k)

pub within_some : (xs : List Request) (i : ℕ) → i < length xs → is_some (slice_get xs i) ≡ true
within_some [] i h = absurd (omega (arith, h))
within_some (x ∷ xs) zero h = refl
within_some (x ∷ xs) (suc i) h = within_some xs i (omega (arith, h))

pub beyond_none : (xs : List Request) (i : ℕ) → length xs ≤ i → slice_get xs i ≡ None
beyond_none [] i h = refl
beyond_none (x ∷ xs) zero h = absurd (omega (arith, h))
beyond_none (x ∷ xs) (suc i) h = beyond_none xs i (omega (arith, h))

-- a name has no more requests than the line
pub asks_short : (n : LockName) (rs : List Request) → length (asks_for n rs) ≤ length rs
asks_short n [] = omega arith
asks_short n (r ∷ rs) =
    let rest = asks_short n rs in
    let cases = λ (b : Bool). (elim b as (λ w. length (cond w (r ∷ asks_for n rs) (asks_for n rs)) ≤ suc (length rs)) [ true ↦ (let k : suc (length (asks_for n rs)) ≤ suc (length rs) = omega (arith, rest) in k) | false ↦ (let k : length (asks_for n rs) ≤ suc (length rs) = omega (arith, rest) in k) ]) in
    cases (same_name r.name n)

pub past_line : (n : LockName) (rs : List Request) (i : ℕ) → length rs ≤ i → is_some (slice_get (asks_for n rs) i) ≡ false
past_line n rs i h = ap is_some (beyond_none (asks_for n rs) i (let k = asks_short n rs in omega (arith, k, h)))

-- nobody asks where the name's list is empty
pub first_asks : (n : LockName) (rs : List Request) → is_some (slice_get (asks_for n rs) 0) ≡ is_asked n rs
first_asks n [] = refl
first_asks n (r ∷ rs) =
    let rest = first_asks n rs in
    let cases = λ (b : Bool). (elim b as (λ w. is_some (slice_get (cond w (r ∷ asks_for n rs) (asks_for n rs)) 0) ≡ (w || is_asked n rs)) [ true ↦ refl | false ↦ rest ]) in
    cases (same_name r.name n)

-- one more at the end of a list
at_end : (xs : List Request) (r : Request) → slice_get (xs ++ r ∷ []) (length xs) ≡ Some r
at_end [] r = refl
at_end (x ∷ xs) r = at_end xs r

not_end : (xs : List Request) (r : Request) (i : ℕ) → (length xs ≡ i → ⊥) → slice_get (xs ++ r ∷ []) i ≡ slice_get xs i
not_end [] r zero differ = absurd (differ refl)
not_end [] r (suc i) differ = refl
not_end (x ∷ xs) r zero differ = refl
not_end (x ∷ xs) r (suc i) differ = not_end xs r i (λ e. differ (ap suc e))

put_end : (xs : List Request) (r : Request) (i : ℕ) → slice_get (xs ++ r ∷ []) i ≡ cond (length xs == i) (Some r) (slice_get xs i)
put_end xs r i =
    let cases = λ (w : Bool) (s : (length xs == i) ≡ w).
    (elim w as (λ v. (length xs == i) ≡ v → slice_get (xs ++ r ∷ []) i ≡ cond v (Some r) (slice_get xs i)) [
      | true ↦ λ s. ap (λ k. slice_get (xs ++ r ∷ []) k) (sym (eqb-true (length xs) i s)) ∙ at_end xs r
      | false ↦ λ s. not_end xs r i (λ e. both_ways _ s (eq-eqb (length xs) i e))
    ]) s in
    cases (length xs == i) refl

before_one : (a b : List Request) (r : Request) (i : ℕ) → i < length a → slice_get (a ++ b) i ≡ slice_get (a ++ r ∷ b) i
before_one [] b r i h = absurd (omega (arith, h))
before_one (x ∷ a) b r zero h = refl
before_one (x ∷ a) b r (suc i) h = before_one a b r i (omega (arith, h))

behind_one : (a b : List Request) (r : Request) (i : ℕ) → length a ≤ i → slice_get (a ++ b) i ≡ slice_get (a ++ r ∷ b) (suc i)
behind_one [] b r i h = refl
behind_one (x ∷ a) b r zero h = absurd (omega (arith, h))
behind_one (x ∷ a) b r (suc i) h = behind_one a b r i (omega (arith, h))

-- the requests for a name, with one that is for it, and with one that isn't
with_one : (n : LockName) (a b : List Request) (r : Request) → same_name r.name n ≡ true → asks_for n (a ++ r ∷ b) ≡ asks_for n a ++ r ∷ asks_for n b
with_one n a b r s = filter-append (λ q. same_name q.name n) a (r ∷ b) ∙ ap (λ w. asks_for n a ++ cond w (r ∷ asks_for n b) (asks_for n b)) s

with_other : (n : LockName) (a b : List Request) (r : Request) → same_name r.name n ≡ false → asks_for n (a ++ r ∷ b) ≡ asks_for n (a ++ b)
with_other n a b r s =
    filter-append (λ q. same_name q.name n) a (r ∷ b) ∙ ap (λ w. asks_for n a ++ cond w (r ∷ asks_for n b) (asks_for n b)) s
    ∙ sym (filter-append (λ q. same_name q.name n) a b)

-- a request was noted at the end of its name's list
pub noted : {S : Type 0} (m m' : HashMap Place Request S) (rs : List Request) (r : Request) (k : ℕ) → IsByName m rs → k ≡ length (asks_for r.name rs)
    → ((q : Place) → get same_place m' q ≡ cond (same_place (place r.name k) q) (Some r) (get same_place m q)) → IsByName m' (rs ++ r ∷ [])
noted m m' rs r k by is put n i =
    let cases = λ (b : Bool) (s : same_name r.name n ≡ b).
    (elim b as (λ w. same_name r.name n ≡ w → cond (w && k == i) (Some r) (asked_at m n i) ≡ slice_get (asks_for n (rs ++ r ∷ [])) i) [
      | true ↦ λ s.
          let long : k ≡ length (asks_for n rs) = is ∙ ap (λ (x : LockName). length (asks_for x rs)) (name_eq r.name n s) in
          ap (λ o. cond (k == i) (Some r) o) (by n i) ∙ ap (λ l. cond (l == i) (Some r) (slice_get (asks_for n rs) i)) long
          ∙ sym (put_end (asks_for n rs) r i) ∙ ap (λ xs. slice_get xs i) (sym (with_one n rs [] r s))
      | false ↦ λ s. by n i ∙ ap (λ xs. slice_get xs i) (sym (with_other n rs [] r s ∙ ap (asks_for n) (append-nil rs)))
    ]) s in
    put (place n i) ∙ cases (same_name r.name n) refl

-- a request was taken out of its name's list
struck : {S : Type 0} (m m' : HashMap Place Request S) (a b : List Request) (r : Request) → IsByName m (a ++ r ∷ b) → Closes m m' r.name (length (asks_for r.name a)) → IsByName m' (a ++ b)
struck m m' a b r by closes n i =
    let cases = λ (w : Bool) (s : same_name r.name n ≡ w).
    (elim w as (λ v. same_name r.name n ≡ v → asked_at m' n i ≡ slice_get (asks_for n (a ++ b)) i) [
      | true ↦ λ s. subst (λ (x : LockName). asked_at m' x i ≡ slice_get (asks_for x (a ++ b)) i) (name_eq r.name n s) (mine (nat_lt i (length (asks_for r.name a))) refl)
      | false ↦ λ s. closes.others n i s ∙ by n i ∙ ap (λ xs. slice_get xs i) (with_other n a b r s)
    ]) s in
    cases (same_name r.name n) refl
  where
    mine : (w : Bool) → nat_lt i (length (asks_for r.name a)) ≡ w → asked_at m' r.name i ≡ slice_get (asks_for r.name (a ++ b)) i
    mine true s =
        let less = ltb-true i (length (asks_for r.name a)) s in
        closes.before i less ∙ by r.name i ∙ ap (λ xs. slice_get xs i) (with_one r.name a b r (name_refl r.name))
        ∙ sym (before_one (asks_for r.name a) (asks_for r.name b) r i less) ∙ ap (λ xs. slice_get xs i) (sym (filter-append (λ q. same_name q.name r.name) a b))
    mine false s =
        let less = ltb-false i (length (asks_for r.name a)) s in
        closes.behind i less ∙ by r.name (suc i) ∙ ap (λ xs. slice_get xs (suc i)) (with_one r.name a b r (name_refl r.name))
        ∙ sym (behind_one (asks_for r.name a) (asks_for r.name b) r i less) ∙ ap (λ xs. slice_get xs i) (sym (filter-append (λ q. same_name q.name r.name) a b))

-- a line about one of its places
pub split_at : (line : List Request) (at : ℕ) (r : Request) → at < length line → r ≡ get_or line at r → line ≡ take at line ++ r ∷ drop (suc at) line
split_at line at r within read = sym (take-append-drop at line) ∙ ap (λ xs. take at line ++ xs) (drop-cons line at r within ∙ ap (λ q. q ∷ drop (suc at) line) (sym read))

pub struck_at : {S : Type 0} (m m' : HashMap Place Request S) (line : List Request) (at : ℕ) (r : Request) → at < length line → r ≡ get_or line at r
    → IsByName m line → Closes m m' r.name (length (asks_for r.name (take at line))) → IsByName m' (remove line at)
struck_at m m' line at r within read by closes = struck m m' (take at line) (drop (suc at) line) r (subst (λ (xs : List Request). IsByName m xs) (split_at line at r within read) by) closes

-- those of a name that stand before a request for it are fewer than all
pub before_all : (line : List Request) (at : ℕ) (r : Request) → at < length line → r ≡ get_or line at r → length (asks_for r.name (take at line)) < length (asks_for r.name line)
before_all line at r within read =
    let all : asks_for r.name line ≡ asks_for r.name (take at line) ++ r ∷ asks_for r.name (drop (suc at) line) =
    ap (asks_for r.name) (split_at line at r within read) ∙ with_one r.name (take at line) (drop (suc at) line) r (name_refl r.name) in
    subst (λ (xs : List Request). length (asks_for r.name (take at line)) < length xs) (sym all) (shorter (asks_for r.name (take at line)) r (asks_for r.name (drop (suc at) line)))
  where
    shorter : (a : List Request) (x : Request) (b : List Request) → length a < length (a ++ x ∷ b)
    shorter [] x b = omega arith
    shorter (y ∷ a) x b = let k = shorter a x b in omega (arith, k)

-- moving up those behind a place
pub closing_starts : {S : Type 0} (m : HashMap Place Request S) (name : LockName) (first : ℕ) → Closing m m name first first
closing_starts m name first = record { others = λ n i h. refl; before = λ i h. refl; moved = λ i h k. absurd (omega (arith, h, k)); ahead = λ i h. refl }

-- what is put at a place of a name's list stands there and nowhere else
put_other : {S : Type 0} (n o : HashMap Place Request S) (name : LockName) (k : ℕ) (v : Option Request) → ((p : Place) → get same_place o p ≡ cond (same_place (place name k) p) v (get same_place n p))
    → (x : LockName) (i : ℕ) → same_name name x ≡ false → asked_at o x i ≡ asked_at n x i
put_other n o name k v put x i h = put (place x i) ∙ ap (λ w. cond (w && k == i) v (asked_at n x i)) h

put_here : {S : Type 0} (n o : HashMap Place Request S) (name : LockName) (k : ℕ) (v : Option Request) → ((p : Place) → get same_place o p ≡ cond (same_place (place name k) p) v (get same_place n p))
    → (i : ℕ) → asked_at o name i ≡ cond (k == i) v (asked_at n name i)
put_here n o name k v put i = put (place name i) ∙ ap (λ w. cond (w && k == i) v (asked_at n name i)) (name_refl name)

apart : (k i : ℕ) → (k ≡ i → ⊥) → (k == i) ≡ false
apart k i differ =
    let cases = λ (w : Bool) (s : (k == i) ≡ w). (elim w as (λ v. (k == i) ≡ v → v ≡ false) [ true ↦ λ s. absurd (differ (eqb-true k i s)) | false ↦ λ _. refl ]) s in
    cases (k == i) refl

put_apart : {S : Type 0} (n o : HashMap Place Request S) (name : LockName) (k : ℕ) (v : Option Request) → ((p : Place) → get same_place o p ≡ cond (same_place (place name k) p) v (get same_place n p))
    → (i : ℕ) → (k ≡ i → ⊥) → asked_at o name i ≡ asked_at n name i
put_apart n o name k v put i differ = put_here n o name k v put i ∙ ap (λ w. cond w v (asked_at n name i)) (apart k i differ)

pub closing_next : {S : Type 0} (m n o : HashMap Place Request S) (name : LockName) (first k : ℕ) → first ≤ k → Closing m n name first k
    → ((p : Place) → get same_place o p ≡ cond (same_place (place name k) p) (asked_at n name (k + 1)) (get same_place n p)) → Closing m o name first (k + 1)
closing_next m n o name first k above c put = record {
  others = λ x i h. put_other n o name k v put x i h ∙ c.others x i h;
  before = λ i h. put_apart n o name k v put i (λ e. omega (arith, e, h, above)) ∙ c.before i h;
  moved = λ i low high. moved i low high (k == i) refl;
  ahead = λ i h. put_apart n o name k v put i (λ e. omega (arith, e, h)) ∙ c.ahead i (omega (arith, h));
}
  where
    v : Option Request
    v = asked_at n name (k + 1)

    moved : (i : ℕ) → first ≤ i → i < k + 1 → (w : Bool) → (k == i) ≡ w → asked_at o name i ≡ asked_at m name (suc i)
    moved i low high true s =
        let is : k ≡ i = eqb-true k i s in
        put_here n o name k v put i ∙ ap (λ w. cond w v (asked_at n name i)) s ∙ c.ahead (k + 1) (omega arith) ∙ ap (λ j. asked_at m name j) (let e : k + 1 ≡ suc i = omega (arith, is) in e)
    moved i low high false s =
        put_here n o name k v put i ∙ ap (λ w. cond w v (asked_at n name i)) s ∙ c.moved i low (smaller s)
      where
        smaller : (k == i) ≡ false → i < k
        smaller s = omega (arith, high, differ s)
          where
            differ : (k == i) ≡ false → k ≡ i → ⊥
            differ s e = both_ways _ s (eq-eqb k i e)

pub closing_ends : {S : Type 0} (m n o : HashMap Place Request S) (name : LockName) (first last : ℕ) → first ≤ last → Closing m n name first last
    → ((i : ℕ) → last < i → asked_at m name i ≡ None)
    → ((p : Place) → get same_place o p ≡ cond (same_place (place name last) p) None (get same_place n p)) → Closes m o name first
closing_ends m n o name first last above c free put = record {
  others = λ x i h. put_other n o name last None put x i h ∙ c.others x i h;
  before = λ i h. put_apart n o name last None put i (λ e. omega (arith, e, h, above)) ∙ c.before i h;
  behind = λ i low. behind i low (last == i) (nat_lt i last) refl refl;
}
  where
    over : {i : ℕ} → last ≤ i → (last == i) ≡ false → last < i
    over {i} le s = let differ : last ≡ i → ⊥ = λ e. both_ways _ s (eq-eqb last i e) in omega (arith, le, differ)

    behind : (i : ℕ) → first ≤ i → (w v : Bool) → (last == i) ≡ w → nat_lt i last ≡ v → asked_at o name i ≡ asked_at m name (suc i)
    behind i low true v s t =
        let is : last ≡ i = eqb-true last i s in
        put_here n o name last None put i ∙ ap (λ w. cond w None (asked_at n name i)) s ∙ sym (free (suc i) (omega (arith, is)))
    behind i low false true s t = put_here n o name last None put i ∙ ap (λ w. cond w None (asked_at n name i)) s ∙ c.moved i low (ltb-true i last t)
    behind i low false false s t =
        let le : last ≤ i = ltb-false i last t in
        put_here n o name last None put i ∙ ap (λ w. cond w None (asked_at n name i)) s ∙ c.ahead i le ∙ free i (over le s) ∙ sym (free (suc i) (omega (arith, le)))

-- nobody asks for a name on which something is held, where nobody asks for any
pub none_asked : (rs : List Request) (es : List (LockName × Modes)) → asks_for_any rs es ≡ false → (n : LockName) → is_held (unwrap_or (lookup (same_name n) es) no_modes) ≡ true → is_asked n rs ≡ false
none_asked rs [] h n held = absurd (both_ways _ held_none held)
none_asked rs (e ∷ es) h n held =
    let p = or_none (is_asked e.0 rs) (asks_for_any rs es) h in
    let cases = λ (w : Bool) (s : same_name n e.0 ≡ w).
    (elim w as (λ v. same_name n e.0 ≡ v → is_held (unwrap_or (cond v (Some e.1) (lookup (same_name n) es)) no_modes) ≡ true → is_asked n rs ≡ false) [
      | true ↦ λ s _. ap (λ (x : LockName). is_asked x rs) (name_eq n e.0 s) ∙ p.0
      | false ↦ λ _ k. none_asked rs es p.1 n k
    ]) s in
    cases (same_name n e.0) refl held

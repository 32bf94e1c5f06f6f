-- Where requests stand: in their line, and in the lists of their names.
use Rattle.std.proofs.Common.{◌≡◌, ℕ, zero, suc, ◌≤◌, Bool, true, false, refl, sym, ◌∙◌, ap, cond, List, [], ◌∷◌, ◌++◌, length, take, drop, arith, Option, Some, length-append}
use Rattle.std.specs.Prelude.{◌||◌, not}
use Rattle.std.specs.Option.{unwrap_or}
use Rattle.std.specs.List.{list_any, slice_get, remove}
use Rattle.std.proofs.lemmas.List.{take-append-drop}
use Rattle.std.proofs.lemmas.List.Elements.{filter-append}
use Rattle.std.proofs.lemmas.List.Folds.{list_any-append}
use Rattle.std.proofs.lemmas.Bool.{both_ways, and_parts, and_from, or_left, or_right}
use Rattle.dby_types.specs.declared.number.TxnNo.{TxnNo}
use Rattle.lock_modes.specs.declared.entry.Request.{Request}
use Rattle.lock_modes.specs.declared.name.LockName.{LockName}
use Rattle.lock_modes.specs.Names.{same_name, same_txn}
use Rattle.lock_modes.proofs.NamesLemmas.{name_eq, name_refl, txn_eq, txn_equiv}
use Rattle.lock_manager.specs.Asked.{asks_for, asked_before, is_apart, is_of, IsNumbered}
use Rattle.lock_manager.specs.Serve.{is_among}

not_true : (b : Bool) → not b ≡ true → b ≡ false
not_true true h = absurd (both_ways _ refl h)
not_true false h = refl

-- whose request stands in a line has one there
pub among_at : (t : TxnNo) (rs : List Request) (i : ℕ) → is_of t (slice_get rs i) ≡ true → is_among t rs ≡ true
among_at t [] i h = absurd (both_ways _ refl h)
among_at t (r ∷ rs) zero h = or_left _ _ h
among_at t (r ∷ rs) (suc i) h = or_right (same_txn r.txn t) _ (among_at t rs i h)

-- so has whose request stands in a name's list
asked_step : (n : LockName) (t : TxnNo) (r : Request) (rs : List Request) (w : Bool) (k : ℕ) → ((j : ℕ) → is_of t (slice_get (asks_for n rs) j) ≡ true → is_among t rs ≡ true)
    → is_of t (slice_get (cond w (r ∷ asks_for n rs) (asks_for n rs)) k) ≡ true → is_among t (r ∷ rs) ≡ true
asked_step n t r rs true zero rest h = or_left _ _ h
asked_step n t r rs true (suc k) rest h = or_right (same_txn r.txn t) _ (rest k h)
asked_step n t r rs false k rest h = or_right (same_txn r.txn t) _ (rest k h)

pub among_asked : (n : LockName) (t : TxnNo) (rs : List Request) (k : ℕ) → is_of t (slice_get (asks_for n rs) k) ≡ true → is_among t rs ≡ true
among_asked n t [] k h = absurd (both_ways _ refl h)
among_asked n t (r ∷ rs) k h = asked_step n t r rs (same_name r.name n) k (among_asked n t rs) h

-- how many stand before a place, where the first request is or isn't for the name
count_first : (n : LockName) (r : Request) (xs : List Request) (b : Bool) → same_name r.name n ≡ b → length (asks_for n (r ∷ xs)) ≡ length (cond b (r ∷ asks_for n xs) (asks_for n xs))
count_first n r xs b s = ap (λ w. length (cond w (r ∷ asks_for n xs) (asks_for n xs))) s

-- a transaction's request stands at one place of the line, and so at one place of its name's list
head_step : (n : LockName) (t : TxnNo) (r : Request) (rs : List Request) (w : Bool) (k : ℕ) → same_name r.name n ≡ w → is_among t rs ≡ false
    → is_of t (slice_get (cond w (r ∷ asks_for n rs) (asks_for n rs)) k) ≡ true → IsNumbered n (r ∷ rs) 0 k
head_step n t r rs true zero s none h = record { before = refl; through = count_first n r (take 0 rs) true s; within = omega arith }
head_step n t r rs true (suc k) s none h = absurd (both_ways _ none (among_asked n t rs k h))
head_step n t r rs false k s none h = absurd (both_ways _ none (among_asked n t rs k h))

tail_step : (n : LockName) (t : TxnNo) (r : Request) (rs : List Request) (p : ℕ) (w : Bool) (k : ℕ) → same_name r.name n ≡ w → same_txn r.txn t ≡ false
    → ((j : ℕ) → is_of t (slice_get (asks_for n rs) j) ≡ true → IsNumbered n rs p j)
    → is_of t (slice_get (cond w (r ∷ asks_for n rs) (asks_for n rs)) k) ≡ true → IsNumbered n (r ∷ rs) (suc p) k
tail_step n t r rs p true zero s other rest h = absurd (both_ways _ other h)
tail_step n t r rs p true (suc k) s other rest h =
    let x = rest k h in
    record { before = count_first n r (take p rs) true s ∙ ap suc x.before; through = count_first n r (take (suc p) rs) true s ∙ ap suc x.through; within = (let y = x.within in omega (arith, y)) }
tail_step n t r rs p false k s other rest h =
    let x = rest k h in
    record { before = count_first n r (take p rs) false s ∙ x.before; through = count_first n r (take (suc p) rs) false s ∙ x.through; within = (let y = x.within in omega (arith, y)) }

-- who stands in the rest of a line isn't the first
not_first : (t : TxnNo) (r : Request) (rs : List Request) (w : Bool) → same_txn r.txn t ≡ w → is_among r.txn rs ≡ false → is_among t rs ≡ true → w ≡ false
not_first t r rs true s none there = absurd (both_ways _ (ap (λ (u : TxnNo). is_among u rs) (sym (txn_eq r.txn t s)) ∙ none) there)
not_first t r rs false s none there = refl

pub numbered : (n : LockName) (t : TxnNo) (rs : List Request) (p k : ℕ) → is_apart rs ≡ true → is_of t (slice_get rs p) ≡ true → is_of t (slice_get (asks_for n rs) k) ≡ true → IsNumbered n rs p k
numbered n t [] p k apart here there = absurd (both_ways _ refl here)
numbered n t (r ∷ rs) zero k apart here there =
    let none = not_true (is_among r.txn rs) (and_parts (not (is_among r.txn rs)) (is_apart rs) apart).0 in
    head_step n t r rs (same_name r.name n) k refl (ap (λ (u : TxnNo). is_among u rs) (sym (txn_eq r.txn t here)) ∙ none) there
numbered n t (r ∷ rs) (suc p) k apart here there =
    let parts = and_parts (not (is_among r.txn rs)) (is_apart rs) apart in
    let other = not_first t r rs (same_txn r.txn t) refl (not_true (is_among r.txn rs) parts.0) (among_at t rs p here) in
    tail_step n t r rs p (same_name r.name n) k refl other (λ j g. numbered n t rs p j parts.1 here g) there

-- no fewer stand before a later place
pub before_up : (n : LockName) (rs : List Request) (i j : ℕ) → i ≤ j → asked_before n rs i ≤ asked_before n rs j
before_up n [] zero j h = omega arith
before_up n (r ∷ rs) zero j h = omega arith
before_up n [] (suc i) zero h = absurd (omega (arith, h))
before_up n [] (suc i) (suc j) h = omega arith
before_up n (r ∷ rs) (suc i) zero h = absurd (omega (arith, h))
before_up n (r ∷ rs) (suc i) (suc j) h =
    let rest = before_up n rs i j (omega (arith, h)) in
    let cases = λ (b : Bool).
    (elim b as (λ w. length (cond w (r ∷ asks_for n (take i rs)) (asks_for n (take i rs))) ≤ length (cond w (r ∷ asks_for n (take j rs)) (asks_for n (take j rs)))) [
      | true ↦ (let k : suc (length (asks_for n (take i rs))) ≤ suc (length (asks_for n (take j rs))) = omega (arith, rest) in k)
      | false ↦ rest
    ]) in
    cases (same_name r.name n)

pub before_most : (n : LockName) (rs : List Request) (i : ℕ) → asked_before n rs i ≤ length (asks_for n rs)
before_most n rs i =
    let whole : asks_for n rs ≡ asks_for n (take i rs) ++ asks_for n (drop i rs) = ap (asks_for n) (sym (take-append-drop i rs)) ∙ filter-append (λ q. same_name q.name n) (take i rs) (drop i rs) in
    omega (arith, ap length whole, length-append (asks_for n (take i rs)) (asks_for n (drop i rs)))

-- one more behind a request for the name
pub one_more : (n : LockName) (rs : List Request) (i : ℕ) (q : Request) → slice_get rs i ≡ Some q → same_name q.name n ≡ true → asked_before n rs (suc i) ≡ suc (asked_before n rs i)
one_more n [] i q h s = absurd (cc h)
one_more n (r ∷ rs) zero q h s = let e : r ≡ q = ap (λ (o : Option Request). unwrap_or o q) h in count_first n r (take 0 rs) true (ap (λ (x : Request). same_name x.name n) e ∙ s)
one_more n (r ∷ rs) (suc i) q h s =
    let rest = one_more n rs i q h s in
    let cases = λ (b : Bool).
    (elim b as (λ w. length (cond w (r ∷ asks_for n (take (suc i) rs)) (asks_for n (take (suc i) rs))) ≡ suc (length (cond w (r ∷ asks_for n (take i rs)) (asks_for n (take i rs))))) [ true ↦ ap suc rest | false ↦ rest ]) in
    cases (same_name r.name n)

pub name_flip : (a b : LockName) → same_name b a ≡ false → same_name a b ≡ false
name_flip a b h = cases (same_name a b) refl
  where
    cases : (w : Bool) → same_name a b ≡ w → same_name a b ≡ false
    cases true s = absurd (both_ways _ h (ap (λ (x : LockName). same_name b x) (name_eq a b s) ∙ name_refl b))
    cases false s = s

-- where no more stand behind it than before, a request isn't for the name
pub none_here : (n : LockName) (rs : List Request) (i k : ℕ) (q : Request) → i ≤ k → slice_get rs k ≡ Some q → asked_before n rs (suc k) ≤ asked_before n rs i → same_name n q.name ≡ false
none_here n rs i k q low there few = name_flip n q.name (cases (same_name q.name n) refl)
  where
    cases : (w : Bool) → same_name q.name n ≡ w → w ≡ false
    cases true s = let more = one_more n rs k q there s in let up = before_up n rs i k low in absurd (omega (arith, more, up, few))
    cases false s = refl

-- taking one request away, or adding one of another transaction, leaves a line in which no transaction has two
among_less : (p : Request → Bool) (rs : List Request) (i : ℕ) → list_any p rs ≡ false → list_any p (remove rs i) ≡ false
among_less p rs i h = gone p rs i h
  where
    or_none : (a b : Bool) → (a || b) ≡ false → (a ≡ false) × (b ≡ false)
    or_none true b h = absurd (both_ways true h refl)
    or_none false b h = (refl, h)

    gone : (p : Request → Bool) (rs : List Request) (i : ℕ) → list_any p rs ≡ false → list_any p (remove rs i) ≡ false
    gone p [] zero h = refl
    gone p [] (suc i) h = refl
    gone p (r ∷ rs) zero h = (or_none (p r) (list_any p rs) h).1
    gone p (r ∷ rs) (suc i) h = let x = or_none (p r) (list_any p rs) h in ap (λ w. w || list_any p (remove rs i)) x.0 ∙ gone p rs i x.1

pub apart_less : (rs : List Request) (i : ℕ) → is_apart rs ≡ true → is_apart (remove rs i) ≡ true
apart_less [] zero h = refl
apart_less [] (suc i) h = refl
apart_less (r ∷ rs) zero h = (and_parts (not (is_among r.txn rs)) (is_apart rs) h).1
apart_less (r ∷ rs) (suc i) h =
    let x = and_parts (not (is_among r.txn rs)) (is_apart rs) h in
    and_from _ _ (ap not (among_less (λ q. same_txn q.txn r.txn) rs i (not_true (is_among r.txn rs) x.0))) (apart_less rs i x.1)

pub apart_more : (rs : List Request) (r : Request) → is_among r.txn rs ≡ false → is_apart rs ≡ true → is_apart (rs ++ r ∷ []) ≡ true
apart_more [] r h apart = refl
apart_more (q ∷ rs) r h apart =
    let x = and_parts (not (is_among q.txn rs)) (is_apart rs) apart in
    let y = parts (same_txn q.txn r.txn) (is_among r.txn rs) h in
    let one : is_among q.txn (r ∷ []) ≡ false = ap (λ b. b || false) (txn_equiv.symm r.txn q.txn ∙ y.0) in
    let none : is_among q.txn (rs ++ r ∷ []) ≡ false =
    list_any-append (λ z. same_txn z.txn q.txn) rs (r ∷ []) ∙ ap (λ b. b || is_among q.txn (r ∷ [])) (not_true (is_among q.txn rs) x.0) ∙ one in
    and_from _ _ (ap not none) (apart_more rs r y.1 x.1)
  where
    parts : (a b : Bool) → (a || b) ≡ false → (a ≡ false) × (b ≡ false)
    parts true b h = absurd (both_ways true h refl)
    parts false b h = (refl, h)

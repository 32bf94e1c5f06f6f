-- A request among those of its name, and those ahead of it.
use Rattle.std.proofs.Common.{◌≡◌, ℕ, zero, suc, ◌+◌, ◌<◌, ◌≤◌, Bool, true, false, refl, sym, ◌∙◌, ap, cond, List, [], ◌∷◌, ◌++◌, length, take, drop, arith, Option, Some, None}
use Rattle.std.specs.Prelude.{◌&&◌, not, nat_lt}
use Rattle.std.specs.Option.{is_some}
use Rattle.std.specs.List.{slice_get}
use Rattle.std.proofs.lemmas.List.{take-append-drop}
use Rattle.std.proofs.lemmas.List.Elements.{filter-append}
use Rattle.std.proofs.lemmas.Bool.{both_ways, ltb-true, ltb-false}
use Rattle.dby_types.specs.declared.number.TxnNo.{TxnNo}
use Rattle.lock_modes.specs.declared.entry.Request.{Request}
use Rattle.lock_modes.specs.declared.name.LockName.{LockName}
use Rattle.lock_modes.specs.Names.{same_name, same_txn}
use Rattle.lock_modes.specs.Waits.{asks_before}
use Rattle.lock_modes.proofs.NamesLemmas.{name_refl, txn_refl}
use Rattle.lock_manager.specs.Asked.{asks_for, asked_before, is_apart, is_of}
use Rattle.lock_manager.specs.Serve.{contests}
use Rattle.lock_manager.proofs.AskedLemmas.{Passed, passed_all, passed_next, passed_found, beyond_none, none_beyond, asks_short}
use Rattle.lock_manager.proofs.StandingLemmas.{numbered, before_most}

-- a request stands in its name's list behind those that stand before it in the line
pub own_number : (rs : List Request) (at : ℕ) (r : Request) → slice_get rs at ≡ Some r → slice_get (asks_for r.name rs) (asked_before r.name rs at) ≡ Some r
own_number [] at r h = absurd (cc h)
own_number (x ∷ rs) zero r h =
    let e : x ≡ r = ap (λ (o : Option Request). unwrap o r) h in
    ap (λ b. slice_get (cond b (x ∷ asks_for r.name rs) (asks_for r.name rs)) 0) (ap (λ (y : Request). same_name y.name r.name) e ∙ name_refl r.name) ∙ h
  where
    unwrap : Option Request → Request → Request
    unwrap None d = d
    unwrap (Some y) d = y
own_number (x ∷ rs) (suc at) r h =
    let rest = own_number rs at r h in
    let cases = λ (b : Bool).
    (elim b as (λ w. slice_get (cond w (x ∷ asks_for r.name rs) (asks_for r.name rs)) (length (cond w (x ∷ asks_for r.name (take at rs)) (asks_for r.name (take at rs)))) ≡ Some r) [ true ↦ rest | false ↦ rest ]) in
    cases (same_name x.name r.name)

-- where in its name's list the transaction's request stands
pub own : (rs : List Request) (at i : ℕ) (r : Request) → is_apart rs ≡ true → slice_get rs at ≡ Some r → is_of r.txn (slice_get (asks_for r.name rs) i) ≡ true → asked_before r.name rs at ≡ i
own rs at i r apart there here = (numbered r.name r.txn rs at i apart (ap (is_of r.txn) there ∙ txn_refl r.txn) here).before

-- where it isn't the transaction's, it's one before
pub less : (rs : List Request) (at i : ℕ) (r : Request) → slice_get rs at ≡ Some r → is_of r.txn (slice_get (asks_for r.name rs) i) ≡ false → i ≤ asked_before r.name rs at → i < asked_before r.name rs at
less rs at i r there other most = cases (nat_lt i (asked_before r.name rs at)) refl
  where
    cases : (w : Bool) → nat_lt i (asked_before r.name rs at) ≡ w → i < asked_before r.name rs at
    cases true s = ltb-true i (asked_before r.name rs at) s
    cases false s =
        let least = ltb-false i (asked_before r.name rs at) s in
        let is : i ≡ asked_before r.name rs at = omega (arith, most, least) in
        absurd (both_ways _ other (ap (λ k. is_of r.txn (slice_get (asks_for r.name rs) k)) is ∙ ap (is_of r.txn) (own_number rs at r there) ∙ txn_refl r.txn))

front_of : (a b : List Request) (i : ℕ) → i < length a → slice_get (a ++ b) i ≡ slice_get a i
front_of [] b i h = absurd (omega (arith, h))
front_of (x ∷ a) b zero h = refl
front_of (x ∷ a) b (suc i) h = front_of a b i (omega (arith, h))

-- those before a place stand at the front of their name's list
pub front : (n : LockName) (rs : List Request) (at i : ℕ) → i < asked_before n rs at → slice_get (asks_for n rs) i ≡ slice_get (asks_for n (take at rs)) i
front n rs at i h =
    ap (λ xs. slice_get (asks_for n xs) i) (sym (take-append-drop at rs))
    ∙ ap (λ xs. slice_get xs i) (filter-append (λ q. same_name q.name n) (take at rs) (drop at rs))
    ∙ front_of (asks_for n (take at rs)) (asks_for n (drop at rs)) i h

-- the name's list as far as the request itself was looked through
pub ahead_all : (rs : List Request) (at i : ℕ) (r : Request) → is_apart rs ≡ true → slice_get rs at ≡ Some r → is_of r.txn (slice_get (asks_for r.name rs) i) ≡ true → Passed (take at rs) r i
    → (h : TxnNo) → (not (same_txn h r.txn) && asks_before (take at rs) r h) ≡ false
ahead_all rs at i r apart there here passed =
    let is = own rs at i r apart there here in
    passed_all (take at rs) r i (ap is_some (beyond_none (asks_for r.name (take at rs)) i (omega (arith, is)))) passed

pub ahead_end : (rs : List Request) (at i : ℕ) (r : Request) → is_some (slice_get (asks_for r.name rs) i) ≡ false → Passed (take at rs) r i
    → (h : TxnNo) → (not (same_txn h r.txn) && asks_before (take at rs) r h) ≡ false
ahead_end rs at i r none passed =
    let end = none_beyond (asks_for r.name rs) i none in
    let most = before_most r.name rs at in
    passed_all (take at rs) r i (ap is_some (beyond_none (asks_for r.name (take at rs)) i (omega (arith, end, most)))) passed

pub ahead_past : (rs : List Request) (at i : ℕ) (r : Request) → length rs ≤ i → Passed (take at rs) r i → (h : TxnNo) → (not (same_txn h r.txn) && asks_before (take at rs) r h) ≡ false
ahead_past rs at i r end passed = let short = asks_short r.name rs in ahead_end rs at i r (ap is_some (beyond_none (asks_for r.name rs) i (omega (arith, short, end)))) passed

pub ahead_found : (rs : List Request) (at i : ℕ) (r q : Request) → slice_get rs at ≡ Some r → Some q ≡ slice_get (asks_for r.name rs) i → same_txn q.txn r.txn ≡ false → i ≤ asked_before r.name rs at
    → (not (same_txn q.txn r.txn) && contests r.name r.mode q) ≡ true → Passed (take at rs) r i → (not (same_txn q.txn r.txn) && asks_before (take at rs) r q.txn) ≡ true
ahead_found rs at i r q there here other most holds passed =
    let few = less rs at i r there (ap (is_of r.txn) (sym here) ∙ other) most in
    passed_found (take at rs) r i q (here ∙ front r.name rs at i few) holds passed

pub ahead_next : (rs : List Request) (at i : ℕ) (r q : Request) → slice_get rs at ≡ Some r → Some q ≡ slice_get (asks_for r.name rs) i → same_txn q.txn r.txn ≡ false → i ≤ asked_before r.name rs at
    → (not (same_txn q.txn r.txn) && contests r.name r.mode q) ≡ false → Passed (take at rs) r i → Passed (take at rs) r (i + 1)
ahead_next rs at i r q there here other most fails passed =
    let few = less rs at i r there (ap (is_of r.txn) (sym here) ∙ other) most in
    passed_next (take at rs) r i q (here ∙ front r.name rs at i few) fails passed

-- one place further on is still not past the request
pub one_on : (rs : List Request) (at i : ℕ) (r : Request) → slice_get rs at ≡ Some r → is_of r.txn (slice_get (asks_for r.name rs) i) ≡ false → i ≤ asked_before r.name rs at → i + 1 ≤ asked_before r.name rs at
one_on rs at i r there other most = let few = less rs at i r there other most in omega (arith, few)

pub at_most : (rs : List Request) (at i : ℕ) (n : LockName) → length rs ≤ i → i ≤ asked_before n rs at → i ≡ asked_before n rs at
at_most rs at i n end low = let most = before_most n rs at in let short = asks_short n rs in omega (arith, most, short, end, low)

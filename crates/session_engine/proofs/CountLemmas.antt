-- How many actors hold pages and how many transactions are open: no more than there are connections.
use Rattle.std.proofs.Common.{◌≡◌, ◌≢◌, ℕ, zero, suc, ◌+◌, ◌≤◌, List, [], ◌∷◌, length, map, refl, sym, ◌∙◌, arith, inl, inr, None}
use Rattle.std.proofs.lemmas.Bool.{cases_eq}
use Rattle.table_model.specs.Tables.{Each}
use Rattle.store_api.specs.View.{AreDistinct, MayHold, MayBegin}
use Rattle.session_engine.specs.declared.session.Session.{Session}
use Rattle.session_engine.specs.Dictionary.{Among}
use Rattle.session_engine.specs.State.{State, Holds, txn_of}

-- a list without one that is in it
record Without (n : ℕ) (ms : List ℕ) : Type 0 where
  others : List ℕ
  shorter : length others + 1 ≡ length ms
  keeps : (m : ℕ) → m ≢ n → Among m ms → Among m others

without_one : (n : ℕ) (ms : List ℕ) → Among n ms → Without n ms
without_one n [] a = absurd a
without_one n (m ∷ ms) (inl same) = record {
  others = ms;
  shorter = omega arith;
  keeps = λ k ne a. elim a [ inl e ↦ absurd (ne (e ∙ sym same)) | inr later ↦ later ];
}
without_one n (m ∷ ms) (inr later) =
    let h = without_one n ms later in
    let shorter = h.shorter in
    record {
      others = m ∷ h.others;
      shorter = omega (arith, shorter);
      keeps = λ k ne a. elim a [ inl e ↦ inl e | inr rest ↦ inr (h.keeps k ne rest) ];
    }

keep_each : (n : ℕ) (ms others ns : List ℕ) → ((m : ℕ) → m ≢ n → Among m ms → Among m others) → Each (λ m. m ≢ n) ns → Each (λ m. Among m ms) ns → Each (λ m. Among m others) ns
keep_each n ms others [] f ne h = tt
keep_each n ms others (k ∷ ns) f ne h = (f k ne.0 h.0, keep_each n ms others ns f ne.1 h.1)

-- numbers that are all different, each among these, are no more than these
no_more : (ns ms : List ℕ) → AreDistinct ns → Each (λ m. Among m ms) ns → length ns ≤ length ms
no_more [] ms d h = omega arith
no_more (n ∷ ns) ms d h =
    let w = without_one n ms h.0 in
    let less = no_more ns w.others d.1 (keep_each n ms w.others ns w.keeps d.0 h.1) in
    let shorter = w.shorter in
    omega (arith, less, shorter)

-- the numbers from 1 to n
upto : ℕ → List ℕ
upto zero = []
upto (suc n) = suc n ∷ upto n

upto_length : (n : ℕ) → length (upto n) ≡ n
unfolding upto
upto_length zero = refl
upto_length (suc n) = (let h = upto_length n in omega (arith, h))

among_upto : (n b : ℕ) → 1 ≤ b → b ≤ n → Among b (upto n)
unfolding upto
among_upto zero b lo hi = absurd (omega (arith, lo, hi))
among_upto (suc n) b lo hi = elim (cases_eq b (suc n)) [ inl same ↦ inl same | inr ne ↦ inr (among_upto n b lo (omega (arith, hi, ne))) ]

each_to : {X : Type 0} → (P Q : X → Type 0) → ((x : X) → P x → Q x) → (xs : List X) → Each P xs → Each Q xs
each_to P Q f [] h = tt
each_to P Q f (x ∷ xs) h = (f x h.0, each_to P Q f xs h.1)

map_length : (ss : List Session) → length (map txn_of ss) ≡ length ss
map_length [] = refl
map_length (s ∷ ss) = (let h = map_length ss in omega (arith, h))

-- so one more may hold pages, and one more transaction may be opened
pub may_hold : (st : State) (last a : ℕ) → Holds st last → MayHold st.view a
may_hold st last a ok = λ ns distinct each.
    let all = each_to (λ b. (b ≢ a) × ((st.view.actors b).pages ≢ 0)) (λ b. Among b (upto (length st.ss))) (λ b h. let r = ok.holders b h.1 in among_upto (length st.ss) b r.0 r.1) ns each in
    let few = no_more ns (upto (length st.ss)) distinct all in
    let len = upto_length (length st.ss) in
    let limit = ok.few in
    omega (arith, few, len, limit)

pub may_begin : (st : State) (last : ℕ) → Holds st last → MayBegin st.view
may_begin st last ok = λ ns distinct each.
    let all = each_to (λ t. st.view.content.changes t ≢ None) (λ t. Among t (map txn_of st.ss)) (λ t h. ok.known t h) ns each in
    let few = no_more ns (map txn_of st.ss) distinct all in
    let len = map_length st.ss in
    let limit = ok.few in
    omega (arith, few, len, limit)

-- Row ids as numbers, and rows put and written at them.
use Rattle.std.proofs.Common.{◌≡◌, ◌≢◌, ◌+◌, ◌-◌, ◌*◌, ◌/◌, ◌%◌, ◌<◌, ◌≤◌, ◌⊎◌, ℕ, zero, suc, List, [], ◌∷◌, ◌++◌, length, refl, sym, ap, subst, ◌∙◌, true, false, Option, Some, None, arith, eq-eqb, inl, inr, slice_get, slice_set, nat_lt}
use Rattle.std.specs.Prelude.{◌==◌, ◌&&◌, ◌||◌, if◌then◌else◌}
use Rattle.std.proofs.lemmas.Bool.Decides.{nat_tests}
use Rattle.std.proofs.lemmas.Bool.{both_ways, cases_eq, cases_lt}
use Rattle.std.proofs.lemmas.Option.{slice_get_past}
use Rattle.dby_types.specs.declared.number.RowId.{RowId}
use Rattle.store_api.specs.declared.slot.Slot.{Slot}
use Rattle.store_api.specs.Order.{is_behind, is_before}
use Rattle.table_model.specs.Tables.{is_same_rid}
use Rattle.list_store.specs.Heaps.{rid_at, number_of, is_place, row_at, next_number, slots_up_to}

same_numbers : (a b c d : ℕ) → ((a == b) && (c == d)) ≡ true → (a ≡ b) × (c ≡ d)
same_numbers a b c d h = (grind (arith, nat_tests), grind (arith, nat_tests))

pub rid_is : (r s : RowId) → is_same_rid r s ≡ true → r ≡ s
rid_is r s h =
    let p = same_numbers r.page s.page r.slot s.slot h in
    λ i. record { page = p.0 i; slot = p.1 i }

pub same_itself : (r : RowId) → is_same_rid r r ≡ true
same_itself r = rw (eq-eqb r.page r.page refl, eq-eqb r.slot r.slot refl) refl

pub rid_number : (n : ℕ) → number_of (rid_at n) ≡ n
rid_number n = omega arith

pub place_at : (n : ℕ) → is_place (rid_at n) ≡ true
place_at n = ap (λ m. is_same_rid (rid_at n) (rid_at m)) (rid_number n) ∙ same_itself (rid_at n)

pub row_is : (rows : List Slot) (n : ℕ) → row_at rows (rid_at n) ≡ slice_get rows n
row_is rows n = rw (place_at n) (ap (slice_get rows) (rid_number n))

-- a row id is that of a number, or of none
pub by_rid : (P : RowId → Type 0) → ((m : ℕ) → P (rid_at m)) → ((r : RowId) → is_place r ≡ false → P r) → (r : RowId) → P r
by_rid P on off r =
    elim (is_place r) as (λ b. is_place r ≡ b → P r) [
      | true ↦ λ e. subst P (sym (rid_is r (rid_at (number_of r)) e)) (on (number_of r))
      | false ↦ λ e. off r e
    ] refl

pub same_rid_at : (m n : ℕ) → is_same_rid (rid_at m) (rid_at n) ≡ (m == n)
same_rid_at m n = elim (cases_eq m n) [
  | inl e ↦ ap (λ k. is_same_rid (rid_at m) (rid_at k)) (sym e) ∙ same_itself (rid_at m) ∙ sym (eq-eqb m n e)
  | inr ne ↦
      let no_test : (m == n) ≡ false = grind (arith, nat_tests) in
      elim (is_same_rid (rid_at m) (rid_at n)) as (λ b. is_same_rid (rid_at m) (rid_at n) ≡ b → b ≡ (m == n)) [
        | true ↦ λ e. absurd (ne (sym (rid_number m) ∙ ap number_of (rid_is (rid_at m) (rid_at n) e) ∙ rid_number n))
        | false ↦ λ e. sym no_test
      ] refl
]

pub no_place : (r : RowId) (n : ℕ) → is_place r ≡ false → is_same_rid r (rid_at n) ≡ false
no_place r n off =
    elim (is_same_rid r (rid_at n)) as (λ b. is_same_rid r (rid_at n) ≡ b → b ≡ false) [
      | true ↦ λ e. absurd (both_ways (is_place r) off (ap is_place (rid_is r (rid_at n) e) ∙ place_at n))
      | false ↦ λ e. refl
    ] refl

suc_test : (m n : ℕ) → (suc m == suc n) ≡ (m == n)
suc_test m n = elim (cases_eq m n) [
  | inl e ↦ eq-eqb (suc m) (suc n) (ap suc e) ∙ sym (eq-eqb m n e)
  | inr ne ↦ (let a : (suc m == suc n) ≡ false = grind (arith, nat_tests) in let b : (m == n) ≡ false = grind (arith, nat_tests) in a ∙ sym b)
]

get_push : (rows : List Slot) (slot : Slot) (m : ℕ) → slice_get (rows ++ slot ∷ []) m ≡ (if m == length rows then Some slot else slice_get rows m)
get_push [] slot zero = refl
get_push [] slot (suc m) = let e : (suc m == 0) ≡ false = grind (arith, nat_tests) in rw e refl
get_push (x ∷ rows) slot zero = let e : (0 == suc (length rows)) ≡ false = grind (arith, nat_tests) in rw e refl
get_push (x ∷ rows) slot (suc m) = get_push rows slot m ∙ ap (λ b. if b then Some slot else slice_get rows m) (sym (suc_test m (length rows)))

get_set : (rows : List Slot) (n : ℕ) (slot : Slot) (m : ℕ) → n < length rows → slice_get (slice_set rows n slot) m ≡ (if m == n then Some slot else slice_get rows m)
get_set [] n slot m lt = absurd (omega arith)
get_set (x ∷ rows) zero slot zero lt = refl
get_set (x ∷ rows) zero slot (suc m) lt = let e : (suc m == 0) ≡ false = grind (arith, nat_tests) in rw e refl
get_set (x ∷ rows) (suc n) slot zero lt = let e : (0 == suc n) ≡ false = grind (arith, nat_tests) in rw e refl
get_set (x ∷ rows) (suc n) slot (suc m) lt = get_set rows n slot m (omega arith) ∙ ap (λ b. if b then Some slot else slice_get rows m) (sym (suc_test m n))

-- one row more
pub row_push : (rows : List Slot) (slot : Slot) (r : RowId) → row_at (rows ++ slot ∷ []) r ≡ (if is_same_rid r (rid_at (length rows)) then Some slot else row_at rows r)
row_push rows slot = by_rid (λ r. row_at (rows ++ slot ∷ []) r ≡ (if is_same_rid r (rid_at (length rows)) then Some slot else row_at rows r))
    (λ m. row_is (rows ++ slot ∷ []) m ∙ get_push rows slot m ∙ sym (rw (same_rid_at m (length rows), row_is rows m) refl))
    (λ r off. rw (off, no_place r (length rows) off) refl)

-- a row written over
pub row_set : (rows : List Slot) (n : ℕ) (slot : Slot) → n < length rows → (r : RowId) → row_at (slice_set rows n slot) r ≡ (if is_same_rid r (rid_at n) then Some slot else row_at rows r)
row_set rows n slot lt = by_rid (λ r. row_at (slice_set rows n slot) r ≡ (if is_same_rid r (rid_at n) then Some slot else row_at rows r))
    (λ m. row_is (slice_set rows n slot) m ∙ get_set rows n slot m lt ∙ sym (rw (same_rid_at m n, row_is rows m) refl))
    (λ r off. rw (off, no_place r n off) refl)

-- no row is where the next one goes
pub next_none : (rows : List Slot) → row_at rows (rid_at (length rows)) ≡ None
next_none rows = row_is rows (length rows) ∙ slice_get_past rows (length rows) (omega arith)

-- ORDER. The n-th place is behind a row id exactly where it is not before the next number
page_lt : (p q s t : ℕ) → (nat_lt p q || (p == q && nat_lt s t)) ≡ true → (p < q) ⊎ ((p ≡ q) × (s < t))
page_lt p q s t h = elim (cases_lt p q) [
  | inl lt ↦ inl lt
  | inr le ↦ inr (grind (arith, nat_tests), grind (arith, nat_tests))
]

pub behind_number : (after : Option RowId) (m : ℕ) → is_behind after (rid_at m) ≡ true → next_number after ≤ m
behind_number None m h = omega arith
behind_number (Some r) m h = elim (cases_eq r.page 0) [
  | inl zero-page ↦ rw (eq-eqb r.page 0 zero-page) (omega arith)
  | inr ne ↦
      let no_test : (r.page == 0) ≡ false = grind (arith, nat_tests) in
      rw no_test (elim (page_lt r.page (1 + m / 65536) r.slot (m % 65536) h) [
        | inl lt ↦ low r m ne lt
        | inr both ↦ same r m both.0 both.1
      ])
]
  where
    up : (s : ℕ) → slots_up_to s ≤ 65536
    up s = elim (cases_lt s 65536) [ inl lt ↦ (let e : nat_lt s 65536 ≡ true = grind (arith, nat_tests) in rw e (omega arith)) | inr le ↦ (let e : nat_lt s 65536 ≡ false = grind (arith, nat_tests) in rw e (omega arith)) ]

    low : (r : RowId) (m : ℕ) → r.page ≢ 0 → r.page < 1 + m / 65536 → (r.page - 1) * 65536 + slots_up_to r.slot ≤ m
    low r m ne lt = let h = up r.slot in omega (arith, h)

    same : (r : RowId) (m : ℕ) → r.page ≡ 1 + m / 65536 → r.slot < m % 65536 → (r.page - 1) * 65536 + slots_up_to r.slot ≤ m
    same r m e lt =
        let small : r.slot < 65536 = omega arith in
        let t : nat_lt r.slot 65536 ≡ true = grind (arith, nat_tests) in
        rw t (omega arith)

pub number_behind : (after : Option RowId) (m : ℕ) → next_number after ≤ m → is_behind after (rid_at m) ≡ true
number_behind None m h = refl
number_behind (Some r) m h = elim (cases_lt r.page (1 + m / 65536)) [
  | inl lt ↦ (let e : nat_lt r.page (1 + m / 65536) ≡ true = grind (arith, nat_tests) in rw e refl)
  | inr le ↦ elim (cases_eq r.page 0) [
    | inl zero-page ↦ absurd (omega (arith, le, zero-page))
    | inr ne ↦
        let no_test : (r.page == 0) ≡ false = grind (arith, nat_tests) in
        let h' : (r.page - 1) * 65536 + slots_up_to r.slot ≤ m = subst (λ b. (if b then 0 else (r.page - 1) * 65536 + slots_up_to r.slot) ≤ m) no_test h in
        last r m le ne h'
  ]
]
  where
    last : (r : RowId) (m : ℕ) → 1 + m / 65536 ≤ r.page → r.page ≢ 0 → (r.page - 1) * 65536 + slots_up_to r.slot ≤ m → is_behind (Some r) (rid_at m) ≡ true
    last r m le ne h = elim (cases_lt r.slot 65536) [
      | inl small ↦
          let t : nat_lt r.slot 65536 ≡ true = grind (arith, nat_tests) in
          let k : (r.page - 1) * 65536 + (r.slot + 1) ≤ m = subst (λ b. (r.page - 1) * 65536 + (if b then r.slot + 1 else 65536) ≤ m) t h in
          let page : r.page ≡ 1 + m / 65536 = omega (arith, k, le, ne) in
          let slot : r.slot < m % 65536 = omega (arith, k, page) in
          let first : nat_lt r.page (1 + m / 65536) ≡ false = grind (arith, nat_tests) in
          let second : (r.page == 1 + m / 65536) ≡ true = eq-eqb r.page (1 + m / 65536) page in
          let third : nat_lt r.slot (m % 65536) ≡ true = grind (arith, nat_tests) in
          rw (first, second, third) refl
      | inr big ↦
          let t : nat_lt r.slot 65536 ≡ false = grind (arith, nat_tests) in
          let k : (r.page - 1) * 65536 + 65536 ≤ m = subst (λ b. (r.page - 1) * 65536 + (if b then r.slot + 1 else 65536) ≤ m) t h in
          absurd (omega (arith, k, le, ne))
    ]

-- before the n-th place
pub before_number : (m n : ℕ) → is_before (rid_at m) (Some (rid_at n)) ≡ true → m < n
before_number m n h = elim (page_lt (1 + m / 65536) (1 + n / 65536) (m % 65536) (n % 65536) h) [
  | inl lt ↦ omega arith
  | inr both ↦ (let e = both.0 in let lt = both.1 in omega (arith, e, lt))
]

pub row_place : (rows : List Slot) (r : RowId) → is_place r ≡ true → row_at rows r ≡ slice_get rows (number_of r)
row_place rows r e = rw e refl

pub slice_get_some : (rows : List Slot) (n : ℕ) → n < length rows → (slot : Slot) × (slice_get rows n ≡ Some slot)
slice_get_some [] n lt = absurd (omega arith)
slice_get_some (x ∷ rows) zero lt = (x, refl)
slice_get_some (x ∷ rows) (suc n) lt = slice_get_some rows n (omega arith)

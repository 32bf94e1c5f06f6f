-- Fields that keep the format, one after another.
use Rattle.std.proofs.Common.{◌≡◌, ◌≢◌, ◌+◌, ◌-◌, ◌*◌, ◌≤◌, ◌<◌, ℕ, zero, suc, List, slice_index, refl, sym, ap, subst, ◌∙◌, ⊎_elim, arith}
use Rattle.std.proofs.lemmas.Bool.{cases_lt, cases_eq}
use Rattle.dby_types.specs.declared.number.PageId.{PageId}
use Rattle.dby_bytes.specs.Numbers.{number_at}
use Rattle.slotted_page.specs.Format.{kind_at, count_at, start_at, length_at, end_at, directory_at, directory_end, own_id, IsCountFor, IsStartAt, IsRightAt, AreRightBelow, IsFirstWrong}

pub directory_from : (k : ℕ) → 32 ≤ directory_at k
directory_from zero = omega arith
directory_from (suc k) = omega arith

pub directory_of_control : (k : ℕ) → k ≡ 0 → directory_at k ≡ 48
directory_of_control zero e = refl
directory_of_control (suc k) e = absurd (omega arith)

pub directory_of_other : (k : ℕ) → k ≢ 0 → directory_at k ≡ 32
directory_of_other zero h = absurd (h refl)
directory_of_other (suc k) h = refl

-- the number of records, once its field is right
pub count_right : (id : PageId) (b : List ℕ) (n : ℕ) → AreRightBelow id b n → 32 ≤ n → IsCountFor (kind_at b) (count_at b)
count_right id b n h l = (h 18 (omega arith)).count refl

-- right at a place of the directory, given the entry that it belongs to
entry_right : (id : PageId) (b : List ℕ) (i p : ℕ) → IsCountFor (kind_at b) (count_at b) → i < count_at b → IsStartAt b i → 32 + 4 * i ≤ p → p < 32 + 4 * i + 4 → (p ≡ 32 + 4 * i + 2 → start_at b i + length_at b i ≡ end_at b i) → IsRightAt id b p
entry_right id b i p count inside start low high len =
    let from = directory_from (kind_at b) in
    record {
      container = λ e. absurd (omega arith);
      page = λ e. absurd (omega arith);
      kind = λ e. absurd (omega arith);
      zero_byte = λ e. absurd (omega arith);
      count = λ e. absurd (omega arith);
      start = λ j l e. subst (λ (k : ℕ). IsStartAt b k) (let q : i ≡ j = omega arith in q) start;
      length = λ j l e. let q : i ≡ j = omega arith in subst (λ (k : ℕ). start_at b k + length_at b k ≡ end_at b k) q (len (e ∙ ap (λ (k : ℕ). 32 + 4 * k + 2) (sym q)));
      segment = λ k e. absurd (let q = count.control k in omega (arith, q, inside));
      gap = λ l m. absurd (omega (arith, from, l, inside));
      flags = λ l j m e. absurd (omega (arith, from, l, inside));
    }

pub half_right : (id : PageId) (b : List ℕ) (i : ℕ) → i < count_at b → AreRightBelow id b (32 + 4 * i) → IsStartAt b i → AreRightBelow id b (32 + 4 * i + 2)
half_right id b i inside h start p l =
    ⊎_elim (λ a. h p a)
    (λ a. entry_right id b i p (count_right id b (32 + 4 * i) h (omega arith)) inside start a (omega arith) (λ e. absurd (omega (arith, e, l))))
    (cases_lt p (32 + 4 * i))

pub entry_more : (id : PageId) (b : List ℕ) (i : ℕ) → i < count_at b → AreRightBelow id b (32 + 4 * i) → IsStartAt b i → start_at b i + length_at b i ≡ end_at b i → AreRightBelow id b (32 + 4 * (i + 1))
entry_more id b i inside h start len p l =
    ⊎_elim (λ a. h p a)
    (λ a. entry_right id b i p (count_right id b (32 + 4 * i) h (omega arith)) inside start a (omega arith) (λ e. len))
    (cases_lt p (32 + 4 * i))

pub wrong_start : (id : PageId) (b : List ℕ) (i : ℕ) → i < count_at b → AreRightBelow id b (32 + 4 * i) → (IsStartAt b i → ⊥) → IsFirstWrong id b (32 + 4 * i)
wrong_start id b i inside h isnt = record { wrong = λ r. isnt (r.start i inside refl); before = h }

pub wrong_length : (id : PageId) (b : List ℕ) (i : ℕ) → i < count_at b → AreRightBelow id b (32 + 4 * i) → IsStartAt b i → (start_at b i + length_at b i ≡ end_at b i → ⊥) → IsFirstWrong id b (32 + 4 * i + 2)
wrong_length id b i inside h start isnt = record { wrong = λ r. isnt (r.length i inside refl); before = half_right id b i inside h start }

-- the own bytes of a control page
pub own_right : (id : PageId) (b : List ℕ) → AreRightBelow id b (32 + 4 * count_at b) → (kind_at b ≡ 0 → 0 < number_at 4 b 36) → AreRightBelow id b (directory_end b)
own_right id b h segment p l =
    let count = count_right id b (32 + 4 * count_at b) h (omega arith) in
    ⊎_elim (λ a. h p a)
    (λ a. ⊎_elim
    (λ control.
    let none = count.control control in
    let from = directory_of_control (kind_at b) control in
    record {
      container = λ e. absurd (omega arith);
      page = λ e. absurd (omega arith);
      kind = λ e. absurd (omega arith);
      zero_byte = λ e. absurd (omega arith);
      count = λ e. absurd (omega arith);
      start = λ j m e. absurd (omega (arith, none, m));
      length = λ j m e. absurd (omega (arith, none, m));
      segment = λ k e. segment k;
      gap = λ m n. absurd (omega (arith, l, m));
      flags = λ m j n e. absurd (omega (arith, l, m));
    })
    (λ other. absurd (let from = directory_of_other (kind_at b) other in omega (arith, from, l, a)))
    (cases_eq (kind_at b) 0))
    (cases_lt p (32 + 4 * count_at b))

pub own_wrong : (id : PageId) (b : List ℕ) → AreRightBelow id b (32 + 4 * count_at b) → kind_at b ≡ 0 → number_at 4 b 36 ≡ 0 → IsFirstWrong id b 36
own_wrong id b h control none =
    let count = count_right id b (32 + 4 * count_at b) h (omega arith) in
    let empty = count.control control in
    let from = directory_of_control (kind_at b) control in
    record {
      wrong = λ r. let q = r.segment control refl in omega (arith, q, none);
      before = λ p l.
          ⊎_elim (λ a. h p a)
          (λ a. record {
            container = λ e. absurd (omega arith);
            page = λ e. absurd (omega arith);
            kind = λ e. absurd (omega arith);
            zero_byte = λ e. absurd (omega arith);
            count = λ e. absurd (omega arith);
            start = λ j m e. absurd (omega (arith, empty, m));
            length = λ j m e. absurd (omega (arith, empty, m));
            segment = λ k e. absurd (omega (arith, e, l));
            gap = λ m n. absurd (omega (arith, l, m, from));
            flags = λ m j n e. absurd (omega (arith, l, m, from));
          })
          (cases_lt p (32 + 4 * count_at b));
    }

-- the directory's entries, once they are right
pub record IsEntry (b : List ℕ) (i : ℕ) : Type 0 where
  pub start : IsStartAt b i
  pub ends : start_at b i + length_at b i ≡ end_at b i

pub entry_of : (id : PageId) (b : List ℕ) (i : ℕ) → AreRightBelow id b (directory_end b) → i < count_at b → IsEntry b i
entry_of id b i h inside =
    let from = directory_from (kind_at b) in
    record {
      start = (h (32 + 4 * i) (omega (arith, from, inside))).start i inside refl;
      ends = (h (32 + 4 * i + 2) (omega (arith, from, inside))).length i inside refl;
    }

-- a later record ends no later
pub ends_fall : (b : List ℕ) (i k : ℕ) → ((j : ℕ) → j < count_at b → IsEntry b j) → i + k ≤ count_at b → end_at b (i + k) ≤ end_at b i
ends_fall b i zero all h = let q : end_at b (i + 0) ≡ end_at b i = ap (end_at b) (let e : i + 0 ≡ i = omega arith in e) in omega (arith, q)
ends_fall b i (suc k) all h =
    let next : i + suc k ≡ suc (i + k) = omega arith in
    let q : end_at b (i + suc k) ≡ start_at b (i + k) = ap (end_at b) next in
    let before = (all (i + k) (omega arith)).start.before in
    let rest = ends_fall b i k all (omega arith) in
    omega (arith, q, before, rest)

pub ends_ordered : (b : List ℕ) (i j : ℕ) → ((k : ℕ) → k < count_at b → IsEntry b k) → i ≤ j → j ≤ count_at b → end_at b j ≤ end_at b i
ends_ordered b i j all h l =
    let e : i + (j - i) ≡ j = omega arith in
    subst (λ (n : ℕ). end_at b n ≤ end_at b i) e (ends_fall b i (j - i) all (omega arith))

-- right at a place behind the directory
pub behind_right : (id : PageId) (b : List ℕ) (p : ℕ) → directory_end b ≤ p → IsCountFor (kind_at b) (count_at b) → (p < end_at b (count_at b) → slice_index b p ≡ 0) → ((i : ℕ) → i < count_at b → p ≡ start_at b i → slice_index b p < 4) → IsRightAt id b p
behind_right id b p h count gap flags =
    let from = directory_from (kind_at b) in
    record {
      container = λ e. absurd (omega (arith, from, h));
      page = λ e. absurd (omega (arith, from, h));
      kind = λ e. absurd (omega (arith, from, h));
      zero_byte = λ e. absurd (omega (arith, from, h));
      count = λ e. absurd (omega (arith, from, h));
      start = λ j l e. absurd (omega (arith, from, h, l));
      length = λ j l e. absurd (omega (arith, from, h, l));
      segment = λ k e. absurd (let q = directory_of_control (kind_at b) k in omega (arith, q, h, e));
      gap = λ l m. gap m;
      flags = λ l. flags;
    }

pub gap_more : (id : PageId) (b : List ℕ) (p : ℕ) → AreRightBelow id b (directory_end b) → directory_end b ≤ p → p < end_at b (count_at b) → slice_index b p ≡ 0 → AreRightBelow id b p → AreRightBelow id b (p + 1)
gap_more id b p dir low high is h q l =
    let from = directory_from (kind_at b) in
    ⊎_elim (λ a. h q a)
    (λ a. subst (λ (n : ℕ). IsRightAt id b n) (let e : p ≡ q = omega arith in e)
    (behind_right id b p low (count_right id b (directory_end b) dir (omega (arith, from))) (λ m. is)
    (λ i inside e. let o = ends_ordered b (suc i) (count_at b) (λ j k. entry_of id b j dir k) (omega arith) (omega arith) in absurd (omega (arith, o, e, high)))))
    (cases_lt q p)

pub wrong_byte : (id : PageId) (b : List ℕ) (p : ℕ) → directory_end b ≤ p → p < end_at b (count_at b) → slice_index b p ≢ 0 → AreRightBelow id b p → IsFirstWrong id b p
wrong_byte id b p low high isnt h = record { wrong = λ r. isnt (r.gap low high); before = h }

pub flags_more : (id : PageId) (b : List ℕ) (i : ℕ) → AreRightBelow id b (directory_end b) → i < count_at b → slice_index b (start_at b i) < 4 → AreRightBelow id b (start_at b i) → AreRightBelow id b (end_at b i)
flags_more id b i dir inside small h p l =
    let from = directory_from (kind_at b) in
    let entry = entry_of id b i dir inside in
    ⊎_elim (λ a. h p a)
    (λ a. behind_right id b p (omega (arith, entry.start.behind, a)) (count_right id b (directory_end b) dir (omega (arith, from)))
    (λ m. absurd (let o = ends_ordered b (suc i) (count_at b) (λ j k. entry_of id b j dir k) (omega arith) (omega arith) in omega (arith, o, a, m)))
    (λ j there e. same_flags j there e a))
    (cases_lt p (start_at b i))
  where
    same_flags : (j : ℕ) → j < count_at b → p ≡ start_at b j → start_at b i ≤ p → slice_index b p < 4
    same_flags j there e a =
        ⊎_elim
        (λ before. let o = ends_ordered b (suc j) i (λ n k. entry_of id b n dir k) (omega arith) (omega arith) in absurd (omega (arith, o, e, l)))
        (λ notbefore. ⊎_elim
        (λ after. let o = ends_ordered b (suc i) j (λ n k. entry_of id b n dir k) (omega arith) (omega arith) in let s = (entry_of id b j dir there).start.before in absurd (omega (arith, o, s, e, a)))
        (λ notafter. let q : i ≡ j = omega arith in subst (λ (n : ℕ). slice_index b n < 4) (ap (start_at b) q ∙ sym e) small)
        (cases_lt i j))
        (cases_lt j i)

pub wrong_flags_at : (id : PageId) (b : List ℕ) (i : ℕ) → AreRightBelow id b (directory_end b) → i < count_at b → 3 < slice_index b (start_at b i) → AreRightBelow id b (start_at b i) → IsFirstWrong id b (start_at b i)
wrong_flags_at id b i dir inside large h =
    let entry = entry_of id b i dir inside in
    record { wrong = λ r. let q = r.flags entry.start.behind i inside refl in omega (arith, q, large); before = h }

-- nothing of a page stands behind its end
pub all_right : (id : PageId) (b : List ℕ) → AreRightBelow id b (directory_end b) → AreRightBelow id b 4096 → (p : ℕ) → IsRightAt id b p
all_right id b dir h p =
    let from = directory_from (kind_at b) in
    let count = count_right id b (directory_end b) dir (omega (arith, from)) in
    ⊎_elim (λ a. h p a)
    (λ a. behind_right id b p (⊎_elim (λ k. let q = directory_of_control (kind_at b) k in let n = count.control k in omega (arith, q, n, a)) (λ k. let q = directory_of_other (kind_at b) k in omega (arith, q, count.room, a)) (cases_eq (kind_at b) 0)) count
    (λ m. absurd (let o = ends_ordered b 0 (count_at b) (λ n k. entry_of id b n dir k) (omega arith) (omega arith) in omega (arith, o, m, a)))
    (λ j there e. absurd (let s = (entry_of id b j dir there).start.before in let o = ends_ordered b 0 j (λ n k. entry_of id b n dir k) (omega arith) (omega arith) in omega (arith, s, o, e, a))))
    (cases_lt p 4096)

pub end_of_none : (b : List ℕ) (n : ℕ) → n ≡ 0 → end_at b n ≡ 4096
end_of_none b n e = ap (end_at b) e

pub end_of_some : (b : List ℕ) (n : ℕ) → n ≢ 0 → end_at b n ≡ start_at b (n - 1)
end_of_some b n h = ap (end_at b) (let e : n ≡ suc (n - 1) = omega (arith, h) in e)

-- the directory fits the page
pub directory_fits : (id : PageId) (b : List ℕ) (n : ℕ) → AreRightBelow id b n → 32 ≤ n → 32 + 5 * count_at b ≤ 4096
directory_fits id b n h l = (count_right id b n h l).room

pub start_from : (b : List ℕ) (i dir count start end : ℕ) → count ≡ count_at b → dir ≡ directory_at (kind_at b) → start ≡ start_at b i → end ≡ end_at b i → (dir + 4 * count ≤ start) × (start < end) × (kind_at b ≡ 1 → start ≡ 4091) → IsStartAt b i
start_from b i dir count start end hc hd hs he h =
    record {
      behind = let q = h.0 in omega (arith, q, hc, hd, hs);
      before = let q = h.1 in omega (arith, q, hs, he);
      allocation = λ k. sym hs ∙ h.2 k;
    }

pub below_at : (id : PageId) (b : List ℕ) (m n : ℕ) → m ≡ n → AreRightBelow id b (end_at b m) → AreRightBelow id b (end_at b n)
below_at id b m n e h = subst (λ (k : ℕ). AreRightBelow id b (end_at b k)) e h

-- where the first 32 bytes keep the format, the bytes say that they are the page that was asked for
pub own_id_right : (id : PageId) (b : List ℕ) → AreRightBelow id b 32 → own_id b ≡ id
own_id_right id b h =
    let same : number_at 4 b 8 ≡ id.container = (h 8 (omega arith)).container refl in
    let page : number_at 4 b 12 ≡ id.page = (h 12 (omega arith)).page refl in
    let left : own_id b ≡ record { container = id.container; page = number_at 4 b 12 } = ap (λ (n : ℕ). record { container = n; page = number_at 4 b 12 }) same in
    left ∙ ap (λ (n : ℕ). record { container = id.container; page = n }) page

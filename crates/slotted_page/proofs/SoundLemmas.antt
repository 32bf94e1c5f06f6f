-- Bytes whose fields all keep the format are those of a page.
use Rattle.std.proofs.Common.{◌≡◌, ◌+◌, ◌-◌, ◌*◌, ◌≤◌, ◌<◌, ℕ, zero, suc, List, [], ◌∷◌, ◌++◌, length, take, drop, slice_index, replicate, refl, sym, ap, ◌∙◌, ⊎_elim, arith, append_assoc, length-drop}
use Rattle.std.specs.List.{All}
use Rattle.std.proofs.lemmas.Bool.{cases_eq}
use Rattle.std.proofs.lemmas.List.{drop-drop, drop_more, take-append-drop, length-take-le, get_or-take, get_or-drop, get_or-replicate, same_lists, get_or_default, length-replicate}
use Rattle.std.proofs.lemmas.List.Elements.{All-cons, All-nil}
use Rattle.dby_types.specs.declared.number.PageId.{PageId}
use Rattle.dby_bytes.specs.Numbers.{IsBytes, bytes_of, number_of, number_at}
use Rattle.dby_bytes.proofs.NumbersLemmas.{bytes_of-number_of, IsBytes-drop}
use Rattle.slotted_page.specs.Content.{Record, size_of, stored_len}
use Rattle.slotted_page.specs.Layout.{kind_byte, kind_of, zeros, directory, stored, body, front, records_of, content_of}
use Rattle.slotted_page.specs.Format.{kind_at, count_at, start_at, length_at, end_at, IsRightAt}
use Rattle.slotted_page.proofs.FormatLemmas.{IsEntry, entry_of, ends_ordered}
use Rattle.slotted_page.proofs.PageLemmas.{count_read}

-- the record that an entry of the directory names
abbrev pub named_at : List ℕ → ℕ → Record
named_at b i = record { flags = slice_index b (start_at b i); bytes = take (length_at b i - 1) (drop (start_at b i + 1) b) }

-- the records that k entries name
abbrev pub named : List ℕ → ℕ → ℕ → List Record
named b i zero = []
named b i (suc k) = named_at b i ∷ named b (suc i) k

-- all entries are right, in bytes as many as a page has
pub record AreEntries (b : List ℕ) : Type 0 where
  pub bytes : IsBytes b
  pub len : length b ≡ 4096
  pub fits : 32 + 5 * count_at b ≤ 4096
  pub each : (i : ℕ) → i < count_at b → IsEntry b i
  pub flags : (i : ℕ) → i < count_at b → slice_index b (start_at b i) < 4

pub records_named : (k i : ℕ) (b d : List ℕ) → d ≡ drop (32 + 4 * i) b → records_of k d b ≡ named b i k
unfolding number_at
records_named zero i b d e = refl
records_named (suc k) i b d e =
    let start : number_of 2 d ≡ start_at b i = ap (number_of 2) e in
    let len : number_of 2 (drop 2 d) ≡ length_at b i = ap (λ (m : List ℕ). number_of 2 (drop 2 m)) e ∙ ap (number_of 2) (drop-drop 2 (32 + 4 * i) b) in
    let next : drop 4 d ≡ drop (32 + 4 * suc i) b = ap (drop 4) e ∙ drop-drop 4 (32 + 4 * i) b ∙ ap (λ (n : ℕ). drop n b) (let q : 32 + 4 * i + 4 ≡ 32 + 4 * suc i = omega arith in q) in
    ap (λ (s : ℕ). let x : Record = record { flags = slice_index b s; bytes = take (number_of 2 (drop 2 d) - 1) (drop (s + 1) b) } in x ∷ records_of k (drop 4 d) b) start
    ∙ ap (λ (n : ℕ). let x : Record = record { flags = slice_index b (start_at b i); bytes = take (n - 1) (drop (start_at b i + 1) b) } in x ∷ records_of k (drop 4 d) b) len
    ∙ ap (λ (rs : List Record). named_at b i ∷ rs) (records_named k (suc i) b (drop 4 d) next)

pub length-named : (k i : ℕ) (b : List ℕ) → length (named b i k) ≡ k
length-named zero i b = refl
length-named (suc k) i b = ap (λ (n : ℕ). suc n) (length-named k (suc i) b)

-- an entry's numbers, within the page
record IsPlaced (b : List ℕ) (i : ℕ) : Type 0 where
  pub size : size_of (named_at b i) ≡ length_at b i
  pub top : end_at b i ≤ 4096
  pub some : 1 ≤ length_at b i
  pub ends : start_at b i + length_at b i ≡ end_at b i

placed : (b : List ℕ) (i : ℕ) → AreEntries b → i < count_at b → IsPlaced b i
placed b i all inside =
    let entry = all.each i inside in
    let ends = entry.ends in
    let before = entry.start.before in
    let top : end_at b i ≤ 4096 = ends_ordered b 0 i all.each (omega arith) (omega arith) in
    record {
      size = let q = length-take-le (length_at b i - 1) (drop (start_at b i + 1) b) (omega (arith, length-drop (start_at b i + 1) b, all.len, top, ends, before)) in omega (arith, q, ends, before);
      top = top;
      some = omega (arith, ends, before);
      ends = ends;
    }

pub stored_len-named : (k i : ℕ) (b : List ℕ) → AreEntries b → i + k ≤ count_at b → stored_len (named b i k) + end_at b (i + k) ≡ end_at b i
stored_len-named zero i b all h = let q : end_at b (i + 0) ≡ end_at b i = ap (end_at b) (let e : i + 0 ≡ i = omega arith in e) in omega (arith, q)
stored_len-named (suc k) i b all h =
    let p = placed b i all (omega arith) in
    let next : end_at b (i + suc k) ≡ end_at b (suc i + k) = ap (end_at b) (let e : i + suc k ≡ suc i + k = omega arith in e) in
    let rest = stored_len-named k (suc i) b all (omega arith) in
    omega (arith, p.size, p.ends, next, rest)

-- a number's bytes, and what is behind them
pub cut : (n at : ℕ) (b : List ℕ) → IsBytes b → at + n ≤ length b → drop at b ≡ bytes_of n (number_at n b at) ++ drop (at + n) b
unfolding number_at
cut n at b bytes h =
    sym (take-append-drop n (drop at b))
    ∙ ap (λ (m : List ℕ). m ++ drop n (drop at b)) (sym (bytes_of-number_of n (drop at b) (IsBytes-drop at b bytes) (omega (arith, length-drop at b))))
    ∙ ap (λ (m : List ℕ). bytes_of n (number_of n (drop at b)) ++ m) (drop-drop n at b)

pub directory-named : (k i : ℕ) (b : List ℕ) → AreEntries b → i + k ≤ count_at b → drop (32 + 4 * i) b ≡ directory (end_at b i) (named b i k) ++ drop (32 + 4 * (i + k)) b
directory-named zero i b all h = ap (λ (n : ℕ). drop (32 + 4 * n) b) (let e : i ≡ i + 0 = omega arith in e)
directory-named (suc k) i b all h =
    let p = placed b i all (omega arith) in
    let fits = all.fits in
    let rest : List ℕ = drop (32 + 4 * (i + suc k)) b in
    let one = cut 2 (32 + 4 * i) b all.bytes (omega (arith, fits, all.len)) in
    let two = cut 2 (32 + 4 * i + 2) b all.bytes (omega (arith, fits, all.len)) in
    let place : start_at b i ≡ end_at b i - size_of (named_at b i) = omega (arith, p.size, p.ends) in
    let next : drop (32 + 4 * i + 2 + 2) b ≡ directory (end_at b (suc i)) (named b (suc i) k) ++ drop (32 + 4 * (i + suc k)) b =
    ap (λ (n : ℕ). drop n b) (let e : 32 + 4 * i + 2 + 2 ≡ 32 + 4 * suc i = omega arith in e)
    ∙ directory-named k (suc i) b all (omega arith)
    ∙ ap (λ (n : ℕ). directory (end_at b (suc i)) (named b (suc i) k) ++ drop (32 + 4 * n) b) (let e : suc i + k ≡ i + suc k = omega arith in e) in
    one ∙ ap (λ (m : List ℕ). bytes_of 2 (start_at b i) ++ m) (two ∙ ap (λ (m : List ℕ). bytes_of 2 (length_at b i) ++ m) next)
    ∙ ap (λ (n : ℕ). bytes_of 2 (start_at b i) ++ (bytes_of 2 n ++ (directory (start_at b i) (named b (suc i) k) ++ drop (32 + 4 * (i + suc k)) b))) (sym p.size)
    ∙ ap (λ (n : ℕ). bytes_of 2 n ++ (bytes_of 2 (size_of (named_at b i)) ++ (directory n (named b (suc i) k) ++ drop (32 + 4 * (i + suc k)) b))) place
    ∙ regroup (bytes_of 2 (end_at b i - size_of (named_at b i))) (bytes_of 2 (size_of (named_at b i))) (directory (end_at b i - size_of (named_at b i)) (named b (suc i) k)) (drop (32 + 4 * (i + suc k)) b)
  where
    regroup : (a z d rest : List ℕ) → a ++ (z ++ (d ++ rest)) ≡ (a ++ (z ++ d)) ++ rest
    regroup a z d rest = simp append_assoc

pub body-named : (k i : ℕ) (b : List ℕ) → AreEntries b → i + k ≤ count_at b → drop (end_at b (i + k)) b ≡ body (named b i k) ++ drop (end_at b i) b
body-named zero i b all h = ap (λ (n : ℕ). drop (end_at b n) b) (let e : i + 0 ≡ i = omega arith in e)
body-named (suc k) i b all h =
    let p = placed b i all (omega arith) in
    let first : drop (start_at b i) b ≡ slice_index b (start_at b i) ∷ drop (start_at b i + 1) b = drop_more b (start_at b i) 0 (omega (arith, p.ends, p.top, p.some, all.len)) in
    let behind : drop (start_at b i + 1) b ≡ take (length_at b i - 1) (drop (start_at b i + 1) b) ++ drop (end_at b i) b =
    sym (take-append-drop (length_at b i - 1) (drop (start_at b i + 1) b))
    ∙ ap (λ (m : List ℕ). take (length_at b i - 1) (drop (start_at b i + 1) b) ++ m) (drop-drop (length_at b i - 1) (start_at b i + 1) b ∙ ap (λ (n : ℕ). drop n b) (let e : start_at b i + 1 + (length_at b i - 1) ≡ end_at b i = omega (arith, p.ends, p.some) in e)) in
    let here : drop (start_at b i) b ≡ stored (named_at b i) ++ drop (end_at b i) b = first ∙ ap (λ (m : List ℕ). slice_index b (start_at b i) ∷ m) behind in
    ap (λ (n : ℕ). drop (end_at b n) b) (let e : i + suc k ≡ suc i + k = omega arith in e)
    ∙ body-named k (suc i) b all (omega arith)
    ∙ ap (λ (m : List ℕ). body (named b (suc i) k) ++ m) here
    ∙ sym (append_assoc (body (named b (suc i) k)) (stored (named_at b i)) (drop (end_at b i) b))

pub flags-named : (k i : ℕ) (b : List ℕ) → AreEntries b → i + k ≤ count_at b → All (λ (r : Record). r.flags < 4) (named b i k)
flags-named zero i b all h = All-nil (λ (r : Record). r.flags < 4)
flags-named (suc k) i b all h = All-cons (λ (r : Record). r.flags < 4) (named_at b i) (named b (suc i) k) (all.flags i (omega arith)) (flags-named k (suc i) b all (omega arith))

-- bytes that are 0 from a place up to another one
pub zero_part : (b : List ℕ) (from to : ℕ) → from ≤ to → to ≤ length b → ((p : ℕ) → from ≤ p → p < to → slice_index b p ≡ 0) → drop from b ≡ zeros (to - from) ++ drop to b
unfolding zeros
zero_part b from to h l each =
    let n : length (take (to - from) (drop from b)) ≡ to - from = length-take-le (to - from) (drop from b) (omega (arith, length-drop from b)) in
    let same : take (to - from) (drop from b) ≡ replicate (to - from) 0 =
    same_lists (take (to - from) (drop from b)) (replicate (to - from) 0) (n ∙ sym (length-replicate (to - from) 0))
    (λ k d m.
    get_or-take (to - from) (drop from b) k d (omega (arith, n)) ∙ get_or-drop from b k d
    ∙ get_or_default b (from + k) d 0 (omega (arith, n))
    ∙ each (from + k) (omega arith) (omega (arith, n)) ∙ sym (get_or-replicate (to - from) k 0 d (omega (arith, n)))) in
    sym (take-append-drop (to - from) (drop from b))
    ∙ ap (λ (m : List ℕ). m ++ drop (to - from) (drop from b)) same
    ∙ ap (λ (m : List ℕ). replicate (to - from) 0 ++ m) (drop-drop (to - from) from b ∙ ap (λ (k : ℕ). drop k b) (let e : from + (to - from) ≡ to = omega arith in e))

-- the kind's number
pub kind_small : (id : PageId) (b : List ℕ) → ((p : ℕ) → IsRightAt id b p) → kind_at b ≤ 4
kind_small id b h =
    let k = (h 16).kind refl in
    ⊎_elim (λ c. let q = (k.control c).1 in omega (arith, q))
    (λ c. ⊎_elim (λ p. let q = k.allocation c p in omega (arith, q)) (λ p. (k.others c p).1) (cases_eq id.page 0))
    (cases_eq id.container 0)

kind_byte-kind_of : (n : ℕ) → n ≤ 4 → kind_byte (kind_of n) ≡ n
kind_byte-kind_of zero h = refl
kind_byte-kind_of (suc zero) h = refl
kind_byte-kind_of (suc (suc zero)) h = refl
kind_byte-kind_of (suc (suc (suc zero))) h = refl
kind_byte-kind_of (suc (suc (suc (suc zero)))) h = refl
kind_byte-kind_of (suc (suc (suc (suc (suc n))))) h = absurd (omega arith)

pub entries_of : (id : PageId) (b : List ℕ) → IsBytes b → length b ≡ 4096 → ((p : ℕ) → IsRightAt id b p) → AreEntries b
entries_of id b bytes len h =
    let each : (i : ℕ) → i < count_at b → IsEntry b i = λ i l. entry_of id b i (λ p m. h p) l in
    record {
      bytes = bytes;
      len = len;
      fits = ((h 18).count refl).room;
      each = each;
      flags = λ i l. (h (start_at b i)).flags (each i l).start.behind i l refl;
    }

-- the first 32 bytes are those of the content
front_lists : (a c p k n s o r t : List ℕ) → a ++ (c ++ (p ++ (k ++ (n ++ (s ++ (o ++ (r ++ t))))))) ≡ (a ++ (c ++ (p ++ (k ++ (n ++ (s ++ (o ++ r))))))) ++ t
front_lists a c p k n s o r t = simp append_assoc

pub front_read : (id : PageId) (b : List ℕ) → IsBytes b → length b ≡ 4096 → ((p : ℕ) → IsRightAt id b p) → b ≡ front (number_at 8 b 0) (content_of b) ++ drop 32 b
unfolding front content_of
front_read id b bytes len h =
    let two : drop 16 b ≡ (kind_byte (kind_of (slice_index b 16)) ∷ 0 ∷ []) ++ drop 18 b =
    drop_more b 16 0 (omega (arith, len)) ∙ ap (λ (m : List ℕ). slice_index b 16 ∷ m) (drop_more b 17 0 (omega (arith, len)) ∙ ap (λ (n : ℕ). n ∷ drop 18 b) ((h 17).zero_byte refl))
    ∙ ap (λ (n : ℕ). n ∷ 0 ∷ drop 18 b) (sym (kind_byte-kind_of (slice_index b 16) (kind_small id b h))) in
    let count : number_at 2 b 18 ≡ length (records_of (number_at 2 b 18) (drop 32 b) b) = sym (count_read b) in
    cut 8 0 b bytes (omega (arith, len)) ∙ ap (λ (m : List ℕ). bytes_of 8 (number_at 8 b 0) ++ m) (cut 4 8 b bytes (omega (arith, len))
    ∙ ap (λ (m : List ℕ). bytes_of 4 (number_at 4 b 8) ++ m) (cut 4 12 b bytes (omega (arith, len))
    ∙ ap (λ (m : List ℕ). bytes_of 4 (number_at 4 b 12) ++ m) (two
    ∙ ap (λ (m : List ℕ). (kind_byte (kind_of (slice_index b 16)) ∷ 0 ∷ []) ++ m) (cut 2 18 b bytes (omega (arith, len))
    ∙ ap (λ (n : ℕ). bytes_of 2 n ++ drop 20 b) count
    ∙ ap (λ (m : List ℕ). bytes_of 2 (length (records_of (number_at 2 b 18) (drop 32 b) b)) ++ m) (cut 4 20 b bytes (omega (arith, len))
    ∙ ap (λ (m : List ℕ). bytes_of 4 (number_at 4 b 20) ++ m) (cut 4 24 b bytes (omega (arith, len))
    ∙ ap (λ (m : List ℕ). bytes_of 4 (number_at 4 b 24) ++ m) (cut 4 28 b bytes (omega (arith, len)))))))))
    ∙ front_lists (bytes_of 8 (number_at 8 b 0)) (bytes_of 4 (number_at 4 b 8)) (bytes_of 4 (number_at 4 b 12)) (kind_byte (kind_of (slice_index b 16)) ∷ 0 ∷ []) (bytes_of 2 (length (records_of (number_at 2 b 18) (drop 32 b) b))) (bytes_of 4 (number_at 4 b 20)) (bytes_of 4 (number_at 4 b 24)) (bytes_of 4 (number_at 4 b 28)) (drop 32 b)

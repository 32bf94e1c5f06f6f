-- A page's bytes say what the page has.
use Rattle.std.proofs.Common.{◌≡◌, ◌≢◌, ◌+◌, ◌-◌, ◌*◌, ◌^◌, ◌≤◌, ◌<◌, ℕ, zero, suc, List, [], ◌∷◌, ◌++◌, length, take, drop, get_or, slice_index, refl, sym, ap, subst, ◌∙◌, ◌⊎◌, inl, inr, ⊎_elim, arith, append-nil, append_assoc, length-append}
use Rattle.std.proofs.lemmas.List.{drop_at, take_at, take-append-drop, drop_more, take_more, nil_from_length, get_or_append_left, length-take-le}
use Rattle.dby_bytes.specs.Numbers.{number_at}
use Rattle.dby_bytes.proofs.PartsLemmas.{number_at-front, number_at-skip, number_at-first}
use Rattle.dby_bytes.proofs.NumbersLemmas.{number_of-lt}
use Rattle.dby_bytes.specs.Numbers.{IsBytes}
use Rattle.slotted_page.specs.declared.kind.Kind.{Kind}
use Rattle.slotted_page.specs.declared.kind.Kind.TheVariants.{Control, Allocation, Heap, Leaf, Branch}
use Rattle.slotted_page.specs.Content.{Content, Record, IsContent, IsOfKind, size_of, stored_len}
use Rattle.slotted_page.specs.Layout.{kind_byte, kind_of, zeros, directory, body, front, gap_len, page_bytes, records_of, control_of, content_of, IsPage, IsPageOf}
use Rattle.slotted_page.proofs.LayoutLemmas.{length-zeros, length-directory, length-body, stored_len-append, directory-append, directory-first, records_of-directory}
use Rattle.slotted_page.proofs.FrontLemmas.{length-front, front_sum, front_container, front_page, front_kind, front_count, front_segment, front_offset, front_right}

-- what stands behind the first 32 bytes
abbrev pub behind_front : Content → List ℕ
behind_front c = c.control ++ (directory 4096 c.records ++ (zeros (gap_len c) ++ body c.records))

pub length-behind_front : (c : Content) → IsContent c → length (behind_front c) ≡ 4064
length-behind_front c h =
    let room = h.room in
    omega (arith, room, length-append c.control (directory 4096 c.records ++ (zeros (gap_len c) ++ body c.records)), length-append (directory 4096 c.records) (zeros (gap_len c) ++ body c.records), length-append (zeros (gap_len c)) (body c.records), length-directory 4096 c.records, length-zeros (gap_len c), length-body c.records)

pub length-page_bytes : (sum : ℕ) (c : Content) → IsContent c → length (page_bytes sum c) ≡ 4096
length-page_bytes sum c h = omega (arith, length-append (front sum c) (behind_front c), length-front sum c, length-behind_front c h)

kind_of-kind_byte : (k : Kind) → kind_of (kind_byte k) ≡ k
kind_of-kind_byte Control = refl
kind_of-kind_byte Allocation = refl
kind_of-kind_byte Heap = refl
kind_of-kind_byte Leaf = refl
kind_of-kind_byte Branch = refl

-- a control page, or not
pub control_or_not : (k : Kind) → (k ≡ Control) ⊎ (k ≢ Control)
control_or_not Control = inl refl
control_or_not Allocation = inr (λ e. let f : Allocation ≡ Control = e in cc)
control_or_not Heap = inr (λ e. let f : Heap ≡ Control = e in cc)
control_or_not Leaf = inr (λ e. let f : Leaf ≡ Control = e in cc)
control_or_not Branch = inr (λ e. let f : Branch ≡ Control = e in cc)

-- a number of the first 32 bytes
number_in_front : (n at : ℕ) (sum : ℕ) (c : Content) → at + n ≤ 32 → number_at n (page_bytes sum c) at ≡ number_at n (front sum c) at
number_in_front n at sum c h = number_at-front n (front sum c) (behind_front c) at (omega (arith, length-front sum c))

pub behind_is : (sum : ℕ) (c : Content) → drop 32 (page_bytes sum c) ≡ behind_front c
behind_is sum c = drop_at (front sum c) (behind_front c) 32 (length-front sum c)

-- the records, at the end of the page
pub body_is : (sum : ℕ) (c : Content) → IsContent c → drop (4096 - stored_len c.records) (page_bytes sum c) ≡ body c.records
body_is sum c h =
    let p : List ℕ = front sum c ++ (c.control ++ (directory 4096 c.records ++ zeros (gap_len c))) in
    let room = h.room in
    let n : length (front sum c ++ (c.control ++ (directory 4096 c.records ++ zeros (gap_len c)))) ≡ 4096 - stored_len c.records =
    omega (arith, room, length-append (front sum c) (c.control ++ (directory 4096 c.records ++ zeros (gap_len c))), length-append c.control (directory 4096 c.records ++ zeros (gap_len c)), length-append (directory 4096 c.records) (zeros (gap_len c)), length-front sum c, length-directory 4096 c.records, length-zeros (gap_len c)) in
    let turned : page_bytes sum c ≡ (front sum c ++ (c.control ++ (directory 4096 c.records ++ zeros (gap_len c)))) ++ body c.records =
    sym (append_assoc (front sum c) (c.control ++ (directory 4096 c.records ++ zeros (gap_len c))) (body c.records)
    ∙ ap (λ (m : List ℕ). front sum c ++ m) (append_assoc c.control (directory 4096 c.records ++ zeros (gap_len c)) (body c.records)
    ∙ ap (λ (m : List ℕ). c.control ++ m) (append_assoc (directory 4096 c.records) (zeros (gap_len c)) (body c.records)))) in
    ap (drop (4096 - stored_len c.records)) turned ∙ drop_at (front sum c ++ (c.control ++ (directory 4096 c.records ++ zeros (gap_len c)))) (body c.records) (4096 - stored_len c.records) n

control_read : (k : Kind) (own rest b : List ℕ) (records : List Record) → IsOfKind k own records → drop 32 b ≡ own ++ rest → control_of k b ≡ own
control_read Control own rest b records h e = ap (take 16) e ∙ take_at own rest 16 (h.own_bytes refl)
control_read Allocation own rest b records h e = sym (nil_from_length own (h.no_own_bytes (λ f. let g : Allocation ≡ Control = f in cc)))
control_read Heap own rest b records h e = sym (nil_from_length own (h.no_own_bytes (λ f. let g : Heap ≡ Control = f in cc)))
control_read Leaf own rest b records h e = sym (nil_from_length own (h.no_own_bytes (λ f. let g : Leaf ≡ Control = f in cc)))
control_read Branch own rest b records h e = sym (nil_from_length own (h.no_own_bytes (λ f. let g : Branch ≡ Control = f in cc)))

-- the records are read where the page's bytes name them
records_read : (sum : ℕ) (c : Content) → IsContent c → records_of (length c.records) (behind_front c) (page_bytes sum c) ≡ c.records
records_read sum c h =
    ⊎_elim
    (λ is.
    let none : c.records ≡ [] = nil_from_length c.records (h.kind.no_records is) in
    ap (λ (rs : List Record). records_of (length rs) (behind_front c) (page_bytes sum c)) none ∙ sym none)
    (λ isnt.
    let plain : c.control ≡ [] = nil_from_length c.control (h.kind.no_own_bytes isnt) in
    ap (λ (m : List ℕ). records_of (length c.records) (m ++ (directory 4096 c.records ++ (zeros (gap_len c) ++ body c.records))) (page_bytes sum c)) plain
    ∙ records_of-directory c.records 4096 (zeros (gap_len c) ++ body c.records) (page_bytes sum c) [] (omega (arith, h.room)) (omega arith) (body_is sum c h ∙ sym (append-nil (body c.records))))
    (control_or_not c.kind)

same_content : (a c : Content) → a.id.container ≡ c.id.container → a.id.page ≡ c.id.page → a.kind ≡ c.kind → a.lsn.segment ≡ c.lsn.segment → a.lsn.offset ≡ c.lsn.offset → a.right ≡ c.right → a.control ≡ c.control → a.records ≡ c.records → a ≡ c
same_content a c e1 e2 e3 e4 e5 e6 e7 e8 =
    ap (λ (x : ℕ). record a { id = record a.id { container = x } }) e1
    ∙ ap (λ (x : ℕ). record a { id = record c.id { page = x } }) e2
    ∙ ap (λ (x : Kind). record a { id = c.id; kind = x }) e3
    ∙ ap (λ (x : ℕ). record a { id = c.id; kind = c.kind; lsn = record a.lsn { segment = x } }) e4
    ∙ ap (λ (x : ℕ). record a { id = c.id; kind = c.kind; lsn = record c.lsn { offset = x } }) e5
    ∙ ap (λ (x : ℕ). record a { id = c.id; kind = c.kind; lsn = c.lsn; right = x }) e6
    ∙ ap (λ (x : List ℕ). record a { id = c.id; kind = c.kind; lsn = c.lsn; right = c.right; control = x }) e7
    ∙ ap (λ (x : List Record). record c { records = x }) e8

-- a page's bytes say its content
pub content_of-page_bytes : (sum : ℕ) (c : Content) → IsContent c → content_of (page_bytes sum c) ≡ c
unfolding content_of
content_of-page_bytes sum c h =
    let f = h.fields in
    let few : length c.records < 256 ^ 2 = omega (arith, h.room) in
    let kind : kind_of (slice_index (page_bytes sum c) 16) ≡ c.kind =
    ap kind_of (get_or_append_left (front sum c) (behind_front c) 0 16 (omega (arith, length-front sum c)) ∙ front_kind sum c) ∙ kind_of-kind_byte c.kind in
    let own : control_of (kind_of (slice_index (page_bytes sum c) 16)) (page_bytes sum c) ≡ c.control =
    ap (λ (k : Kind). control_of k (page_bytes sum c)) kind ∙ control_read c.kind c.control (directory 4096 c.records ++ (zeros (gap_len c) ++ body c.records)) (page_bytes sum c) c.records h.kind (behind_is sum c) in
    let count : number_at 2 (page_bytes sum c) 18 ≡ length c.records = number_in_front 2 18 sum c (omega arith) ∙ front_count sum c few in
    let records : records_of (number_at 2 (page_bytes sum c) 18) (drop 32 (page_bytes sum c)) (page_bytes sum c) ≡ c.records =
    ap (λ (n : ℕ). records_of n (drop 32 (page_bytes sum c)) (page_bytes sum c)) count
    ∙ ap (λ (d : List ℕ). records_of (length c.records) d (page_bytes sum c)) (behind_is sum c) ∙ records_read sum c h in
    same_content (content_of (page_bytes sum c)) c
    (number_in_front 4 8 sum c (omega arith) ∙ front_container sum c f.container)
    (number_in_front 4 12 sum c (omega arith) ∙ front_page sum c f.page)
    kind
    (number_in_front 4 20 sum c (omega arith) ∙ front_segment sum c f.segment)
    (number_in_front 4 24 sum c (omega arith) ∙ front_offset sum c f.offset)
    (number_in_front 4 28 sum c (omega arith) ∙ front_right sum c f.right)
    own records

-- bytes that are laid out as a page's say its content
pub IsPageOf-bytes : (sum : ℕ) (c : Content) (b : List ℕ) → sum < 256 ^ 8 → IsContent c → b ≡ page_bytes sum c → IsPageOf b c
IsPageOf-bytes sum c b small h e =
    let got : content_of b ≡ c = ap content_of e ∙ content_of-page_bytes sum c h in
    let has : number_at 8 b 0 ≡ sum = ap (λ (m : List ℕ). number_at 8 m 0) e ∙ number_in_front 8 0 sum c (omega arith) ∙ front_sum sum c small in
    record {
      page = record {
        content = subst IsContent (sym got) h;
        bytes = e ∙ ap (λ (s : ℕ). page_bytes s c) (sym has) ∙ ap (page_bytes (number_at 8 b 0)) (sym got);
      };
      content = got;
    }

-- a page with records has no bytes of its own
pub plain : (c : Content) → IsContent c → 0 < length c.records → c.control ≡ []
plain c h some =
    nil_from_length c.control (h.kind.no_own_bytes (λ is. let e = h.kind.no_records is in omega (arith, e)))

-- a page's records, apart at one of them
pub split_at : (rs : List Record) (i : ℕ) (d : Record) → i < length rs → rs ≡ take i rs ++ get_or rs i d ∷ drop (i + 1) rs
split_at rs i d h = sym (take-append-drop i rs) ∙ ap (λ (m : List Record). take i rs ++ m) (drop_more rs i d h)

-- where a record starts, by the records up to it
pub stored_len-more : (rs : List Record) (i : ℕ) (d : Record) → i < length rs → stored_len (take (i + 1) rs) ≡ stored_len (take i rs) + size_of (get_or rs i d)
stored_len-more rs i d h =
    let e : stored_len (take (i + 1) rs) ≡ stored_len (take i rs ++ get_or rs i d ∷ []) = ap stored_len (take_more rs i d h) in
    omega (arith, e, stored_len-append (take i rs) (get_or rs i d ∷ []))

pub stored_len-take : (rs : List Record) (i : ℕ) → stored_len (take i rs) ≤ stored_len rs
stored_len-take rs i =
    let e : stored_len rs ≡ stored_len (take i rs ++ drop i rs) = ap stored_len (sym (take-append-drop i rs)) in
    omega (arith, e, stored_len-append (take i rs) (drop i rs))

-- the start that the directory has for a record
pub start_read : (sum : ℕ) (c : Content) (i : ℕ) (d : Record) → IsContent c → i < length c.records → number_at 2 (page_bytes sum c) (32 + 4 * i) ≡ 4096 - stored_len (take (i + 1) c.records)
start_read sum c i d h inside =
    let rs : List Record = c.records in
    let r : Record = get_or c.records i d in
    let e : ℕ = 4096 - stored_len (take i c.records) in
    let rest : List ℕ = zeros (gap_len c) ++ body c.records in
    let none : c.control ≡ [] = plain c h (omega arith) in
    let dir : directory 4096 c.records ≡ directory 4096 (take i c.records) ++ directory (4096 - stored_len (take i c.records)) (get_or c.records i d ∷ drop (i + 1) c.records) =
    ap (directory 4096) (split_at c.records i d inside) ∙ directory-append 4096 (take i c.records) (get_or c.records i d ∷ drop (i + 1) c.records) in
    let turned : behind_front c ≡ directory 4096 (take i c.records) ++ (directory (4096 - stored_len (take i c.records)) (get_or c.records i d ∷ drop (i + 1) c.records) ++ (zeros (gap_len c) ++ body c.records)) =
    ap (λ (m : List ℕ). m ++ (directory 4096 c.records ++ (zeros (gap_len c) ++ body c.records))) none
    ∙ ap (λ (m : List ℕ). m ++ (zeros (gap_len c) ++ body c.records)) dir
    ∙ append_assoc (directory 4096 (take i c.records)) (directory (4096 - stored_len (take i c.records)) (get_or c.records i d ∷ drop (i + 1) c.records)) (zeros (gap_len c) ++ body c.records) in
    let len : length (directory 4096 (take i c.records)) ≡ 4 * i = omega (arith, length-directory 4096 (take i c.records), length-take-le i c.records (omega arith)) in
    let there : 4 * i + 0 ≡ 4 * i = omega arith in
    let value : 4096 - stored_len (take i c.records) - size_of (get_or c.records i d) ≡ 4096 - stored_len (take (i + 1) c.records) = omega (arith, stored_len-more c.records i d inside) in
    number_at-skip 2 (front sum c) (behind_front c) 32 (4 * i) (length-front sum c)
    ∙ ap (λ (m : List ℕ). number_at 2 m (4 * i)) turned
    ∙ ap (λ (k : ℕ). number_at 2 (directory 4096 (take i c.records) ++ (directory (4096 - stored_len (take i c.records)) (get_or c.records i d ∷ drop (i + 1) c.records) ++ (zeros (gap_len c) ++ body c.records))) k) (sym there)
    ∙ number_at-skip 2 (directory 4096 (take i c.records)) (directory (4096 - stored_len (take i c.records)) (get_or c.records i d ∷ drop (i + 1) c.records) ++ (zeros (gap_len c) ++ body c.records)) (4 * i) 0 len
    ∙ ap (λ (m : List ℕ). number_at 2 m 0) (directory-first (4096 - stored_len (take i c.records)) (get_or c.records i d) (drop (i + 1) c.records) (zeros (gap_len c) ++ body c.records))
    ∙ number_at-first 2 (4096 - stored_len (take i c.records) - size_of (get_or c.records i d)) _ (omega arith)
    ∙ value

length-records_of : (k : ℕ) (d b : List ℕ) → length (records_of k d b) ≡ k
length-records_of zero d b = refl
length-records_of (suc k) d b = ap (λ (n : ℕ). suc n) (length-records_of k (drop 4 d) b)

-- the number of records that a page's bytes say
pub count_read : (b : List ℕ) → length (content_of b).records ≡ number_at 2 b 18
unfolding content_of
count_read b = length-records_of (number_at 2 b 18) (drop 32 b) b

pub start_of_page : (b : List ℕ) (i : ℕ) → IsPage b → i < length (content_of b).records → number_at 2 b (32 + 4 * i) ≡ 4096 - stored_len (take (i + 1) (content_of b).records)
start_of_page b i h inside =
    ap (λ (m : List ℕ). number_at 2 m (32 + 4 * i)) h.bytes
    ∙ start_read (number_at 8 b 0) (content_of b) i (record { flags = 0; bytes = [] }) h.content inside

-- the sum's number fits eight bytes
pub sum_small : (b : List ℕ) → IsBytes b → number_at 8 b 0 < 256 ^ 8
unfolding number_at
sum_small b h = number_of-lt 8 b h

-- the kind that a page's bytes say
pub kind_read : (b : List ℕ) → (content_of b).kind ≡ kind_of (slice_index b 16)
unfolding content_of
kind_read b = refl

pub zero_is_control : (n : ℕ) → n ≢ 0 → kind_of n ≢ Control
zero_is_control zero h e = h refl
zero_is_control (suc zero) h e = let f : Allocation ≡ Control = e in cc
zero_is_control (suc (suc zero)) h e = let f : Heap ≡ Control = e in cc
zero_is_control (suc (suc (suc zero))) h e = let f : Leaf ≡ Control = e in cc
zero_is_control (suc (suc (suc (suc n)))) h e = let f : Branch ≡ Control = e in cc

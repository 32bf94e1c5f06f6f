-- A page's bytes after its list of records was edited.
use Rattle.std.proofs.Common.{◌≡◌, ◌≢◌, ◌+◌, ◌-◌, ◌*◌, ◌^◌, ◌≤◌, ◌<◌, ℕ, List, [], ◌∷◌, ◌++◌, length, take, drop, slice_index, refl, sym, ap, ◌∙◌, arith, append_assoc, length-append}
use Rattle.std.specs.List.{All}
use Rattle.std.proofs.lemmas.List.{take-append-drop, length-take-le, nil_from_length, replicate-append-replicate, drop_at, take_at, take_all}
use Rattle.std.proofs.lemmas.List.Elements.{All-cons, All-append, All-take, All-drop, All-same, All-get_or, All-tail}
use Rattle.dby_bytes.specs.Numbers.{bytes_of, number_at, with_number}
use Rattle.dby_bytes.proofs.NumbersLemmas.{length-bytes_of}
use Rattle.dby_bytes.proofs.PartsLemmas.{with_number-front, byte_skip}
use Rattle.slotted_page.specs.declared.kind.Kind.TheVariants.{Control}
use Rattle.slotted_page.specs.Content.{Content, Record, IsContent, HasRoom, size_of, stored_len, record_at, with_record, without_record, with_changed}
use Rattle.slotted_page.specs.Layout.{zeros, directory, stored, body, front, gap_len, page_bytes, content_of, IsPage, IsPageOf}
use Rattle.slotted_page.specs.Edits.{exchanged, overwritten, IsMoved}
use Rattle.slotted_page.proofs.LayoutLemmas.{length-zeros, length-directory, length-body, stored_len-append, directory-append, body-append}
use Rattle.slotted_page.proofs.FrontLemmas.{length-front, front_with_count, front_same}
use Rattle.slotted_page.proofs.PageLemmas.{split_at, stored_len-more, stored_len-take, IsPageOf-bytes}
use Rattle.slotted_page.proofs.EditLemmas.{exchanged-parts, overwritten-part}

zeros-append : (m n : ℕ) → zeros m ++ zeros n ≡ zeros (m + n)
unfolding zeros
zeros-append m n = replicate-append-replicate m n 0

-- other records in a page that isn't a control page
pub IsContent-records : (c : Content) (rs : List Record) → IsContent c → c.kind ≢ Control → 32 + 4 * length rs + stored_len rs ≤ 4096 → All (λ r. r.flags < 4) rs → IsContent (record c { records = rs })
IsContent-records c rs h isnt room flags =
    let none = h.kind.no_own_bytes isnt in
    record {
      fields = record { container = h.fields.container; page = h.fields.page; segment = h.fields.segment; offset = h.fields.offset; right = h.fields.right };
      kind = record { own_bytes = h.kind.own_bytes; no_records = λ e. absurd (isnt e); no_own_bytes = h.kind.no_own_bytes };
      room = omega (arith, none, room);
      flags = flags;
    }

All-insert : (P : Record → Type 0) (rs xs ys : List Record) (r : Record) → rs ≡ xs ++ ys → All P rs → P r → All P (xs ++ r ∷ ys)
All-insert P rs xs ys r e all p =
    let both : All P (xs ++ ys) = All-same P (xs ++ ys) rs (sym e) all in
    let front : All P xs = All-same P xs (take (length xs) (xs ++ ys)) (sym (take_at xs ys (length xs) refl)) (All-take P (length xs) (xs ++ ys) both) in
    let back : All P ys = All-same P ys (drop (length xs) (xs ++ ys)) (sym (drop_at xs ys (length xs) refl)) (All-drop P (length xs) (xs ++ ys) both) in
    All-append P xs (r ∷ ys) front (All-cons P r ys p back)

-- such a page's bytes
pub flat : (sum : ℕ) (c : Content) → c.control ≡ [] → page_bytes sum c ≡ front sum c ++ (directory 4096 c.records ++ (zeros (4096 - (32 + 4 * length c.records + stored_len c.records)) ++ body c.records))
flat sum c none =
    let gap : gap_len c ≡ 4096 - (32 + 4 * length c.records + stored_len c.records) = let e : length c.control ≡ 0 = ap length none in omega (arith, e) in
    ap (λ (m : List ℕ). front sum c ++ (m ++ (directory 4096 c.records ++ (zeros (gap_len c) ++ body c.records)))) none
    ∙ ap (λ (k : ℕ). front sum c ++ (directory 4096 c.records ++ (zeros k ++ body c.records))) gap

insert_before : (f d1 d2 z4 z1 zz yy xx : List ℕ) → f ++ ((d1 ++ d2) ++ ((z4 ++ (z1 ++ zz)) ++ (yy ++ xx))) ≡ (f ++ (d1 ++ (d2 ++ (z4 ++ z1)))) ++ (zz ++ (yy ++ xx))
insert_before f d1 d2 z4 z1 zz yy xx = simp append_assoc

insert_middle : (f d1 d2 z4 z1 zz yy xx : List ℕ) → (f ++ (d1 ++ (d2 ++ (z4 ++ z1)))) ++ (yy ++ (zz ++ xx)) ≡ ((f ++ (d1 ++ (d2 ++ (z4 ++ z1)))) ++ yy) ++ (zz ++ xx)
insert_middle f d1 d2 z4 z1 zz yy xx = simp append_assoc

insert_directory : (f d1 d2 z4 z1 yy s xx : List ℕ) → ((f ++ (d1 ++ (d2 ++ (z4 ++ z1)))) ++ yy) ++ (s ++ xx) ≡ (f ++ d1) ++ (d2 ++ (z4 ++ (z1 ++ (yy ++ (s ++ xx)))))
insert_directory f d1 d2 z4 z1 yy s xx = simp append_assoc

insert_after : (f d1 a z d2 z1 yy s xx : List ℕ) → ((f ++ d1) ++ (a ++ z)) ++ (d2 ++ (z1 ++ (yy ++ (s ++ xx)))) ≡ f ++ ((d1 ++ (a ++ (z ++ d2))) ++ (z1 ++ ((yy ++ s) ++ xx)))
insert_after f d1 a z d2 z1 yy s xx = simp append_assoc

move_before : (f d1 a z rest : List ℕ) → (f ++ d1) ++ ((a ++ z) ++ rest) ≡ ((f ++ d1) ++ (a ++ z)) ++ rest
move_before f d1 a z rest = simp append_assoc

-- the steps of an insert, on lists
insert_lists : (b b1 b2 b3 b4 b5 b6 f d1 z1 yy xx : List ℕ) (ys : List Record) (r : Record) (at count low end size e : ℕ) → b ≡ f ++ ((d1 ++ directory e ys) ++ ((zeros 4 ++ (z1 ++ zeros size)) ++ (yy ++ xx))) → length f ≡ 32 → length d1 ≡ 4 * at → at + length ys ≡ count → length z1 + (36 + 4 * count) + size ≡ low → length yy + low ≡ end → size ≡ 1 + length r.bytes → stored_len ys < 256 ^ 2 → b1 ≡ exchanged b (low - size) low end → b2 ≡ overwritten b1 (end - size) (stored r) → b3 ≡ exchanged b2 (32 + 4 * at) (32 + 4 * count) (32 + 4 * count + 4) → b4 ≡ overwritten b3 (32 + 4 * at) (bytes_of 2 (end - size) ++ bytes_of 2 size) → IsMoved b4 b5 (32 + 4 * at + 4) (count - at) (end - size) → b6 ≡ with_number 2 b5 18 (count + 1) → b6 ≡ with_number 2 f 18 (count + 1) ++ ((d1 ++ (bytes_of 2 (end - size) ++ (bytes_of 2 size ++ directory (end - size) ys))) ++ (z1 ++ ((yy ++ stored r) ++ xx)))
insert_lists b b1 b2 b3 b4 b5 b6 f d1 z1 yy xx ys r at count low end size e is hf hd hn hz hy hs few h1 h2 h3 h4 h5 h6 =
    let d2 : List ℕ = directory e ys in
    let n2 : length (directory e ys) ≡ 4 * length ys = length-directory e ys in
    let front_len : length (f ++ (d1 ++ (directory e ys ++ (zeros 4 ++ z1)))) ≡ low - size =
    omega (arith, length-append f (d1 ++ (directory e ys ++ (zeros 4 ++ z1))), length-append d1 (directory e ys ++ (zeros 4 ++ z1)), length-append (directory e ys) (zeros 4 ++ z1), length-append (zeros 4) z1, length-zeros 4, n2, hf, hd, hn, hz) in
    let s1 : b1 ≡ (f ++ (d1 ++ (directory e ys ++ (zeros 4 ++ z1)))) ++ (yy ++ (zeros size ++ xx)) =
    h1 ∙ ap (λ (m : List ℕ). exchanged m (low - size) low end) (is ∙ insert_before f d1 (directory e ys) (zeros 4) z1 (zeros size) yy xx)
    ∙ exchanged-parts (f ++ (d1 ++ (directory e ys ++ (zeros 4 ++ z1)))) (zeros size) yy xx (low - size) low end front_len (let q = length-zeros size in omega (arith, q, hz)) (omega (arith, hy)) in
    let mid_len : length ((f ++ (d1 ++ (directory e ys ++ (zeros 4 ++ z1)))) ++ yy) ≡ end - size = omega (arith, length-append (f ++ (d1 ++ (directory e ys ++ (zeros 4 ++ z1)))) yy, front_len, hy, hz) in
    let s2 : b2 ≡ ((f ++ (d1 ++ (directory e ys ++ (zeros 4 ++ z1)))) ++ yy) ++ (stored r ++ xx) =
    h2 ∙ ap (λ (m : List ℕ). overwritten m (end - size) (stored r)) (s1 ∙ insert_middle f d1 (directory e ys) (zeros 4) z1 (zeros size) yy xx)
    ∙ overwritten-part ((f ++ (d1 ++ (directory e ys ++ (zeros 4 ++ z1)))) ++ yy) (zeros size) xx (stored r) (end - size) mid_len (length-zeros size ∙ hs ∙ (let q : 1 + length r.bytes ≡ length (stored r) = omega arith in q)) in
    let dir_len : length (f ++ d1) ≡ 32 + 4 * at = omega (arith, length-append f d1, hf, hd) in
    let s3 : b3 ≡ (f ++ d1) ++ (zeros 4 ++ (directory e ys ++ (z1 ++ (yy ++ (stored r ++ xx))))) =
    h3 ∙ ap (λ (m : List ℕ). exchanged m (32 + 4 * at) (32 + 4 * count) (32 + 4 * count + 4)) (s2 ∙ insert_directory f d1 (directory e ys) (zeros 4) z1 yy (stored r) xx)
    ∙ exchanged-parts (f ++ d1) (directory e ys) (zeros 4) (z1 ++ (yy ++ (stored r ++ xx))) (32 + 4 * at) (32 + 4 * count) (32 + 4 * count + 4) dir_len (omega (arith, n2, hn)) (let q = length-zeros 4 in omega (arith, q)) in
    let entry_len : length (bytes_of 2 (end - size) ++ bytes_of 2 size) ≡ 4 = omega (arith, length-append (bytes_of 2 (end - size)) (bytes_of 2 size), length-bytes_of 2 (end - size), length-bytes_of 2 size) in
    let s4 : b4 ≡ (f ++ d1) ++ ((bytes_of 2 (end - size) ++ bytes_of 2 size) ++ (directory e ys ++ (z1 ++ (yy ++ (stored r ++ xx))))) =
    h4 ∙ ap (λ (m : List ℕ). overwritten m (32 + 4 * at) (bytes_of 2 (end - size) ++ bytes_of 2 size)) s3
    ∙ overwritten-part (f ++ d1) (zeros 4) (directory e ys ++ (z1 ++ (yy ++ (stored r ++ xx)))) (bytes_of 2 (end - size) ++ bytes_of 2 size) (32 + 4 * at) dir_len (length-zeros 4 ∙ sym entry_len) in
    let before_len : length ((f ++ d1) ++ (bytes_of 2 (end - size) ++ bytes_of 2 size)) ≡ 32 + 4 * at + 4 = omega (arith, length-append (f ++ d1) (bytes_of 2 (end - size) ++ bytes_of 2 size), dir_len, entry_len) in
    let s5 : b5 ≡ f ++ ((d1 ++ (bytes_of 2 (end - size) ++ (bytes_of 2 size ++ directory (end - size) ys))) ++ (z1 ++ ((yy ++ stored r) ++ xx))) =
    h5 ((f ++ d1) ++ (bytes_of 2 (end - size) ++ bytes_of 2 size)) ys e (z1 ++ (yy ++ (stored r ++ xx))) (s4 ∙ move_before f d1 (bytes_of 2 (end - size)) (bytes_of 2 size) (directory e ys ++ (z1 ++ (yy ++ (stored r ++ xx))))) before_len (omega (arith, hn)) few
    ∙ insert_after f d1 (bytes_of 2 (end - size)) (bytes_of 2 size) (directory (end - size) ys) z1 yy (stored r) xx in
    h6 ∙ ap (λ (m : List ℕ). with_number 2 m 18 (count + 1)) s5
    ∙ with_number-front 2 f ((d1 ++ (bytes_of 2 (end - size) ++ (bytes_of 2 size ++ directory (end - size) ys))) ++ (z1 ++ ((yy ++ stored r) ++ xx))) 18 (count + 1) (omega (arith, hf))

insert_over : (b b1 b2 b3 b4 b5 b6 : List ℕ) (sum : ℕ) (c : Content) (xs ys : List Record) (r : Record) (at count low end size : ℕ) → IsContent c → b ≡ page_bytes sum c → sum < 256 ^ 8 → c.records ≡ xs ++ ys → HasRoom c (length r.bytes) → length xs ≡ at → count ≡ length c.records → size ≡ 1 + length r.bytes → low ≡ 4096 - stored_len c.records → end ≡ 4096 - stored_len xs → b1 ≡ exchanged b (low - size) low end → b2 ≡ overwritten b1 (end - size) (stored r) → b3 ≡ exchanged b2 (32 + 4 * at) (32 + 4 * count) (32 + 4 * count + 4) → b4 ≡ overwritten b3 (32 + 4 * at) (bytes_of 2 (end - size) ++ bytes_of 2 size) → IsMoved b4 b5 (32 + 4 * at + 4) (count - at) (end - size) → b6 ≡ with_number 2 b5 18 (count + 1) → r.flags < 4 → IsPageOf b6 (record c { records = xs ++ r ∷ ys })
insert_over b b1 b2 b3 b4 b5 b6 sum c xs ys r at count low end size h is small parts room hx hc hs hl he h1 h2 h3 h4 h5 h6 known =
    let none : c.control ≡ [] = nil_from_length c.control (h.kind.no_own_bytes room.kind) in
    let fit = room.room in
    let count_is : length c.records ≡ length xs + length ys = ap length parts ∙ length-append xs ys in
    let total : stored_len c.records ≡ stored_len xs + stored_len ys = ap stored_len parts ∙ stored_len-append xs ys in
    let left : 4096 - (32 + 4 * length c.records + stored_len c.records) ≡ 4 + ((4096 - (32 + 4 * (length c.records + 1) + (stored_len c.records + size))) + size) = omega (arith, fit, hs) in
    let apart : zeros (4096 - (32 + 4 * length c.records + stored_len c.records)) ≡ zeros 4 ++ (zeros (4096 - (32 + 4 * (length c.records + 1) + (stored_len c.records + size))) ++ zeros size) =
    ap zeros left ∙ sym (zeros-append 4 ((4096 - (32 + 4 * (length c.records + 1) + (stored_len c.records + size))) + size))
    ∙ ap (λ (m : List ℕ). zeros 4 ++ m) (sym (zeros-append (4096 - (32 + 4 * (length c.records + 1) + (stored_len c.records + size))) size)) in
    let start : b ≡ front sum c ++ ((directory 4096 xs ++ directory (4096 - stored_len xs) ys) ++ ((zeros 4 ++ (zeros (4096 - (32 + 4 * (length c.records + 1) + (stored_len c.records + size))) ++ zeros size)) ++ (body ys ++ body xs))) =
    is ∙ flat sum c none
    ∙ ap (λ (m : List ℕ). front sum c ++ (directory 4096 c.records ++ (m ++ body c.records))) apart
    ∙ ap (λ (m : List ℕ). front sum c ++ (m ++ ((zeros 4 ++ (zeros (4096 - (32 + 4 * (length c.records + 1) + (stored_len c.records + size))) ++ zeros size)) ++ body c.records))) (ap (directory 4096) parts ∙ directory-append 4096 xs ys)
    ∙ ap (λ (m : List ℕ). front sum c ++ ((directory 4096 xs ++ directory (4096 - stored_len xs) ys) ++ ((zeros 4 ++ (zeros (4096 - (32 + 4 * (length c.records + 1) + (stored_len c.records + size))) ++ zeros size)) ++ m))) (ap body parts ∙ body-append xs ys) in
    let steps = insert_lists b b1 b2 b3 b4 b5 b6 (front sum c) (directory 4096 xs) (zeros (4096 - (32 + 4 * (length c.records + 1) + (stored_len c.records + size)))) (body ys) (body xs) ys r at count low end size (4096 - stored_len xs)
    start (length-front sum c) (length-directory 4096 xs ∙ ap (λ (k : ℕ). 4 * k) hx) (omega (arith, hc, hx, count_is)) (let q = length-zeros (4096 - (32 + 4 * (length c.records + 1) + (stored_len c.records + size))) in omega (arith, q, fit, hs, hl, hc)) (let q = length-body ys in omega (arith, q, hl, he, total, fit)) hs (omega (arith, total, fit)) h1 h2 h3 h4 h5 h6 in
    let rs : List Record = xs ++ r ∷ ys in
    let more : length (xs ++ r ∷ ys) ≡ count + 1 = omega (arith, length-append xs (r ∷ ys), hc, count_is) in
    let larger : stored_len (xs ++ r ∷ ys) ≡ stored_len c.records + size = omega (arith, stored_len-append xs (r ∷ ys), total, hs) in
    let flags : All (λ (x : Record). x.flags < 4) (xs ++ r ∷ ys) =
    All-insert (λ (x : Record). x.flags < 4) c.records xs ys r parts h.flags known in
    let ok : IsContent (record c { records = xs ++ r ∷ ys }) = IsContent-records c (xs ++ r ∷ ys) h room.kind (omega (arith, more, larger, fit, hs, hc)) flags in
    let place : end - size ≡ 4096 - stored_len xs - size_of r = omega (arith, he, hs) in
    let own : bytes_of 2 (end - size) ++ (bytes_of 2 size ++ directory (end - size) ys) ≡ directory (4096 - stored_len xs) (r ∷ ys) =
    ap (λ (k : ℕ). bytes_of 2 k ++ (bytes_of 2 size ++ directory k ys)) place ∙ ap (λ (k : ℕ). bytes_of 2 (4096 - stored_len xs - size_of r) ++ (bytes_of 2 k ++ directory (4096 - stored_len xs - size_of r) ys)) hs in
    let done : b6 ≡ page_bytes sum (record c { records = xs ++ r ∷ ys }) =
    steps
    ∙ ap (λ (m : List ℕ). with_number 2 (front sum c) 18 (count + 1) ++ ((directory 4096 xs ++ m) ++ (zeros (4096 - (32 + 4 * (length c.records + 1) + (stored_len c.records + size))) ++ (body (r ∷ ys) ++ body xs)))) own
    ∙ ap (λ (m : List ℕ). with_number 2 (front sum c) 18 (count + 1) ++ (m ++ (zeros (4096 - (32 + 4 * (length c.records + 1) + (stored_len c.records + size))) ++ (body (r ∷ ys) ++ body xs)))) (sym (directory-append 4096 xs (r ∷ ys)))
    ∙ ap (λ (m : List ℕ). with_number 2 (front sum c) 18 (count + 1) ++ (directory 4096 (xs ++ r ∷ ys) ++ (zeros (4096 - (32 + 4 * (length c.records + 1) + (stored_len c.records + size))) ++ m))) (sym (body-append xs (r ∷ ys)))
    ∙ ap (λ (k : ℕ). with_number 2 (front sum c) 18 (count + 1) ++ (directory 4096 (xs ++ r ∷ ys) ++ (zeros k ++ body (xs ++ r ∷ ys)))) (let q : 4096 - (32 + 4 * (length c.records + 1) + (stored_len c.records + size)) ≡ 4096 - (32 + 4 * length (xs ++ r ∷ ys) + stored_len (xs ++ r ∷ ys)) = omega (arith, more, larger, hc) in q)
    ∙ ap (λ (m : List ℕ). m ++ (directory 4096 (xs ++ r ∷ ys) ++ (zeros (4096 - (32 + 4 * length (xs ++ r ∷ ys) + stored_len (xs ++ r ∷ ys))) ++ body (xs ++ r ∷ ys)))) (ap (with_number 2 (front sum c) 18) (sym more) ∙ front_with_count sum c (xs ++ r ∷ ys))
    ∙ sym (flat sum (record c { records = xs ++ r ∷ ys }) none) in
    IsPageOf-bytes sum (record c { records = xs ++ r ∷ ys }) b6 small ok done

-- the bytes after a record was put in
pub inserted : (b b1 b2 b3 b4 b5 b6 : List ℕ) (at count low end size flags : ℕ) (bytes : List ℕ) → IsPage b → number_at 8 b 0 < 256 ^ 8 → at ≤ length (content_of b).records → HasRoom (content_of b) (length bytes) → count ≡ length (content_of b).records → size ≡ 1 + length bytes → low ≡ 4096 - stored_len (content_of b).records → end ≡ 4096 - stored_len (take at (content_of b).records) → b1 ≡ exchanged b (low - size) low end → b2 ≡ overwritten b1 (end - size) (flags ∷ bytes) → b3 ≡ exchanged b2 (32 + 4 * at) (32 + 4 * count) (32 + 4 * count + 4) → b4 ≡ overwritten b3 (32 + 4 * at) (bytes_of 2 (end - size) ++ bytes_of 2 size) → IsMoved b4 b5 (32 + 4 * at + 4) (count - at) (end - size) → b6 ≡ with_number 2 b5 18 (count + 1) → flags < 4 → IsPageOf b6 (with_record (content_of b) at (record { flags = flags; bytes = bytes }))
inserted b b1 b2 b3 b4 b5 b6 at count low end size flags bytes page small inside room hc hs hl he h1 h2 h3 h4 h5 h6 known =
    let c : Content = content_of b in
    let rs : List Record = c.records in
    let sum : ℕ = number_at 8 b 0 in
    insert_over b b1 b2 b3 b4 b5 b6 (number_at 8 b 0) (content_of b) (take at (content_of b).records) (drop at (content_of b).records) (record { flags = flags; bytes = bytes }) at count low end size
    page.content page.bytes small (sym (take-append-drop at (content_of b).records)) room (length-take-le at (content_of b).records inside) hc hs hl he h1 h2 h3 h4 h5 h6 known

purge_before : (f d1 a z d2 zg yy s xx : List ℕ) → f ++ ((d1 ++ (a ++ (z ++ d2))) ++ (zg ++ ((yy ++ s) ++ xx))) ≡ (f ++ (d1 ++ (a ++ (z ++ (d2 ++ zg))))) ++ (yy ++ (s ++ xx))
purge_before f d1 a z d2 zg yy s xx = simp append_assoc

purge_directory : (f d1 a z d2 zg zz yy xx : List ℕ) → (f ++ (d1 ++ (a ++ (z ++ (d2 ++ zg))))) ++ (zz ++ (yy ++ xx)) ≡ (f ++ d1) ++ ((a ++ z) ++ (d2 ++ (zg ++ (zz ++ (yy ++ xx)))))
purge_directory f d1 a z d2 zg zz yy xx = simp append_assoc

purge_last : (f d1 d2 az rest : List ℕ) → (f ++ d1) ++ (d2 ++ (az ++ rest)) ≡ ((f ++ d1) ++ d2) ++ (az ++ rest)
purge_last f d1 d2 az rest = simp append_assoc

purge_move : (f d1 d2 z4 rest : List ℕ) → ((f ++ d1) ++ d2) ++ (z4 ++ rest) ≡ (f ++ d1) ++ (d2 ++ (z4 ++ rest))
purge_move f d1 d2 z4 rest = simp append_assoc

purge_after : (f d1 d2 z4 zg zz yy xx : List ℕ) → (f ++ d1) ++ (d2 ++ (z4 ++ (zg ++ (zz ++ (yy ++ xx))))) ≡ f ++ ((d1 ++ d2) ++ ((z4 ++ (zg ++ zz)) ++ (yy ++ xx)))
purge_after f d1 d2 z4 zg zz yy xx = simp append_assoc

-- the steps of a purge, on lists
purge_lists : (b b1 b2 b3 b4 b5 b6 f d1 zg yy xx : List ℕ) (ys : List Record) (r : Record) (i count low start end e s z : ℕ) → b ≡ f ++ ((d1 ++ (bytes_of 2 s ++ (bytes_of 2 z ++ directory e ys))) ++ (zg ++ ((yy ++ stored r) ++ xx))) → length f ≡ 32 → length d1 ≡ 4 * i → i + 1 + length ys ≡ count → length zg + (32 + 4 * count) ≡ low → low + length yy ≡ start → start + size_of r ≡ end → stored_len ys < 256 ^ 2 → b1 ≡ exchanged b low start end → b2 ≡ overwritten b1 low (zeros (low + (end - start) - low)) → b3 ≡ exchanged b2 (32 + 4 * i) (32 + 4 * i + 4) (32 + 4 * count) → b4 ≡ overwritten b3 (32 + 4 * count - 4) (zeros (32 + 4 * count - (32 + 4 * count - 4))) → IsMoved b4 b5 (32 + 4 * i) (count - 1 - i) end → b6 ≡ with_number 2 b5 18 (count - 1) → b6 ≡ with_number 2 f 18 (count - 1) ++ ((d1 ++ directory end ys) ++ ((zeros 4 ++ (zg ++ zeros (size_of r))) ++ (yy ++ xx)))
purge_lists b b1 b2 b3 b4 b5 b6 f d1 zg yy xx ys r i count low start end e s z is hf hd hn hz hy hs few h1 h2 h3 h4 h5 h6 =
    let n2 : length (directory e ys) ≡ 4 * length ys = length-directory e ys in
    let a2 : length (bytes_of 2 s) ≡ 2 = length-bytes_of 2 s in
    let z2 : length (bytes_of 2 z) ≡ 2 = length-bytes_of 2 z in
    let front_len : length (f ++ (d1 ++ (bytes_of 2 s ++ (bytes_of 2 z ++ (directory e ys ++ zg))))) ≡ low =
    omega (arith, length-append f (d1 ++ (bytes_of 2 s ++ (bytes_of 2 z ++ (directory e ys ++ zg)))), length-append d1 (bytes_of 2 s ++ (bytes_of 2 z ++ (directory e ys ++ zg))), length-append (bytes_of 2 s) (bytes_of 2 z ++ (directory e ys ++ zg)), length-append (bytes_of 2 z) (directory e ys ++ zg), length-append (directory e ys) zg, n2, a2, z2, hf, hd, hn, hz) in
    let s1 : b1 ≡ (f ++ (d1 ++ (bytes_of 2 s ++ (bytes_of 2 z ++ (directory e ys ++ zg))))) ++ (stored r ++ (yy ++ xx)) =
    h1 ∙ ap (λ (m : List ℕ). exchanged m low start end) (is ∙ purge_before f d1 (bytes_of 2 s) (bytes_of 2 z) (directory e ys) zg yy (stored r) xx)
    ∙ exchanged-parts (f ++ (d1 ++ (bytes_of 2 s ++ (bytes_of 2 z ++ (directory e ys ++ zg))))) yy (stored r) xx low start end front_len hy (omega (arith, hs)) in
    let clear_len : low + (end - start) - low ≡ size_of r = omega (arith, hs) in
    let s2 : b2 ≡ (f ++ (d1 ++ (bytes_of 2 s ++ (bytes_of 2 z ++ (directory e ys ++ zg))))) ++ (zeros (size_of r) ++ (yy ++ xx)) =
    h2 ∙ ap (λ (k : ℕ). overwritten b1 low (zeros k)) clear_len ∙ ap (λ (m : List ℕ). overwritten m low (zeros (size_of r))) s1
    ∙ overwritten-part (f ++ (d1 ++ (bytes_of 2 s ++ (bytes_of 2 z ++ (directory e ys ++ zg))))) (stored r) (yy ++ xx) (zeros (size_of r)) low front_len (let q = length-zeros (size_of r) in omega (arith, q)) in
    let dir_len : length (f ++ d1) ≡ 32 + 4 * i = omega (arith, length-append f d1, hf, hd) in
    let rest : List ℕ = zg ++ (zeros (size_of r) ++ (yy ++ xx)) in
    let s3 : b3 ≡ (f ++ d1) ++ (directory e ys ++ ((bytes_of 2 s ++ bytes_of 2 z) ++ (zg ++ (zeros (size_of r) ++ (yy ++ xx))))) =
    h3 ∙ ap (λ (m : List ℕ). exchanged m (32 + 4 * i) (32 + 4 * i + 4) (32 + 4 * count)) (s2 ∙ purge_directory f d1 (bytes_of 2 s) (bytes_of 2 z) (directory e ys) zg (zeros (size_of r)) yy xx)
    ∙ exchanged-parts (f ++ d1) (bytes_of 2 s ++ bytes_of 2 z) (directory e ys) (zg ++ (zeros (size_of r) ++ (yy ++ xx))) (32 + 4 * i) (32 + 4 * i + 4) (32 + 4 * count) dir_len (omega (arith, length-append (bytes_of 2 s) (bytes_of 2 z), a2, z2)) (omega (arith, n2, hn)) in
    let four : 32 + 4 * count - (32 + 4 * count - 4) ≡ 4 = omega arith in
    let dir_end : length ((f ++ d1) ++ directory e ys) ≡ 32 + 4 * count - 4 = omega (arith, length-append (f ++ d1) (directory e ys), dir_len, n2, hn) in
    let s4 : b4 ≡ ((f ++ d1) ++ directory e ys) ++ (zeros 4 ++ (zg ++ (zeros (size_of r) ++ (yy ++ xx)))) =
    h4 ∙ ap (λ (k : ℕ). overwritten b3 (32 + 4 * count - 4) (zeros k)) four
    ∙ ap (λ (m : List ℕ). overwritten m (32 + 4 * count - 4) (zeros 4)) (s3 ∙ purge_last f d1 (directory e ys) (bytes_of 2 s ++ bytes_of 2 z) (zg ++ (zeros (size_of r) ++ (yy ++ xx))))
    ∙ overwritten-part ((f ++ d1) ++ directory e ys) (bytes_of 2 s ++ bytes_of 2 z) (zg ++ (zeros (size_of r) ++ (yy ++ xx))) (zeros 4) (32 + 4 * count - 4) dir_end (let q = length-zeros 4 in omega (arith, length-append (bytes_of 2 s) (bytes_of 2 z), a2, z2, q)) in
    let s5 : b5 ≡ f ++ ((d1 ++ directory end ys) ++ ((zeros 4 ++ (zg ++ zeros (size_of r))) ++ (yy ++ xx))) =
    h5 (f ++ d1) ys e (zeros 4 ++ (zg ++ (zeros (size_of r) ++ (yy ++ xx)))) (s4 ∙ purge_move f d1 (directory e ys) (zeros 4) (zg ++ (zeros (size_of r) ++ (yy ++ xx)))) dir_len (omega (arith, hn)) few
    ∙ purge_after f d1 (directory end ys) (zeros 4) zg (zeros (size_of r)) yy xx in
    h6 ∙ ap (λ (m : List ℕ). with_number 2 m 18 (count - 1)) s5
    ∙ with_number-front 2 f ((d1 ++ directory end ys) ++ ((zeros 4 ++ (zg ++ zeros (size_of r))) ++ (yy ++ xx))) 18 (count - 1) (omega (arith, hf))

All-without : (P : Record → Type 0) (rs xs ys : List Record) (r : Record) → rs ≡ xs ++ r ∷ ys → All P rs → All P (xs ++ ys)
All-without P rs xs ys r e all =
    let both : All P (xs ++ r ∷ ys) = All-same P (xs ++ r ∷ ys) rs (sym e) all in
    let front : All P xs = All-same P xs (take (length xs) (xs ++ r ∷ ys)) (sym (take_at xs (r ∷ ys) (length xs) refl)) (All-take P (length xs) (xs ++ r ∷ ys) both) in
    let back : All P (r ∷ ys) = All-same P (r ∷ ys) (drop (length xs) (xs ++ r ∷ ys)) (sym (drop_at xs (r ∷ ys) (length xs) refl)) (All-drop P (length xs) (xs ++ r ∷ ys) both) in
    All-append P xs ys front (All-tail P r ys back)

purge_over : (b b1 b2 b3 b4 b5 b6 : List ℕ) (sum : ℕ) (c : Content) (xs ys : List Record) (r : Record) (i count low start end : ℕ) → IsContent c → b ≡ page_bytes sum c → sum < 256 ^ 8 → c.records ≡ xs ++ r ∷ ys → length xs ≡ i → count ≡ length c.records → low ≡ 4096 - stored_len c.records → start ≡ 4096 - (stored_len xs + size_of r) → end ≡ 4096 - stored_len xs → b1 ≡ exchanged b low start end → b2 ≡ overwritten b1 low (zeros (low + (end - start) - low)) → b3 ≡ exchanged b2 (32 + 4 * i) (32 + 4 * i + 4) (32 + 4 * count) → b4 ≡ overwritten b3 (32 + 4 * count - 4) (zeros (32 + 4 * count - (32 + 4 * count - 4))) → IsMoved b4 b5 (32 + 4 * i) (count - 1 - i) end → b6 ≡ with_number 2 b5 18 (count - 1) → IsPageOf b6 (record c { records = xs ++ ys })
purge_over b b1 b2 b3 b4 b5 b6 sum c xs ys r i count low start end h is small parts hx hc hl hs he h1 h2 h3 h4 h5 h6 =
    let count_is : length c.records ≡ length xs + (1 + length ys) = ap length parts ∙ length-append xs (r ∷ ys) ∙ (let q : length xs + length (r ∷ ys) ≡ length xs + (1 + length ys) = omega arith in q) in
    let isnt : c.kind ≢ Control = λ e. let q = h.kind.no_records e in omega (arith, q, count_is) in
    let none : c.control ≡ [] = nil_from_length c.control (h.kind.no_own_bytes isnt) in
    let fit = h.room in
    let total : stored_len c.records ≡ stored_len xs + (size_of r + stored_len ys) = ap stored_len parts ∙ stored_len-append xs (r ∷ ys) in
    let place : 4096 - stored_len xs - size_of r ≡ start = omega (arith, hs) in
    let first : b ≡ front sum c ++ ((directory 4096 xs ++ (bytes_of 2 (4096 - stored_len xs - size_of r) ++ (bytes_of 2 (size_of r) ++ directory (4096 - stored_len xs - size_of r) ys))) ++ (zeros (4096 - (32 + 4 * length c.records + stored_len c.records)) ++ ((body ys ++ stored r) ++ body xs))) =
    is ∙ flat sum c none
    ∙ ap (λ (m : List ℕ). front sum c ++ (m ++ (zeros (4096 - (32 + 4 * length c.records + stored_len c.records)) ++ body c.records))) (ap (directory 4096) parts ∙ directory-append 4096 xs (r ∷ ys))
    ∙ ap (λ (m : List ℕ). front sum c ++ ((directory 4096 xs ++ directory (4096 - stored_len xs) (r ∷ ys)) ++ (zeros (4096 - (32 + 4 * length c.records + stored_len c.records)) ++ m))) (ap body parts ∙ body-append xs (r ∷ ys)) in
    let steps = purge_lists b b1 b2 b3 b4 b5 b6 (front sum c) (directory 4096 xs) (zeros (4096 - (32 + 4 * length c.records + stored_len c.records))) (body ys) (body xs) ys r i count low start end (4096 - stored_len xs - size_of r) (4096 - stored_len xs - size_of r) (size_of r)
    first (length-front sum c) (length-directory 4096 xs ∙ ap (λ (k : ℕ). 4 * k) hx) (omega (arith, hc, hx, count_is)) (let q = length-zeros (4096 - (32 + 4 * length c.records + stored_len c.records)) in omega (arith, q, fit, hl, hc)) (let q = length-body ys in omega (arith, q, hl, hs, total, fit)) (omega (arith, hs, he, total, fit)) (omega (arith, total, fit)) h1 h2 h3 h4 h5 h6 in
    let fewer : length (xs ++ ys) ≡ count - 1 = omega (arith, length-append xs ys, hc, count_is) in
    let smaller : stored_len (xs ++ ys) + size_of r ≡ stored_len c.records = omega (arith, stored_len-append xs ys, total) in
    let ok : IsContent (record c { records = xs ++ ys }) = IsContent-records c (xs ++ ys) h isnt (omega (arith, fewer, smaller, fit, hc)) (All-without (λ (x : Record). x.flags < 4) c.records xs ys r parts h.flags) in
    let joined : zeros 4 ++ (zeros (4096 - (32 + 4 * length c.records + stored_len c.records)) ++ zeros (size_of r)) ≡ zeros (4096 - (32 + 4 * length (xs ++ ys) + stored_len (xs ++ ys))) =
    ap (λ (m : List ℕ). zeros 4 ++ m) (zeros-append (4096 - (32 + 4 * length c.records + stored_len c.records)) (size_of r))
    ∙ zeros-append 4 ((4096 - (32 + 4 * length c.records + stored_len c.records)) + size_of r)
    ∙ ap zeros (let q : 4 + ((4096 - (32 + 4 * length c.records + stored_len c.records)) + size_of r) ≡ 4096 - (32 + 4 * length (xs ++ ys) + stored_len (xs ++ ys)) = omega (arith, fewer, smaller, fit, hc, count_is) in q) in
    let done : b6 ≡ page_bytes sum (record c { records = xs ++ ys }) =
    steps
    ∙ ap (λ (k : ℕ). with_number 2 (front sum c) 18 (count - 1) ++ ((directory 4096 xs ++ directory k ys) ++ ((zeros 4 ++ (zeros (4096 - (32 + 4 * length c.records + stored_len c.records)) ++ zeros (size_of r))) ++ (body ys ++ body xs)))) he
    ∙ ap (λ (m : List ℕ). with_number 2 (front sum c) 18 (count - 1) ++ ((directory 4096 xs ++ directory (4096 - stored_len xs) ys) ++ (m ++ (body ys ++ body xs)))) joined
    ∙ ap (λ (m : List ℕ). with_number 2 (front sum c) 18 (count - 1) ++ (m ++ (zeros (4096 - (32 + 4 * length (xs ++ ys) + stored_len (xs ++ ys))) ++ (body ys ++ body xs)))) (sym (directory-append 4096 xs ys))
    ∙ ap (λ (m : List ℕ). with_number 2 (front sum c) 18 (count - 1) ++ (directory 4096 (xs ++ ys) ++ (zeros (4096 - (32 + 4 * length (xs ++ ys) + stored_len (xs ++ ys))) ++ m))) (sym (body-append xs ys))
    ∙ ap (λ (m : List ℕ). m ++ (directory 4096 (xs ++ ys) ++ (zeros (4096 - (32 + 4 * length (xs ++ ys) + stored_len (xs ++ ys))) ++ body (xs ++ ys)))) (ap (with_number 2 (front sum c) 18) (sym fewer) ∙ front_with_count sum c (xs ++ ys))
    ∙ sym (flat sum (record c { records = xs ++ ys }) none) in
    IsPageOf-bytes sum (record c { records = xs ++ ys }) b6 small ok done

-- the bytes after a record was taken away
pub purged : (b b1 b2 b3 b4 b5 b6 : List ℕ) (i count low start end : ℕ) → IsPage b → number_at 8 b 0 < 256 ^ 8 → i < length (content_of b).records → count ≡ length (content_of b).records → low ≡ 4096 - stored_len (content_of b).records → start ≡ 4096 - stored_len (take (i + 1) (content_of b).records) → end ≡ 4096 - stored_len (take i (content_of b).records) → b1 ≡ exchanged b low start end → b2 ≡ overwritten b1 low (zeros (low + (end - start) - low)) → b3 ≡ exchanged b2 (32 + 4 * i) (32 + 4 * i + 4) (32 + 4 * count) → b4 ≡ overwritten b3 (32 + 4 * count - 4) (zeros (32 + 4 * count - (32 + 4 * count - 4))) → IsMoved b4 b5 (32 + 4 * i) (count - 1 - i) end → b6 ≡ with_number 2 b5 18 (count - 1) → IsPageOf b6 (without_record (content_of b) i)
purged b b1 b2 b3 b4 b5 b6 i count low start end page small inside hc hl hs he h1 h2 h3 h4 h5 h6 =
    let d : Record = record_at (content_of b) i in
    purge_over b b1 b2 b3 b4 b5 b6 (number_at 8 b 0) (content_of b) (take i (content_of b).records) (drop (i + 1) (content_of b).records) (record_at (content_of b) i) i count low start end
    page.content page.bytes small (split_at (content_of b).records i (record { flags = 0; bytes = [] }) inside) (length-take-le i (content_of b).records (omega arith)) hc hl (hs ∙ ap (λ (k : ℕ). 4096 - k) (stored_len-more (content_of b).records i (record { flags = 0; bytes = [] }) inside)) he h1 h2 h3 h4 h5 h6

focus_lists : (f d z yy s xx : List ℕ) → f ++ (d ++ (z ++ ((yy ++ s) ++ xx))) ≡ (f ++ (d ++ (z ++ yy))) ++ (s ++ xx)
focus_lists f d z yy s xx = simp append_assoc

-- a page's bytes round one record
pub record IsAround (b : List ℕ) (sum : ℕ) (c : Content) (i : ℕ) (before after : List ℕ) : Type 0 where
  pub bytes : b ≡ before ++ (stored (record_at c i) ++ after)
  pub place : length before ≡ 4096 - stored_len (take (i + 1) c.records)
  pub length_after : length after ≡ stored_len (take i c.records)
  pub changed : (r : Record) (new : List ℕ) → length r.bytes ≡ length (record_at c i).bytes → r.flags < 4 → new ≡ before ++ (stored r ++ after) → IsPageOf new (with_changed c i r)

pub around_front : ℕ → Content → ℕ → List ℕ
around_front sum c i = front sum c ++ (directory 4096 c.records ++ (zeros (4096 - (32 + 4 * length c.records + stored_len c.records)) ++ body (drop (i + 1) c.records)))

pub IsAround-page : (b : List ℕ) (sum : ℕ) (c : Content) (i : ℕ) → IsContent c → b ≡ page_bytes sum c → sum < 256 ^ 8 → i < length c.records → IsAround b sum c i (around_front sum c i) (body (take i c.records))
unfolding around_front
IsAround-page b sum c i h is small inside =
    let blank : Record = record { flags = 0; bytes = [] } in
    let xs : List Record = take i c.records in
    let ys : List Record = drop (i + 1) c.records in
    let r0 : Record = record_at c i in
    let parts : c.records ≡ take i c.records ++ record_at c i ∷ drop (i + 1) c.records = split_at c.records i (record { flags = 0; bytes = [] }) inside in
    let isnt : c.kind ≢ Control = λ e. let q = h.kind.no_records e in omega (arith, q) in
    let none : c.control ≡ [] = nil_from_length c.control (h.kind.no_own_bytes isnt) in
    let fit = h.room in
    let more = stored_len-more c.records i (record { flags = 0; bytes = [] }) inside in
    let total : stored_len c.records ≡ stored_len (take i c.records) + (size_of (record_at c i) + stored_len (drop (i + 1) c.records)) = ap stored_len parts ∙ stored_len-append (take i c.records) (record_at c i ∷ drop (i + 1) c.records) in
    record {
      bytes =
          is ∙ flat sum c none
          ∙ ap (λ (m : List ℕ). front sum c ++ (directory 4096 c.records ++ (zeros (4096 - (32 + 4 * length c.records + stored_len c.records)) ++ m))) (ap body parts ∙ body-append (take i c.records) (record_at c i ∷ drop (i + 1) c.records))
          ∙ focus_lists (front sum c) (directory 4096 c.records) (zeros (4096 - (32 + 4 * length c.records + stored_len c.records))) (body (drop (i + 1) c.records)) (stored (record_at c i)) (body (take i c.records));
      place =
          omega (arith, length-append (front sum c) (directory 4096 c.records ++ (zeros (4096 - (32 + 4 * length c.records + stored_len c.records)) ++ body (drop (i + 1) c.records))), length-append (directory 4096 c.records) (zeros (4096 - (32 + 4 * length c.records + stored_len c.records)) ++ body (drop (i + 1) c.records)), length-append (zeros (4096 - (32 + 4 * length c.records + stored_len c.records))) (body (drop (i + 1) c.records)), length-front sum c, length-directory 4096 c.records, length-zeros (4096 - (32 + 4 * length c.records + stored_len c.records)), length-body (drop (i + 1) c.records), total, more, fit);
      length_after = length-body (take i c.records);
      changed = λ r new same known e.
          let rs : List Record = take i c.records ++ r ∷ drop (i + 1) c.records in
          let count : length (take i c.records ++ r ∷ drop (i + 1) c.records) ≡ length c.records =
          omega (arith, ap length parts, length-append (take i c.records) (r ∷ drop (i + 1) c.records), length-append (take i c.records) (record_at c i ∷ drop (i + 1) c.records)) in
          let len : stored_len (take i c.records ++ r ∷ drop (i + 1) c.records) ≡ stored_len c.records = omega (arith, stored_len-append (take i c.records) (r ∷ drop (i + 1) c.records), total, same) in
          let size : size_of r ≡ size_of (record_at c i) = omega (arith, same) in
          let dir : directory 4096 c.records ≡ directory 4096 (take i c.records ++ r ∷ drop (i + 1) c.records) =
          ap (directory 4096) parts ∙ directory-append 4096 (take i c.records) (record_at c i ∷ drop (i + 1) c.records)
          ∙ ap (λ (k : ℕ). directory 4096 (take i c.records) ++ (bytes_of 2 (4096 - stored_len (take i c.records) - k) ++ (bytes_of 2 k ++ directory (4096 - stored_len (take i c.records) - k) (drop (i + 1) c.records)))) (sym size)
          ∙ sym (directory-append 4096 (take i c.records) (r ∷ drop (i + 1) c.records)) in
          let ok : IsContent (record c { records = take i c.records ++ r ∷ drop (i + 1) c.records }) =
          IsContent-records c (take i c.records ++ r ∷ drop (i + 1) c.records) h isnt (omega (arith, count, len, fit))
          (All-insert (λ (x : Record). x.flags < 4) (take i c.records ++ drop (i + 1) c.records) (take i c.records) (drop (i + 1) c.records) r refl (All-without (λ (x : Record). x.flags < 4) c.records (take i c.records) (drop (i + 1) c.records) (record_at c i) parts h.flags) known) in
          let done : new ≡ page_bytes sum (record c { records = take i c.records ++ r ∷ drop (i + 1) c.records }) =
          e ∙ sym (focus_lists (front sum c) (directory 4096 c.records) (zeros (4096 - (32 + 4 * length c.records + stored_len c.records))) (body (drop (i + 1) c.records)) (stored r) (body (take i c.records)))
          ∙ ap (λ (m : List ℕ). front sum c ++ (m ++ (zeros (4096 - (32 + 4 * length c.records + stored_len c.records)) ++ (body (r ∷ drop (i + 1) c.records) ++ body (take i c.records))))) dir
          ∙ ap (λ (k : ℕ). front sum c ++ (directory 4096 (take i c.records ++ r ∷ drop (i + 1) c.records) ++ (zeros k ++ (body (r ∷ drop (i + 1) c.records) ++ body (take i c.records))))) (let q : 4096 - (32 + 4 * length c.records + stored_len c.records) ≡ 4096 - (32 + 4 * length (take i c.records ++ r ∷ drop (i + 1) c.records) + stored_len (take i c.records ++ r ∷ drop (i + 1) c.records)) = omega (arith, count, len) in q)
          ∙ ap (λ (m : List ℕ). front sum c ++ (directory 4096 (take i c.records ++ r ∷ drop (i + 1) c.records) ++ (zeros (4096 - (32 + 4 * length (take i c.records ++ r ∷ drop (i + 1) c.records) + stored_len (take i c.records ++ r ∷ drop (i + 1) c.records))) ++ m))) (sym (body-append (take i c.records) (r ∷ drop (i + 1) c.records)))
          ∙ ap (λ (m : List ℕ). m ++ (directory 4096 (take i c.records ++ r ∷ drop (i + 1) c.records) ++ (zeros (4096 - (32 + 4 * length (take i c.records ++ r ∷ drop (i + 1) c.records) + stored_len (take i c.records ++ r ∷ drop (i + 1) c.records))) ++ body (take i c.records ++ r ∷ drop (i + 1) c.records)))) (sym (front_same sum c (take i c.records ++ r ∷ drop (i + 1) c.records) count))
          ∙ sym (flat sum (record c { records = take i c.records ++ r ∷ drop (i + 1) c.records }) none) in
          IsPageOf-bytes sum (record c { records = take i c.records ++ r ∷ drop (i + 1) c.records }) new small ok done;
    }

mark_lists : (p s xx : List ℕ) (f : ℕ) → p ++ ((f ∷ s) ++ xx) ≡ p ++ ((f ∷ []) ++ (s ++ xx))
mark_lists p s xx f = refl

set_lists : (p s xx : List ℕ) (f : ℕ) → p ++ ((f ∷ s) ++ xx) ≡ (p ++ (f ∷ [])) ++ (s ++ xx)
set_lists p s xx f = sym (append_assoc p (f ∷ []) (s ++ xx))

-- the bytes after a record's flags were written
pub marked : (b new : List ℕ) (i at flags : ℕ) → IsPage b → number_at 8 b 0 < 256 ^ 8 → i < length (content_of b).records → at ≡ 4096 - stored_len (take (i + 1) (content_of b).records) → flags < 4 → new ≡ overwritten b at (flags ∷ []) → IsPageOf new (with_changed (content_of b) i (record (record_at (content_of b) i) { flags = flags }))
marked b new i at flags page small inside place known wrote =
    let c : Content = content_of b in
    let r : Record = record_at (content_of b) i in
    let p : List ℕ = around_front (number_at 8 b 0) (content_of b) i in
    let xx : List ℕ = body (take i (content_of b).records) in
    let round = IsAround-page b (number_at 8 b 0) (content_of b) i page.content page.bytes small inside in
    round.changed (record (record_at (content_of b) i) { flags = flags }) new refl known
    (wrote ∙ ap (λ (m : List ℕ). overwritten m at (flags ∷ [])) round.bytes
    ∙ overwritten-part (around_front (number_at 8 b 0) (content_of b) i) ((record_at (content_of b) i).flags ∷ []) ((record_at (content_of b) i).bytes ++ body (take i (content_of b).records)) (flags ∷ []) at (round.place ∙ sym place) refl)

-- the bytes after a record's bytes were written
pub written : (b new bytes : List ℕ) (i at : ℕ) → IsPage b → number_at 8 b 0 < 256 ^ 8 → i < length (content_of b).records → at ≡ 4096 - stored_len (take (i + 1) (content_of b).records) → length bytes ≡ length (record_at (content_of b) i).bytes → new ≡ overwritten b (at + 1) bytes → IsPageOf new (with_changed (content_of b) i (record (record_at (content_of b) i) { bytes = bytes }))
written b new bytes i at page small inside place same wrote =
    let r : Record = record_at (content_of b) i in
    let round = IsAround-page b (number_at 8 b 0) (content_of b) i page.content page.bytes small inside in
    round.changed (record (record_at (content_of b) i) { bytes = bytes }) new same (All-get_or (λ (x : Record). x.flags < 4) (content_of b).records i (record { flags = 0; bytes = [] }) inside page.content.flags)
    (wrote ∙ ap (λ (m : List ℕ). overwritten m (at + 1) bytes) (round.bytes ∙ set_lists (around_front (number_at 8 b 0) (content_of b) i) (record_at (content_of b) i).bytes (body (take i (content_of b).records)) (record_at (content_of b) i).flags)
    ∙ overwritten-part (around_front (number_at 8 b 0) (content_of b) i ++ ((record_at (content_of b) i).flags ∷ [])) (record_at (content_of b) i).bytes (body (take i (content_of b).records)) bytes (at + 1) (omega (arith, length-append (around_front (number_at 8 b 0) (content_of b) i) ((record_at (content_of b) i).flags ∷ []), round.place, place)) (sym same)
    ∙ sym (set_lists (around_front (number_at 8 b 0) (content_of b) i) bytes (body (take i (content_of b).records)) (record_at (content_of b) i).flags))

-- the record at a place, as its bytes stand
pub item_read : (b : List ℕ) (i start end : ℕ) → IsPage b → number_at 8 b 0 < 256 ^ 8 → i < length (content_of b).records → start ≡ 4096 - stored_len (take (i + 1) (content_of b).records) → end ≡ 4096 - stored_len (take i (content_of b).records) → take (end - (start + 1)) (drop (start + 1) b) ≡ (record_at (content_of b) i).bytes
item_read b i start end page small inside hs he =
    let r : Record = record_at (content_of b) i in
    let round = IsAround-page b (number_at 8 b 0) (content_of b) i page.content page.bytes small inside in
    let p : List ℕ = around_front (number_at 8 b 0) (content_of b) i ++ ((record_at (content_of b) i).flags ∷ []) in
    let n : length (around_front (number_at 8 b 0) (content_of b) i ++ ((record_at (content_of b) i).flags ∷ [])) ≡ start + 1 = omega (arith, length-append (around_front (number_at 8 b 0) (content_of b) i) ((record_at (content_of b) i).flags ∷ []), round.place, hs) in
    let here : drop (start + 1) b ≡ (record_at (content_of b) i).bytes ++ body (take i (content_of b).records) =
    ap (drop (start + 1)) (round.bytes ∙ set_lists (around_front (number_at 8 b 0) (content_of b) i) (record_at (content_of b) i).bytes (body (take i (content_of b).records)) (record_at (content_of b) i).flags)
    ∙ drop_at (around_front (number_at 8 b 0) (content_of b) i ++ ((record_at (content_of b) i).flags ∷ [])) ((record_at (content_of b) i).bytes ++ body (take i (content_of b).records)) (start + 1) n in
    let all = stored_len-take (content_of b).records (i + 1) in
    let len : length (record_at (content_of b) i).bytes ≡ end - (start + 1) = omega (arith, hs, he, all, page.content.room, stored_len-more (content_of b).records i (record { flags = 0; bytes = [] }) inside) in
    ap (take (end - (start + 1))) here ∙ take_at (record_at (content_of b) i).bytes (body (take i (content_of b).records)) (end - (start + 1)) len

pub flags_read : (b : List ℕ) (i start : ℕ) → IsPage b → number_at 8 b 0 < 256 ^ 8 → i < length (content_of b).records → start ≡ 4096 - stored_len (take (i + 1) (content_of b).records) → slice_index b start ≡ (record_at (content_of b) i).flags
flags_read b i start page small inside hs =
    let round = IsAround-page b (number_at 8 b 0) (content_of b) i page.content page.bytes small inside in
    let there : start + 0 ≡ start = omega arith in
    ap (slice_index b) (sym there) ∙ ap (λ (m : List ℕ). slice_index m (start + 0)) round.bytes
    ∙ byte_skip (around_front (number_at 8 b 0) (content_of b) i) (stored (record_at (content_of b) i) ++ body (take i (content_of b).records)) start 0 (round.place ∙ sym hs)

-- the end of a page, below its records
pub take_whole : (rs : List Record) → take (length rs) rs ≡ rs
take_whole rs = take_all (length rs) rs (omega arith)

-- where the last record starts, by a count that the code read
pub low_is : (rs : List Record) (count low : ℕ) → count ≡ length rs → low ≡ 4096 - stored_len (take count rs) → low ≡ 4096 - stored_len rs
low_is rs count low hc h = h ∙ ap (λ (s : List Record). 4096 - stored_len s) (take_all count rs (omega arith))

-- a record's start and end, within the page
pub record IsWithin (b : List ℕ) (i start end low : ℕ) : Type 0 where
  pub ordered : start + size_of (record_at (content_of b) i) ≡ end
  pub above : low ≤ start
  pub inside : end ≤ 4096
  pub free : 32 + 4 * length (content_of b).records ≤ low

pub IsWithin-page : (b : List ℕ) (i start end low : ℕ) → IsPage b → i < length (content_of b).records → start ≡ 4096 - stored_len (take (i + 1) (content_of b).records) → end ≡ 4096 - stored_len (take i (content_of b).records) → low ≡ 4096 - stored_len (content_of b).records → IsWithin b i start end low
IsWithin-page b i start end low page inside hs he hl =
    let more = stored_len-more (content_of b).records i (record { flags = 0; bytes = [] }) inside in
    let all = stored_len-take (content_of b).records (i + 1) in
    let room = page.content.room in
    record { ordered = omega (arith, hs, he, more, all, room); above = omega (arith, hs, hl, all); inside = omega (arith, he); free = omega (arith, hl, room) }

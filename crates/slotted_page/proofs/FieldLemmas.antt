-- A page's bytes after a field of the first 32 bytes was written.
use Rattle.std.proofs.Common.{◌≡◌, ◌≢◌, ◌+◌, ◌-◌, ◌*◌, ◌^◌, ◌≤◌, ◌<◌, ℕ, List, [], ◌∷◌, ◌++◌, length, drop, slice_index, refl, sym, ap, ◌∙◌, arith, append-nil, append_assoc, length-append}
use Rattle.std.proofs.lemmas.List.{drop_at, replicate-append-replicate}
use Rattle.std.proofs.lemmas.List.Elements.{All-nil}
use Rattle.dby_types.specs.declared.number.PageId.{PageId}
use Rattle.dby_types.specs.declared.number.Lsn.{Lsn}
use Rattle.dby_bytes.specs.Numbers.{bytes_of, number_at, with_number}
use Rattle.dby_bytes.proofs.NumbersLemmas.{length-bytes_of, with_number-append}
use Rattle.dby_bytes.proofs.PartsLemmas.{with_number-front}
use Rattle.slotted_page.specs.declared.kind.Kind.{Kind}
use Rattle.slotted_page.specs.declared.kind.Kind.TheVariants.{Control, Allocation, Heap, Leaf, Branch}
use Rattle.slotted_page.specs.Content.{Content, Record, IsContent, IsOfKind, HasRoom, stored_len, own_bytes, empty_page}
use Rattle.slotted_page.specs.Layout.{kind_byte, kind_of, zeros, front, page_bytes, content_of, IsPage, IsPageOf}
use Rattle.slotted_page.specs.Sum.{digest_of, right_sum}
use Rattle.slotted_page.specs.Edits.{overwritten}
use Rattle.slotted_page.proofs.LayoutLemmas.{length-zeros}
use Rattle.slotted_page.proofs.FrontLemmas.{length-front, front_with_sum, front_with_segment, front_with_offset, front_with_right}
use Rattle.slotted_page.proofs.PageLemmas.{behind_front, IsPageOf-bytes, kind_read, zero_is_control}
use Rattle.slotted_page.proofs.EditLemmas.{overwritten-part}

-- a field of the first bytes that is written leaves what is behind them
field_written : (n at v sum : ℕ) (c : Content) (b : List ℕ) → at + n ≤ 32 → b ≡ page_bytes sum c → with_number n b at v ≡ with_number n (front sum c) at v ++ behind_front c
field_written n at v sum c b h is =
    ap (λ (m : List ℕ). with_number n m at v) is ∙ with_number-front n (front sum c) (behind_front c) at v (omega (arith, length-front sum c))

pub lsn_written : (b b1 b2 : List ℕ) (l : Lsn) → IsPage b → number_at 8 b 0 < 256 ^ 8 → l.segment < 256 ^ 4 → l.offset < 256 ^ 4 → b1 ≡ with_number 4 b 20 l.segment → b2 ≡ with_number 4 b1 24 l.offset → IsPageOf b2 (record (content_of b) { lsn = l })
lsn_written b b1 b2 l page small hs ho e1 e2 =
    let c : Content = content_of b in
    let h = page.content in
    let d : Content = record (content_of b) { lsn = record (content_of b).lsn { segment = l.segment } } in
    let one : b1 ≡ page_bytes (number_at 8 b 0) (record (content_of b) { lsn = record (content_of b).lsn { segment = l.segment } }) =
    e1 ∙ field_written 4 20 l.segment (number_at 8 b 0) (content_of b) b (omega arith) page.bytes
    ∙ ap (λ (m : List ℕ). m ++ behind_front (content_of b)) (front_with_segment (number_at 8 b 0) l.segment (content_of b)) in
    let two : b2 ≡ page_bytes (number_at 8 b 0) (record (content_of b) { lsn = l }) =
    e2 ∙ field_written 4 24 l.offset (number_at 8 b 0) (record (content_of b) { lsn = record (content_of b).lsn { segment = l.segment } }) b1 (omega arith) one
    ∙ ap (λ (m : List ℕ). m ++ behind_front (content_of b)) (front_with_offset (number_at 8 b 0) l.offset (record (content_of b) { lsn = record (content_of b).lsn { segment = l.segment } })) in
    IsPageOf-bytes (number_at 8 b 0) (record (content_of b) { lsn = l }) b2 small
    (record { fields = record { container = h.fields.container; page = h.fields.page; segment = hs; offset = ho; right = h.fields.right }; kind = h.kind; room = h.room; flags = h.flags }) two

pub right_written : (b b1 : List ℕ) (p : ℕ) → IsPage b → number_at 8 b 0 < 256 ^ 8 → p < 256 ^ 4 → b1 ≡ with_number 4 b 28 p → IsPageOf b1 (record (content_of b) { right = p })
right_written b b1 p page small hp e =
    let h = page.content in
    IsPageOf-bytes (number_at 8 b 0) (record (content_of b) { right = p }) b1 small
    (record { fields = record { container = h.fields.container; page = h.fields.page; segment = h.fields.segment; offset = h.fields.offset; right = hp }; kind = h.kind; room = h.room; flags = h.flags })
    (e ∙ field_written 4 28 p (number_at 8 b 0) (content_of b) b (omega arith) page.bytes
    ∙ ap (λ (m : List ℕ). m ++ behind_front (content_of b)) (front_with_right (number_at 8 b 0) p (content_of b)))

pub sum_written : (b b1 : List ℕ) (v : ℕ) → IsPage b → v < 256 ^ 8 → b1 ≡ with_number 8 b 0 v → IsPageOf b1 (content_of b)
sum_written b b1 v page small e =
    IsPageOf-bytes v (content_of b) b1 small page.content
    (e ∙ field_written 8 0 v (number_at 8 b 0) (content_of b) b (omega arith) page.bytes
    ∙ ap (λ (m : List ℕ). m ++ behind_front (content_of b)) (front_with_sum (number_at 8 b 0) v (content_of b)))

-- the bytes that the sum is made of aren't those of the sum
pub right_sum-written : (b b1 : List ℕ) (v : ℕ) → b1 ≡ with_number 8 b 0 v → right_sum b1 ≡ right_sum b
unfolding with_number
right_sum-written b b1 v e =
    ap (λ (m : List ℕ). number_at 8 (digest_of m) 0) (ap (drop 8) e ∙ drop_at (bytes_of 8 v) (drop 8 b) 8 (length-bytes_of 8 v))

zeros_split : (m n : ℕ) → zeros (m + n) ≡ zeros m ++ zeros n
unfolding zeros
zeros_split m n = sym (replicate-append-replicate m n 0)

eight_zeros : bytes_of 8 0 ≡ zeros 8
unfolding bytes_of zeros
eight_zeros = refl

four_zeros : bytes_of 4 0 ≡ zeros 4
unfolding bytes_of zeros
four_zeros = refl

two_zeros : bytes_of 2 0 ≡ zeros 2
unfolding bytes_of zeros
two_zeros = refl

one_zero : 0 ∷ [] ≡ zeros 1
unfolding zeros
one_zero = refl

own_zeros : own_bytes Control ≡ zeros 16
unfolding zeros
own_zeros = refl

-- what is behind the first bytes of an empty page
rest_zeros : (k : Kind) → own_bytes k ++ (zeros (4096 - (32 + length (own_bytes k) + 4 * 0 + 0)) ++ []) ≡ zeros 4064
rest_zeros Control = ap (λ (m : List ℕ). own_bytes Control ++ m) (append-nil (zeros 4048)) ∙ ap (λ (m : List ℕ). m ++ zeros 4048) own_zeros ∙ sym (zeros_split 16 4048)
rest_zeros Allocation = append-nil (zeros 4064)
rest_zeros Heap = append-nil (zeros 4064)
rest_zeros Leaf = append-nil (zeros 4064)
rest_zeros Branch = append-nil (zeros 4064)

empty_kind : (k : Kind) → IsOfKind k (own_bytes k) []
empty_kind Control = record { own_bytes = λ e. refl; no_records = λ e. refl; no_own_bytes = λ h. absurd (h refl) }
empty_kind Allocation = record { own_bytes = λ e. let f : Allocation ≡ Control = e in cc; no_records = λ e. refl; no_own_bytes = λ h. refl }
empty_kind Heap = record { own_bytes = λ e. let f : Heap ≡ Control = e in cc; no_records = λ e. refl; no_own_bytes = λ h. refl }
empty_kind Leaf = record { own_bytes = λ e. let f : Leaf ≡ Control = e in cc; no_records = λ e. refl; no_own_bytes = λ h. refl }
empty_kind Branch = record { own_bytes = λ e. let f : Branch ≡ Control = e in cc; no_records = λ e. refl; no_own_bytes = λ h. refl }

empty_room : (k : Kind) → 32 + length (own_bytes k) + 4 * 0 + 0 ≤ 4096
empty_room Control = omega arith
empty_room Allocation = omega arith
empty_room Heap = omega arith
empty_room Leaf = omega arith
empty_room Branch = omega arith

pub IsContent-empty : (id : PageId) (k : Kind) → id.container < 256 ^ 4 → id.page < 256 ^ 4 → IsContent (empty_page id k)
IsContent-empty id k hc hp =
    record {
      fields = record { container = hc; page = hp; segment = omega arith; offset = omega arith; right = omega arith };
      kind = empty_kind k;
      room = empty_room k;
      flags = All-nil (λ (r : Record). r.flags < 4);
    }

spread : (z8 a p kz z2 z4 rest : List ℕ) → ((z8 ++ a) ++ p) ++ (kz ++ (z2 ++ (z4 ++ (z4 ++ (z4 ++ rest))))) ≡ (z8 ++ (a ++ (p ++ (kz ++ (z2 ++ (z4 ++ (z4 ++ z4))))))) ++ rest
spread z8 a p kz z2 z4 rest = simp append_assoc

front_empty : (id : PageId) (k : Kind) → front 0 (empty_page id k) ≡ zeros 8 ++ (bytes_of 4 id.container ++ (bytes_of 4 id.page ++ ((kind_byte k ∷ 0 ∷ []) ++ (zeros 2 ++ (zeros 4 ++ (zeros 4 ++ zeros 4))))))
unfolding front
front_empty id k =
    ap (λ (m : List ℕ). m ++ (bytes_of 4 id.container ++ (bytes_of 4 id.page ++ ((kind_byte k ∷ 0 ∷ []) ++ (bytes_of 2 0 ++ (bytes_of 4 0 ++ (bytes_of 4 0 ++ bytes_of 4 0))))))) eight_zeros
    ∙ ap (λ (m : List ℕ). zeros 8 ++ (bytes_of 4 id.container ++ (bytes_of 4 id.page ++ ((kind_byte k ∷ 0 ∷ []) ++ (m ++ (bytes_of 4 0 ++ (bytes_of 4 0 ++ bytes_of 4 0))))))) two_zeros
    ∙ ap (λ (m : List ℕ). zeros 8 ++ (bytes_of 4 id.container ++ (bytes_of 4 id.page ++ ((kind_byte k ∷ 0 ∷ []) ++ (zeros 2 ++ (m ++ (m ++ m))))))) four_zeros

-- the bytes after the fields of an empty page were written over zeros
pub made : (b b1 b2 b3 b4 : List ℕ) (id : PageId) (k : Kind) (byte : ℕ) → length b ≡ 4096 → id.container < 256 ^ 4 → id.page < 256 ^ 4 → byte ≡ kind_byte k → b1 ≡ overwritten b 0 (zeros (4096 - 0)) → b2 ≡ with_number 4 b1 8 id.container → b3 ≡ with_number 4 b2 12 id.page → b4 ≡ overwritten b3 16 (byte ∷ []) → IsPageOf b4 (empty_page id k)
made b b1 b2 b3 b4 id k byte len hc hp hk e1 e2 e3 e4 =
    let rest : List ℕ = zeros 1 ++ zeros 4079 in
    let s0 : b1 ≡ zeros 4096 =
    e1 ∙ ap (λ (m : List ℕ). overwritten m 0 (zeros 4096)) (sym (append-nil b))
    ∙ overwritten-part [] b [] (zeros 4096) 0 refl (len ∙ sym (length-zeros 4096)) ∙ append-nil (zeros 4096) in
    let s1 : b1 ≡ zeros 8 ++ (zeros 4 ++ (zeros 4 ++ (zeros 1 ++ zeros 4079))) =
    s0 ∙ zeros_split 8 4088 ∙ ap (λ (m : List ℕ). zeros 8 ++ m) (zeros_split 4 4084 ∙ ap (λ (m : List ℕ). zeros 4 ++ m) (zeros_split 4 4080 ∙ ap (λ (m : List ℕ). zeros 4 ++ m) (zeros_split 1 4079))) in
    let s2 : b2 ≡ zeros 8 ++ (bytes_of 4 id.container ++ (zeros 4 ++ (zeros 1 ++ zeros 4079))) =
    e2 ∙ ap (λ (m : List ℕ). with_number 4 m 8 id.container) s1 ∙ with_number-append 4 (zeros 8) (zeros 4) (zeros 4 ++ (zeros 1 ++ zeros 4079)) 8 id.container (length-zeros 8) (length-zeros 4) in
    let n12 : length (zeros 8 ++ bytes_of 4 id.container) ≡ 12 = omega (arith, length-append (zeros 8) (bytes_of 4 id.container), length-zeros 8, length-bytes_of 4 id.container) in
    let s3 : b3 ≡ (zeros 8 ++ bytes_of 4 id.container) ++ (bytes_of 4 id.page ++ (zeros 1 ++ zeros 4079)) =
    e3 ∙ ap (λ (m : List ℕ). with_number 4 m 12 id.page) (s2 ∙ sym (append_assoc (zeros 8) (bytes_of 4 id.container) (zeros 4 ++ (zeros 1 ++ zeros 4079))))
    ∙ with_number-append 4 (zeros 8 ++ bytes_of 4 id.container) (zeros 4) (zeros 1 ++ zeros 4079) 12 id.page n12 (length-zeros 4) in
    let n16 : length ((zeros 8 ++ bytes_of 4 id.container) ++ bytes_of 4 id.page) ≡ 16 = omega (arith, length-append (zeros 8 ++ bytes_of 4 id.container) (bytes_of 4 id.page), n12, length-bytes_of 4 id.page) in
    let s4 : b4 ≡ ((zeros 8 ++ bytes_of 4 id.container) ++ bytes_of 4 id.page) ++ ((byte ∷ []) ++ zeros 4079) =
    e4 ∙ ap (λ (m : List ℕ). overwritten m 16 (byte ∷ [])) (s3 ∙ sym (append_assoc (zeros 8 ++ bytes_of 4 id.container) (bytes_of 4 id.page) (zeros 1 ++ zeros 4079)))
    ∙ overwritten-part ((zeros 8 ++ bytes_of 4 id.container) ++ bytes_of 4 id.page) (zeros 1) (zeros 4079) (byte ∷ []) 16 n16 (length-zeros 1) in
    let tail : zeros 4079 ≡ (0 ∷ []) ++ (zeros 2 ++ (zeros 4 ++ (zeros 4 ++ (zeros 4 ++ zeros 4064)))) =
    zeros_split 1 4078 ∙ ap (λ (m : List ℕ). m ++ zeros 4078) (sym one_zero)
    ∙ ap (λ (m : List ℕ). (0 ∷ []) ++ m) (zeros_split 2 4076 ∙ ap (λ (m : List ℕ). zeros 2 ++ m) (zeros_split 4 4072 ∙ ap (λ (m : List ℕ). zeros 4 ++ m) (zeros_split 4 4068 ∙ ap (λ (m : List ℕ). zeros 4 ++ m) (zeros_split 4 4064)))) in
    let done : b4 ≡ page_bytes 0 (empty_page id k) =
    s4 ∙ ap (λ (m : List ℕ). ((zeros 8 ++ bytes_of 4 id.container) ++ bytes_of 4 id.page) ++ ((byte ∷ []) ++ m)) tail
    ∙ ap (λ (x : ℕ). ((zeros 8 ++ bytes_of 4 id.container) ++ bytes_of 4 id.page) ++ ((x ∷ 0 ∷ []) ++ (zeros 2 ++ (zeros 4 ++ (zeros 4 ++ (zeros 4 ++ zeros 4064)))))) hk
    ∙ spread (zeros 8) (bytes_of 4 id.container) (bytes_of 4 id.page) (kind_byte k ∷ 0 ∷ []) (zeros 2) (zeros 4) (zeros 4064)
    ∙ ap (λ (m : List ℕ). m ++ zeros 4064) (sym (front_empty id k))
    ∙ ap (λ (m : List ℕ). front 0 (empty_page id k) ++ m) (sym (rest_zeros k)) in
    IsPageOf-bytes 0 (empty_page id k) b4 (omega arith) (IsContent-empty id k hc hp) done

-- no record has room on a control page
pub no_room : (b : List ℕ) (n : ℕ) → slice_index b 16 ≡ 0 → HasRoom (content_of b) n → ⊥
no_room b n e h = h.kind (kind_read b ∙ ap kind_of e)

pub room_read : (b : List ℕ) (n count low : ℕ) → IsPage b → slice_index b 16 ≢ 0 → count ≡ length (content_of b).records → low ≡ 4096 - stored_len (content_of b).records → 37 + 4 * count + n ≤ low → HasRoom (content_of b) n
room_read b n count low page isnt hc hl h =
    record { kind = λ e. zero_is_control (slice_index b 16) isnt (sym (kind_read b) ∙ e); room = omega (arith, hc, hl, h, page.content.room) }

pub room_needed : (b : List ℕ) (n count low : ℕ) → count ≡ length (content_of b).records → low ≡ 4096 - stored_len (content_of b).records → HasRoom (content_of b) n → 37 + 4 * count + n ≤ low
room_needed b n count low hc hl h = omega (arith, hc, hl, h.room)

-- The fields of a page's first 32 bytes, read and written.
use Rattle.std.proofs.Common.{◌≡◌, ◌^◌, ◌<◌, ℕ, List, [], ◌∷◌, ◌++◌, length, slice_index, refl, ap, ◌∙◌, arith, length-append}
use Rattle.dby_bytes.specs.Numbers.{bytes_of, number_at, with_number}
use Rattle.dby_bytes.proofs.NumbersLemmas.{length-bytes_of}
use Rattle.dby_bytes.proofs.PartsLemmas.{number_at-skip, number_at-first, number_at-only, byte_skip, with_number-skip, with_number-first, with_number-only}
use Rattle.slotted_page.specs.Content.{Content, Record}
use Rattle.slotted_page.specs.Layout.{front, kind_byte}

-- the fields from one of them on
abbrev offset_on : Content → List ℕ
offset_on c = bytes_of 4 c.lsn.offset ++ bytes_of 4 c.right

abbrev segment_on : Content → List ℕ
segment_on c = bytes_of 4 c.lsn.segment ++ offset_on c

abbrev count_on : Content → List ℕ
count_on c = bytes_of 2 (length c.records) ++ segment_on c

abbrev kind_on : Content → List ℕ
kind_on c = (kind_byte c.kind ∷ 0 ∷ []) ++ count_on c

abbrev page_on : Content → List ℕ
page_on c = bytes_of 4 c.id.page ++ kind_on c

abbrev container_on : Content → List ℕ
container_on c = bytes_of 4 c.id.container ++ page_on c

-- bytes behind the fields up to one of them
abbrev to_sum : ℕ → List ℕ → List ℕ
to_sum sum m = bytes_of 8 sum ++ m

abbrev to_container : ℕ → Content → List ℕ → List ℕ
to_container sum c m = to_sum sum (bytes_of 4 c.id.container ++ m)

abbrev to_page : ℕ → Content → List ℕ → List ℕ
to_page sum c m = to_container sum c (bytes_of 4 c.id.page ++ m)

abbrev to_kind : ℕ → Content → List ℕ → List ℕ
to_kind sum c m = to_page sum c ((kind_byte c.kind ∷ 0 ∷ []) ++ m)

abbrev to_count : ℕ → Content → List ℕ → List ℕ
to_count sum c m = to_kind sum c (bytes_of 2 (length c.records) ++ m)

abbrev to_segment : ℕ → Content → List ℕ → List ℕ
to_segment sum c m = to_count sum c (bytes_of 4 c.lsn.segment ++ m)

abbrev to_offset : ℕ → Content → List ℕ → List ℕ
to_offset sum c m = to_segment sum c (bytes_of 4 c.lsn.offset ++ m)

length-offset_on : (c : Content) → length (offset_on c) ≡ 8
length-offset_on c = omega (arith, length-append (bytes_of 4 c.lsn.offset) (bytes_of 4 c.right), length-bytes_of 4 c.lsn.offset, length-bytes_of 4 c.right)

length-segment_on : (c : Content) → length (segment_on c) ≡ 12
length-segment_on c = omega (arith, length-append (bytes_of 4 c.lsn.segment) (offset_on c), length-bytes_of 4 c.lsn.segment, length-offset_on c)

length-count_on : (c : Content) → length (count_on c) ≡ 14
length-count_on c = omega (arith, length-append (bytes_of 2 (length c.records)) (segment_on c), length-bytes_of 2 (length c.records), length-segment_on c)

length-kind_on : (c : Content) → length (kind_on c) ≡ 16
length-kind_on c = omega (arith, length-append (kind_byte c.kind ∷ 0 ∷ []) (count_on c), length-count_on c)

length-page_on : (c : Content) → length (page_on c) ≡ 20
length-page_on c = omega (arith, length-append (bytes_of 4 c.id.page) (kind_on c), length-bytes_of 4 c.id.page, length-kind_on c)

length-container_on : (c : Content) → length (container_on c) ≡ 24
length-container_on c = omega (arith, length-append (bytes_of 4 c.id.container) (page_on c), length-bytes_of 4 c.id.container, length-page_on c)

pub length-front : (sum : ℕ) (c : Content) → length (front sum c) ≡ 32
unfolding front
length-front sum c = omega (arith, length-append (bytes_of 8 sum) (container_on c), length-bytes_of 8 sum, length-container_on c)

pub front_sum : (sum : ℕ) (c : Content) → sum < 256 ^ 8 → number_at 8 (front sum c) 0 ≡ sum
unfolding front
front_sum sum c h =
    number_at-first 8 sum (container_on c) h

pub front_container : (sum : ℕ) (c : Content) → c.id.container < 256 ^ 4 → number_at 4 (front sum c) 8 ≡ c.id.container
unfolding front
front_container sum c h =
    number_at-skip 4 (bytes_of 8 sum) (container_on c) 8 0 (length-bytes_of 8 sum)
    ∙ number_at-first 4 c.id.container (page_on c) h

pub front_page : (sum : ℕ) (c : Content) → c.id.page < 256 ^ 4 → number_at 4 (front sum c) 12 ≡ c.id.page
unfolding front
front_page sum c h =
    number_at-skip 4 (bytes_of 8 sum) (container_on c) 8 4 (length-bytes_of 8 sum)
    ∙ number_at-skip 4 (bytes_of 4 c.id.container) (page_on c) 4 0 (length-bytes_of 4 c.id.container)
    ∙ number_at-first 4 c.id.page (kind_on c) h

pub front_count : (sum : ℕ) (c : Content) → length c.records < 256 ^ 2 → number_at 2 (front sum c) 18 ≡ length c.records
unfolding front
front_count sum c h =
    number_at-skip 2 (bytes_of 8 sum) (container_on c) 8 10 (length-bytes_of 8 sum)
    ∙ number_at-skip 2 (bytes_of 4 c.id.container) (page_on c) 4 6 (length-bytes_of 4 c.id.container)
    ∙ number_at-skip 2 (bytes_of 4 c.id.page) (kind_on c) 4 2 (length-bytes_of 4 c.id.page)
    ∙ number_at-skip 2 (kind_byte c.kind ∷ 0 ∷ []) (count_on c) 2 0 refl
    ∙ number_at-first 2 (length c.records) (segment_on c) h

pub front_segment : (sum : ℕ) (c : Content) → c.lsn.segment < 256 ^ 4 → number_at 4 (front sum c) 20 ≡ c.lsn.segment
unfolding front
front_segment sum c h =
    number_at-skip 4 (bytes_of 8 sum) (container_on c) 8 12 (length-bytes_of 8 sum)
    ∙ number_at-skip 4 (bytes_of 4 c.id.container) (page_on c) 4 8 (length-bytes_of 4 c.id.container)
    ∙ number_at-skip 4 (bytes_of 4 c.id.page) (kind_on c) 4 4 (length-bytes_of 4 c.id.page)
    ∙ number_at-skip 4 (kind_byte c.kind ∷ 0 ∷ []) (count_on c) 2 2 refl
    ∙ number_at-skip 4 (bytes_of 2 (length c.records)) (segment_on c) 2 0 (length-bytes_of 2 (length c.records))
    ∙ number_at-first 4 c.lsn.segment (offset_on c) h

pub front_offset : (sum : ℕ) (c : Content) → c.lsn.offset < 256 ^ 4 → number_at 4 (front sum c) 24 ≡ c.lsn.offset
unfolding front
front_offset sum c h =
    number_at-skip 4 (bytes_of 8 sum) (container_on c) 8 16 (length-bytes_of 8 sum)
    ∙ number_at-skip 4 (bytes_of 4 c.id.container) (page_on c) 4 12 (length-bytes_of 4 c.id.container)
    ∙ number_at-skip 4 (bytes_of 4 c.id.page) (kind_on c) 4 8 (length-bytes_of 4 c.id.page)
    ∙ number_at-skip 4 (kind_byte c.kind ∷ 0 ∷ []) (count_on c) 2 6 refl
    ∙ number_at-skip 4 (bytes_of 2 (length c.records)) (segment_on c) 2 4 (length-bytes_of 2 (length c.records))
    ∙ number_at-skip 4 (bytes_of 4 c.lsn.segment) (offset_on c) 4 0 (length-bytes_of 4 c.lsn.segment)
    ∙ number_at-first 4 c.lsn.offset (bytes_of 4 c.right) h

pub front_right : (sum : ℕ) (c : Content) → c.right < 256 ^ 4 → number_at 4 (front sum c) 28 ≡ c.right
unfolding front
front_right sum c h =
    number_at-skip 4 (bytes_of 8 sum) (container_on c) 8 20 (length-bytes_of 8 sum)
    ∙ number_at-skip 4 (bytes_of 4 c.id.container) (page_on c) 4 16 (length-bytes_of 4 c.id.container)
    ∙ number_at-skip 4 (bytes_of 4 c.id.page) (kind_on c) 4 12 (length-bytes_of 4 c.id.page)
    ∙ number_at-skip 4 (kind_byte c.kind ∷ 0 ∷ []) (count_on c) 2 10 refl
    ∙ number_at-skip 4 (bytes_of 2 (length c.records)) (segment_on c) 2 8 (length-bytes_of 2 (length c.records))
    ∙ number_at-skip 4 (bytes_of 4 c.lsn.segment) (offset_on c) 4 4 (length-bytes_of 4 c.lsn.segment)
    ∙ number_at-skip 4 (bytes_of 4 c.lsn.offset) (bytes_of 4 c.right) 4 0 (length-bytes_of 4 c.lsn.offset)
    ∙ number_at-only 4 c.right h

pub front_kind : (sum : ℕ) (c : Content) → slice_index (front sum c) 16 ≡ kind_byte c.kind
unfolding front
front_kind sum c =
    byte_skip (bytes_of 8 sum) (container_on c) 8 8 (length-bytes_of 8 sum)
    ∙ byte_skip (bytes_of 4 c.id.container) (page_on c) 4 4 (length-bytes_of 4 c.id.container)
    ∙ byte_skip (bytes_of 4 c.id.page) (kind_on c) 4 0 (length-bytes_of 4 c.id.page)

pub front_with_sum : (sum v : ℕ) (c : Content) → with_number 8 (front sum c) 0 v ≡ front v c
unfolding front
front_with_sum sum v c =
    with_number-first 8 sum v (container_on c)

pub front_with_segment : (sum v : ℕ) (c : Content) → with_number 4 (front sum c) 20 v ≡ front sum (record c { lsn = record c.lsn { segment = v } })
unfolding front
front_with_segment sum v c =
    with_number-skip 4 (bytes_of 8 sum) (container_on c) 8 12 v (length-bytes_of 8 sum) (omega (arith, length-container_on c))
    ∙ ap (to_sum sum) (with_number-skip 4 (bytes_of 4 c.id.container) (page_on c) 4 8 v (length-bytes_of 4 c.id.container) (omega (arith, length-page_on c)))
    ∙ ap (to_container sum c) (with_number-skip 4 (bytes_of 4 c.id.page) (kind_on c) 4 4 v (length-bytes_of 4 c.id.page) (omega (arith, length-kind_on c)))
    ∙ ap (to_page sum c) (with_number-skip 4 (kind_byte c.kind ∷ 0 ∷ []) (count_on c) 2 2 v refl (omega (arith, length-count_on c)))
    ∙ ap (to_kind sum c) (with_number-skip 4 (bytes_of 2 (length c.records)) (segment_on c) 2 0 v (length-bytes_of 2 (length c.records)) (omega (arith, length-segment_on c)))
    ∙ ap (to_count sum c) (with_number-first 4 c.lsn.segment v (offset_on c))

pub front_with_offset : (sum v : ℕ) (c : Content) → with_number 4 (front sum c) 24 v ≡ front sum (record c { lsn = record c.lsn { offset = v } })
unfolding front
front_with_offset sum v c =
    with_number-skip 4 (bytes_of 8 sum) (container_on c) 8 16 v (length-bytes_of 8 sum) (omega (arith, length-container_on c))
    ∙ ap (to_sum sum) (with_number-skip 4 (bytes_of 4 c.id.container) (page_on c) 4 12 v (length-bytes_of 4 c.id.container) (omega (arith, length-page_on c)))
    ∙ ap (to_container sum c) (with_number-skip 4 (bytes_of 4 c.id.page) (kind_on c) 4 8 v (length-bytes_of 4 c.id.page) (omega (arith, length-kind_on c)))
    ∙ ap (to_page sum c) (with_number-skip 4 (kind_byte c.kind ∷ 0 ∷ []) (count_on c) 2 6 v refl (omega (arith, length-count_on c)))
    ∙ ap (to_kind sum c) (with_number-skip 4 (bytes_of 2 (length c.records)) (segment_on c) 2 4 v (length-bytes_of 2 (length c.records)) (omega (arith, length-segment_on c)))
    ∙ ap (to_count sum c) (with_number-skip 4 (bytes_of 4 c.lsn.segment) (offset_on c) 4 0 v (length-bytes_of 4 c.lsn.segment) (omega (arith, length-offset_on c)))
    ∙ ap (to_segment sum c) (with_number-first 4 c.lsn.offset v (bytes_of 4 c.right))

pub front_with_right : (sum v : ℕ) (c : Content) → with_number 4 (front sum c) 28 v ≡ front sum (record c { right = v })
unfolding front
front_with_right sum v c =
    with_number-skip 4 (bytes_of 8 sum) (container_on c) 8 20 v (length-bytes_of 8 sum) (omega (arith, length-container_on c))
    ∙ ap (to_sum sum) (with_number-skip 4 (bytes_of 4 c.id.container) (page_on c) 4 16 v (length-bytes_of 4 c.id.container) (omega (arith, length-page_on c)))
    ∙ ap (to_container sum c) (with_number-skip 4 (bytes_of 4 c.id.page) (kind_on c) 4 12 v (length-bytes_of 4 c.id.page) (omega (arith, length-kind_on c)))
    ∙ ap (to_page sum c) (with_number-skip 4 (kind_byte c.kind ∷ 0 ∷ []) (count_on c) 2 10 v refl (omega (arith, length-count_on c)))
    ∙ ap (to_kind sum c) (with_number-skip 4 (bytes_of 2 (length c.records)) (segment_on c) 2 8 v (length-bytes_of 2 (length c.records)) (omega (arith, length-segment_on c)))
    ∙ ap (to_count sum c) (with_number-skip 4 (bytes_of 4 c.lsn.segment) (offset_on c) 4 4 v (length-bytes_of 4 c.lsn.segment) (omega (arith, length-offset_on c)))
    ∙ ap (to_segment sum c) (with_number-skip 4 (bytes_of 4 c.lsn.offset) (bytes_of 4 c.right) 4 0 v (length-bytes_of 4 c.lsn.offset) (omega (arith, length-bytes_of 4 c.right)))
    ∙ ap (to_offset sum c) (with_number-only 4 c.right v)

pub front_with_count : (sum : ℕ) (c : Content) (rs : List Record) → with_number 2 (front sum c) 18 (length rs) ≡ front sum (record c { records = rs })
unfolding front
front_with_count sum c rs =
    with_number-skip 2 (bytes_of 8 sum) (container_on c) 8 10 (length rs) (length-bytes_of 8 sum) (omega (arith, length-container_on c))
    ∙ ap (to_sum sum) (with_number-skip 2 (bytes_of 4 c.id.container) (page_on c) 4 6 (length rs) (length-bytes_of 4 c.id.container) (omega (arith, length-page_on c)))
    ∙ ap (to_container sum c) (with_number-skip 2 (bytes_of 4 c.id.page) (kind_on c) 4 2 (length rs) (length-bytes_of 4 c.id.page) (omega (arith, length-kind_on c)))
    ∙ ap (to_page sum c) (with_number-skip 2 (kind_byte c.kind ∷ 0 ∷ []) (count_on c) 2 0 (length rs) refl (omega (arith, length-count_on c)))
    ∙ ap (to_kind sum c) (with_number-first 2 (length c.records) (length rs) (segment_on c))

-- as many records leave the first bytes as they are
pub front_same : (sum : ℕ) (c : Content) (rs : List Record) → length rs ≡ length c.records → front sum (record c { records = rs }) ≡ front sum c
unfolding front
front_same sum c rs h = ap (λ (n : ℕ). to_kind sum c (bytes_of 2 n ++ segment_on c)) h

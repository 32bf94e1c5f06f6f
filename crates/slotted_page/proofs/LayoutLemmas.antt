-- The directory and the records of a page, joined and read.
use Rattle.std.proofs.Common.{◌≡◌, ◌+◌, ◌-◌, ◌*◌, ◌^◌, ◌≤◌, ◌<◌, ℕ, List, [], ◌∷◌, ◌++◌, length, take, drop, slice_index, refl, sym, ap, ◌∙◌, arith, append-nil, append_assoc, length-append}
use Rattle.std.proofs.lemmas.List.{drop-drop, drop_at, take_at, get_or-drop, length-replicate}
use Rattle.dby_bytes.specs.Numbers.{number_of, bytes_of}
use Rattle.dby_bytes.proofs.NumbersLemmas.{length-bytes_of, number_of-bytes_of}
use Rattle.slotted_page.specs.Content.{Record, size_of, stored_len}
use Rattle.slotted_page.specs.Layout.{directory, body, stored, zeros, records_of}

pub length-zeros : (n : ℕ) → length (zeros n) ≡ n
unfolding zeros
length-zeros n = length-replicate n 0

pub stored_len-append : (xs ys : List Record) → stored_len (xs ++ ys) ≡ stored_len xs + stored_len ys
stored_len-append [] ys = omega arith
stored_len-append (r ∷ xs) ys = let e = stored_len-append xs ys in omega (arith, e)

pub length-directory : (end : ℕ) (rs : List Record) → length (directory end rs) ≡ 4 * length rs
length-directory end [] = refl
length-directory end (r ∷ rs) =
    let a : List ℕ = bytes_of 2 (end - size_of r) in
    let b : List ℕ = bytes_of 2 (size_of r) in
    omega (arith, length-append (bytes_of 2 (end - size_of r)) (bytes_of 2 (size_of r) ++ directory (end - size_of r) rs), length-append (bytes_of 2 (size_of r)) (directory (end - size_of r) rs), length-bytes_of 2 (end - size_of r), length-bytes_of 2 (size_of r), length-directory (end - size_of r) rs)

pub length-body : (rs : List Record) → length (body rs) ≡ stored_len rs
length-body [] = refl
length-body (r ∷ rs) = omega (arith, length-append (body rs) (stored r), length-body rs)

pub body-append : (xs ys : List Record) → body (xs ++ ys) ≡ body ys ++ body xs
body-append [] ys = sym (append-nil (body ys))
body-append (r ∷ xs) ys = ap (λ (m : List ℕ). m ++ stored r) (body-append xs ys) ∙ append_assoc (body ys) (body xs) (stored r)

pub directory-append : (end : ℕ) (xs ys : List Record) → directory end (xs ++ ys) ≡ directory end xs ++ directory (end - stored_len xs) ys
directory-append end [] ys = ap (λ (e : ℕ). directory e ys) (let e : end ≡ end - 0 = omega arith in e)
directory-append end (r ∷ xs) ys =
    let a : List ℕ = bytes_of 2 (end - size_of r) in
    let b : List ℕ = bytes_of 2 (size_of r) in
    let e : end - size_of r - stored_len xs ≡ end - (size_of r + stored_len xs) = omega arith in
    ap (λ (m : List ℕ). a ++ (b ++ m)) (directory-append (end - size_of r) xs ys ∙ ap (λ (k : ℕ). directory (end - size_of r) xs ++ directory k ys) e)
    ∙ ap (λ (m : List ℕ). a ++ m) (sym (append_assoc b (directory (end - size_of r) xs) (directory (end - (size_of r + stored_len xs)) ys)))
    ∙ sym (append_assoc a (b ++ directory (end - size_of r) xs) (directory (end - (size_of r + stored_len xs)) ys))

-- the entry of a record, in front of what follows
pub directory-first : (end : ℕ) (r : Record) (rs : List Record) (rest : List ℕ) → directory end (r ∷ rs) ++ rest ≡ bytes_of 2 (end - size_of r) ++ (bytes_of 2 (size_of r) ++ (directory (end - size_of r) rs ++ rest))
directory-first end r rs rest =
    append_assoc (bytes_of 2 (end - size_of r)) (bytes_of 2 (size_of r) ++ directory (end - size_of r) rs) rest
    ∙ ap (λ (m : List ℕ). bytes_of 2 (end - size_of r) ++ m) (append_assoc (bytes_of 2 (size_of r)) (directory (end - size_of r) rs) rest)

-- what an entry of a directory names
pub record_named : (b suffix : List ℕ) (start : ℕ) (r : Record) → drop start b ≡ stored r ++ suffix → (slice_index b start ≡ r.flags) × (take (size_of r - 1) (drop (start + 1) b) ≡ r.bytes)
record_named b suffix start r here =
    let there : start + 0 ≡ start = omega arith in
    let first : slice_index (drop start b) 0 ≡ slice_index b (start + 0) = get_or-drop start b 0 0 in
    let len : 1 + length r.bytes - 1 ≡ length r.bytes = omega arith in
    let rest : drop (start + 1) b ≡ r.bytes ++ suffix = sym (drop-drop 1 start b) ∙ ap (drop 1) here in (
      ap (slice_index b) (sym there) ∙ sym first ∙ ap (λ (m : List ℕ). slice_index m 0) here,
      ap (λ (k : ℕ). take k (drop (start + 1) b)) len ∙ ap (take (length r.bytes)) rest ∙ take_at r.bytes suffix (length r.bytes) refl,
    )

-- the records that a page's directory names are its records
pub records_of-directory : (rs : List Record) (end : ℕ) (rest b suffix : List ℕ) → stored_len rs ≤ end → end < 256 ^ 2 → drop (end - stored_len rs) b ≡ body rs ++ suffix → records_of (length rs) (directory end rs ++ rest) b ≡ rs
records_of-directory [] end rest b suffix fits small there = refl
records_of-directory (r ∷ rs) end rest b suffix fits small there =
    let s : ℕ = end - size_of r in
    let z : ℕ = size_of r in
    let d : List ℕ = directory (end - size_of r) rs ++ rest in
    let split : directory end (r ∷ rs) ++ rest ≡ bytes_of 2 (end - size_of r) ++ (bytes_of 2 (size_of r) ++ (directory (end - size_of r) rs ++ rest)) = directory-first end r rs rest in
    let start : number_of 2 (directory end (r ∷ rs) ++ rest) ≡ end - size_of r =
    ap (number_of 2) split ∙ number_of-bytes_of 2 (end - size_of r) (bytes_of 2 (size_of r) ++ (directory (end - size_of r) rs ++ rest)) (omega arith) in
    let behind : drop 2 (directory end (r ∷ rs) ++ rest) ≡ bytes_of 2 (size_of r) ++ (directory (end - size_of r) rs ++ rest) =
    ap (drop 2) split ∙ drop_at (bytes_of 2 (end - size_of r)) (bytes_of 2 (size_of r) ++ (directory (end - size_of r) rs ++ rest)) 2 (length-bytes_of 2 (end - size_of r)) in
    let len : number_of 2 (drop 2 (directory end (r ∷ rs) ++ rest)) ≡ size_of r =
    ap (number_of 2) behind ∙ number_of-bytes_of 2 (size_of r) (directory (end - size_of r) rs ++ rest) (omega arith) in
    let next : drop 4 (directory end (r ∷ rs) ++ rest) ≡ directory (end - size_of r) rs ++ rest =
    sym (drop-drop 2 2 (directory end (r ∷ rs) ++ rest)) ∙ ap (drop 2) behind ∙ drop_at (bytes_of 2 (size_of r)) (directory (end - size_of r) rs ++ rest) 2 (length-bytes_of 2 (size_of r)) in
    let low : end - size_of r - stored_len rs ≡ end - (size_of r + stored_len rs) = omega arith in
    let deeper : drop (end - size_of r - stored_len rs) b ≡ body rs ++ (stored r ++ suffix) =
    ap (λ (k : ℕ). drop k b) low ∙ there ∙ append_assoc (body rs) (stored r) suffix in
    let up : end - size_of r - stored_len rs + stored_len rs ≡ end - size_of r = omega arith in
    let here : drop (end - size_of r) b ≡ stored r ++ suffix =
    ap (λ (k : ℕ). drop k b) (sym up) ∙ sym (drop-drop (stored_len rs) (end - size_of r - stored_len rs) b) ∙ ap (drop (stored_len rs)) deeper
    ∙ drop_at (body rs) (stored r ++ suffix) (stored_len rs) (length-body rs) in
    let named = record_named b suffix (end - size_of r) r here in
    let others : records_of (length rs) (directory (end - size_of r) rs ++ rest) b ≡ rs =
    records_of-directory rs (end - size_of r) rest b (stored r ++ suffix) (omega arith) (omega arith) deeper in
    joined (number_of 2 (directory end (r ∷ rs) ++ rest)) (number_of 2 (drop 2 (directory end (r ∷ rs) ++ rest))) (end - size_of r) (size_of r) (drop 4 (directory end (r ∷ rs) ++ rest)) (directory (end - size_of r) rs ++ rest) b (length rs) r rs start len next named.0 named.1 others
  where
    joined : (s' z' s z : ℕ) (d' d b : List ℕ) (k : ℕ) (r : Record) (rs : List Record) → s' ≡ s → z' ≡ z → d' ≡ d → slice_index b s ≡ r.flags → take (z - 1) (drop (s + 1) b) ≡ r.bytes → records_of k d b ≡ rs → (let x : Record = record { flags = slice_index b s'; bytes = take (z' - 1) (drop (s' + 1) b) } in x ∷ records_of k d' b ≡ r ∷ rs)
    joined s' z' s z d' d b k r rs es ez ed ef eb er =
        let flags : slice_index b s' ≡ r.flags = ap (slice_index b) es ∙ ef in
        let bytes : take (z' - 1) (drop (s' + 1) b) ≡ r.bytes = ap (λ (n : ℕ). take (n - 1) (drop (s' + 1) b)) ez ∙ ap (λ (n : ℕ). take (z - 1) (drop (n + 1) b)) es ∙ eb in
        let rest : records_of k d' b ≡ rs = ap (λ (m : List ℕ). records_of k m b) ed ∙ er in
        ap (λ (n : ℕ). let x : Record = record { flags = n; bytes = take (z' - 1) (drop (s' + 1) b) } in x ∷ records_of k d' b) flags
        ∙ ap (λ (m : List ℕ). let x : Record = record { flags = r.flags; bytes = m } in x ∷ records_of k d' b) bytes
        ∙ ap (λ (t : List Record). r ∷ t) rest

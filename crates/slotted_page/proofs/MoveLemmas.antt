-- A directory whose records end elsewhere, entry by entry.
use Rattle.std.proofs.Common.{◌≡◌, ◌+◌, ◌-◌, ◌*◌, ◌^◌, ◌≤◌, ◌<◌, ℕ, List, [], ◌∷◌, ◌++◌, length, take, drop, get_or, sym, ap, ◌∙◌, arith, append-nil, append_assoc, length-append}
use Rattle.std.proofs.lemmas.List.{drop_more, take_more, take_all, drop_all, length-take-le}
use Rattle.dby_bytes.specs.Numbers.{bytes_of, number_at, with_number}
use Rattle.dby_bytes.proofs.NumbersLemmas.{length-bytes_of, with_number-append}
use Rattle.dby_bytes.proofs.PartsLemmas.{number_at-skip, number_at-first}
use Rattle.slotted_page.specs.Content.{Record, size_of, stored_len}
use Rattle.slotted_page.specs.Layout.{directory}
use Rattle.slotted_page.proofs.LayoutLemmas.{length-directory, directory-append, directory-first}
use Rattle.slotted_page.proofs.PageLemmas.{stored_len-more, stored_len-take}

-- the bytes after the first i entries
pub record IsMoving (before : List ℕ) (rs : List Record) (e : ℕ) (after : List ℕ) (i end start : ℕ) (b : List ℕ) : Type 0 where
  pub bytes : b ≡ (before ++ directory end (take i rs)) ++ (directory (e - stored_len (take i rs)) (drop i rs) ++ after)
  pub place : start ≡ end - stored_len (take i rs)

pub IsMoving-none : (before : List ℕ) (rs : List Record) (e : ℕ) (after : List ℕ) (end : ℕ) (b : List ℕ) → b ≡ before ++ (directory e rs ++ after) → IsMoving before rs e after 0 end end b
IsMoving-none before rs e after end b h =
    record {
      bytes = h ∙ ap (λ (k : ℕ). before ++ (directory k rs ++ after)) (let q : e ≡ e - 0 = omega arith in q) ∙ ap (λ (m : List ℕ). m ++ (directory (e - 0) rs ++ after)) (sym (append-nil before));
      place = omega arith;
    }

pub IsMoving-all : (before : List ℕ) (rs : List Record) (e : ℕ) (after : List ℕ) (i end start : ℕ) (b : List ℕ) → length rs ≤ i → IsMoving before rs e after i end start b → b ≡ before ++ (directory end rs ++ after)
IsMoving-all before rs e after i end start b h m =
    m.bytes
    ∙ ap (λ (s : List Record). (before ++ directory end s) ++ (directory (e - stored_len (take i rs)) (drop i rs) ++ after)) (take_all i rs h)
    ∙ ap (λ (s : List Record). (before ++ directory end rs) ++ (directory (e - stored_len (take i rs)) s ++ after)) (drop_all i rs h)
    ∙ append_assoc before (directory end rs) after

-- the lists of a step, put together otherwise
regrouped : (p d a z rest : List ℕ) → (p ++ d) ++ (a ++ (z ++ rest)) ≡ (p ++ (d ++ (a ++ (z ++ [])))) ++ rest
regrouped p d a z rest = simp (append_assoc, append-nil)

pub IsMoving-more : (before : List ℕ) (rs : List Record) (e : ℕ) (after : List ℕ) (i end start from v : ℕ) (b new : List ℕ) (d : Record) → i < length rs → length before ≡ from → stored_len rs < 256 ^ 2 → IsMoving before rs e after i end start b → v ≡ number_at 2 b (from + 4 * i + 2) → new ≡ with_number 2 b (from + 4 * i) (start - v) → IsMoving before rs e after (i + 1) end (start - v) new
IsMoving-more before rs e after i end start from v b new d inside len small m got wrote =
    let r : Record = get_or rs i d in
    let p : List ℕ = before ++ directory end (take i rs) in
    let e1 : ℕ = e - stored_len (take i rs) in
    let rest : List ℕ = directory (e - stored_len (take i rs) - size_of (get_or rs i d)) (drop (i + 1) rs) ++ after in
    let more = stored_len-more rs i d inside in
    let all = stored_len-take rs (i + 1) in
    let at : length (before ++ directory end (take i rs)) ≡ from + 4 * i = omega (arith, length-append before (directory end (take i rs)), length-directory end (take i rs), length-take-le i rs (omega arith), len) in
    let split : b ≡ (before ++ directory end (take i rs)) ++ (bytes_of 2 (e - stored_len (take i rs) - size_of (get_or rs i d)) ++ (bytes_of 2 (size_of (get_or rs i d)) ++ (directory (e - stored_len (take i rs) - size_of (get_or rs i d)) (drop (i + 1) rs) ++ after))) =
    m.bytes
    ∙ ap (λ (s : List Record). (before ++ directory end (take i rs)) ++ (directory (e - stored_len (take i rs)) s ++ after)) (drop_more rs i d inside)
    ∙ ap (λ (s : List ℕ). (before ++ directory end (take i rs)) ++ s) (directory-first (e - stored_len (take i rs)) (get_or rs i d) (drop (i + 1) rs) after) in
    let size : v ≡ size_of (get_or rs i d) =
    got ∙ ap (λ (s : List ℕ). number_at 2 s (from + 4 * i + 2)) split
    ∙ number_at-skip 2 (before ++ directory end (take i rs)) _ (from + 4 * i) 2 at
    ∙ number_at-skip 2 (bytes_of 2 (e - stored_len (take i rs) - size_of (get_or rs i d))) _ 2 0 (length-bytes_of 2 (e - stored_len (take i rs) - size_of (get_or rs i d)))
    ∙ number_at-first 2 (size_of (get_or rs i d)) _ (omega (arith, more, all, small)) in
    let placed : start - v ≡ end - stored_len (take i rs) - size_of (get_or rs i d) = omega (arith, m.place, size) in
    let taken : directory end (take (i + 1) rs) ≡ directory end (take i rs) ++ (bytes_of 2 (end - stored_len (take i rs) - size_of (get_or rs i d)) ++ (bytes_of 2 (size_of (get_or rs i d)) ++ [])) =
    ap (directory end) (take_more rs i d inside) ∙ directory-append end (take i rs) (get_or rs i d ∷ []) in
    let lower : e - stored_len (take i rs) - size_of (get_or rs i d) ≡ e - stored_len (take (i + 1) rs) = omega (arith, more) in
    record {
      bytes =
          wrote ∙ ap (λ (s : List ℕ). with_number 2 s (from + 4 * i) (start - v)) split
          ∙ with_number-append 2 (before ++ directory end (take i rs)) (bytes_of 2 (e - stored_len (take i rs) - size_of (get_or rs i d))) (bytes_of 2 (size_of (get_or rs i d)) ++ (directory (e - stored_len (take i rs) - size_of (get_or rs i d)) (drop (i + 1) rs) ++ after)) (from + 4 * i) (start - v) at (length-bytes_of 2 (e - stored_len (take i rs) - size_of (get_or rs i d)))
          ∙ ap (λ (k : ℕ). (before ++ directory end (take i rs)) ++ (bytes_of 2 k ++ (bytes_of 2 (size_of (get_or rs i d)) ++ (directory (e - stored_len (take i rs) - size_of (get_or rs i d)) (drop (i + 1) rs) ++ after)))) placed
          ∙ regrouped before (directory end (take i rs)) (bytes_of 2 (end - stored_len (take i rs) - size_of (get_or rs i d))) (bytes_of 2 (size_of (get_or rs i d))) (directory (e - stored_len (take i rs) - size_of (get_or rs i d)) (drop (i + 1) rs) ++ after)
          ∙ ap (λ (s : List ℕ). (before ++ s) ++ (directory (e - stored_len (take i rs) - size_of (get_or rs i d)) (drop (i + 1) rs) ++ after)) (sym taken)
          ∙ ap (λ (k : ℕ). (before ++ directory end (take (i + 1) rs)) ++ (directory k (drop (i + 1) rs) ++ after)) lower;
      place = omega (arith, placed, more);
    }

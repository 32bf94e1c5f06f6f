-- The log's list under the calls that change it.
use Rattle.std.proofs.Common.{◌≡◌, ◌+◌, ◌-◌, ◌≤◌, ◌<◌, ℕ, List, [], ◌∷◌, ◌++◌, length, take, drop, refl, sym, ap, subst, ◌∙◌, arith, inl, inr, length-append}
use Rattle.std.specs.Prelude.{◌⊎◌, Option, None}
use Rattle.std.proofs.Math.Seq.{drop-append-add}
use Rattle.std.proofs.lemmas.List.{take_all, drop_all, take-take, take-append-le, drop-append-le, take-append-drop, length-take-le}
use Rattle.dby_types.specs.declared.number.Lsn.{Lsn}
use Rattle.device.specs.Disk.{Segments}
use Rattle.log_records.specs.Content.{LogRecord}
use Rattle.log_records.specs.Format.{size_of, stored_record}
use Rattle.log_records.specs.Rules.{IsRecord}
use Rattle.log_records.proofs.WholeLemmas.{length-stored}
use Rattle.log_file.specs.declared.file.LogFile.{LogFile}
use Rattle.log_file.specs.Tail.{pending, end_of, IsOn, tail}
use Rattle.log_file.specs.List.{on_disk, in_buffer, StandsAt, follower, place_behind, behind, Runs, forced_of, IsLog}
use Rattle.log_file.proofs.Standing.{AtMost, inside, same_place, stands_same, stands_as, same_part}
use Rattle.log_file.proofs.Runs.{runs_to, runs_push, runs_append}

-- the bytes in the buffer
pub pending_len : (l : LogFile) → length (pending l) ≡ l.used
pending_len l = length-take-le l.used l.buffer.items (omega (arith, l.used_is, l.buffer_is))

-- forced records stand in all bytes that have the earlier segments and the forced bytes
pub forced_stand : (l : LogFile) (log after : Segments) (from : Lsn) (rs : List LogRecord) → Runs (on_disk log) from rs (forced_of l) → ((s : ℕ) → s < l.segment → after s ≡ log s) → take l.forced (after l.segment) ≡ take l.forced (log l.segment)
    → Runs (on_disk after) from rs (forced_of l)
forced_stand l log after from rs h earlier same = runs_to (on_disk log) (on_disk after) from (forced_of l) rs (λ p r first le s. keep p r s (inside p (forced_of l) r s.1.record_is (omega (arith, l.room_is)) le)) h
  where
    keep : (p : Lsn) (r : LogRecord) → StandsAt (on_disk log) p r → (p.segment < l.segment) ⊎ ((p.segment ≡ l.segment) × (p.offset + size_of r ≤ l.forced)) → StandsAt (on_disk after) p r
    keep p r s (inl lt) = stands_same (on_disk log) (on_disk after) p r (ap (λ (x : List ℕ). take (size_of r) (drop p.offset x)) (earlier p.segment lt)) s
    keep p r s (inr x) = stands_same (on_disk log) (on_disk after) p r
        (ap (λ (t : ℕ). take (size_of r) (drop p.offset (after t))) x.0 ∙ same_part (log l.segment) (after l.segment) l.forced p.offset (size_of r) same x.1 ∙ ap (λ (t : ℕ). take (size_of r) (drop p.offset (log t))) (sym x.0)) s

-- a place from the forced end on, and where a record ends that stands there
pub kept_inside : (l : LogFile) (p : Lsn) (r : LogRecord) → IsRecord p r → AtMost (forced_of l) p → AtMost (behind p r) (end_of l) → (p.segment ≡ l.segment) × (l.forced ≤ p.offset) × (p.offset + size_of r ≤ l.forced + l.used)
kept_inside l p r h first last = by_way first (inside p (end_of l) r h (omega (arith, l.room_is)) last)
  where
    by_way : AtMost (forced_of l) p → (p.segment < l.segment) ⊎ ((p.segment ≡ l.segment) × (p.offset + size_of r ≤ l.forced + l.used)) → (p.segment ≡ l.segment) × (l.forced ≤ p.offset) × (p.offset + size_of r ≤ l.forced + l.used)
    by_way (inl x) (inl y) = absurd (omega (arith, x, y))
    by_way (inr x) (inl y) = absurd (omega (arith, x.0, y))
    by_way (inl x) (inr y) = absurd (omega (arith, x, y.0))
    by_way (inr x) (inr y) = (y.0, x.1, y.1)

-- the buffer's part of all that the segment has
pub behind_forced : (l : LogFile) (log : Segments) (at : ℕ) → IsOn l log → l.forced ≤ at → drop at (tail l log) ≡ drop (at - l.forced) (pending l)
behind_forced l log at on le =
    let len : length (take l.forced (log l.segment)) + (at - l.forced) ≡ at = omega (arith, length-take-le l.forced (log l.segment) on, le) in
    ap (λ (n : ℕ). drop n (tail l log)) (sym len) ∙ drop-append-add (take l.forced (log l.segment)) (pending l) (at - l.forced)

-- kept records stand in all bytes that have the tail
pub kept_stand : (l : LogFile) (log after : Segments) (rs : List LogRecord) → IsOn l log → Runs (in_buffer l) (forced_of l) rs (end_of l) → take (l.forced + l.used) (after l.segment) ≡ tail l log → Runs (on_disk after) (forced_of l) rs (end_of l)
kept_stand l log after rs on h e = runs_to (in_buffer l) (on_disk after) (forced_of l) (end_of l) rs (λ p r first last s. keep p r s (kept_inside l p r s.1.record_is first last)) h
  where
    whole : take (l.forced + l.used) (after l.segment) ≡ take (l.forced + l.used) (tail l log)
    whole = e ∙ sym (take_all (l.forced + l.used) (tail l log) (omega (arith, length-append (take l.forced (log l.segment)) (pending l), length-take-le l.forced (log l.segment) on, pending_len l)))

    keep : (p : Lsn) (r : LogRecord) → StandsAt (in_buffer l) p r → (p.segment ≡ l.segment) × (l.forced ≤ p.offset) × (p.offset + size_of r ≤ l.forced + l.used) → StandsAt (on_disk after) p r
    keep p r s x = stands_same (in_buffer l) (on_disk after) p r
        (ap (λ (t : ℕ). take (size_of r) (drop p.offset (after t))) x.0 ∙ same_part (tail l log) (after l.segment) (l.forced + l.used) p.offset (size_of r) whole x.2 ∙ ap (take (size_of r)) (behind_forced l log p.offset on x.1)) s

-- all records stand where the tail was written
pub all_stand : (l : LogFile) (log after : Segments) (from : Lsn) (rs : List LogRecord) (n : ℕ) → IsLog l log from rs n → take (l.forced + l.used) (after l.segment) ≡ tail l log → ((s : ℕ) → s < l.segment → after s ≡ log s) → Runs (on_disk after) from rs (end_of l)
all_stand l log after from rs n h e earlier =
    let front : take l.forced (after l.segment) ≡ take l.forced (log l.segment) =
    sym (take-take l.forced (l.forced + l.used) (after l.segment) (omega arith)) ∙ ap (take l.forced) e
    ∙ take-append-le l.forced (take l.forced (log l.segment)) (pending l) (omega (arith, length-take-le l.forced (log l.segment) h.is_on))
    ∙ take-take l.forced l.forced (log l.segment) (omega arith) in
    subst (λ (xs : List LogRecord). Runs (on_disk after) from xs (end_of l)) (take-append-drop n rs)
    (runs_append (on_disk after) from (forced_of l) (end_of l) (take n rs) (drop n rs) (forced_stand l log after from (take n rs) h.forced_is earlier front) (kept_stand l log after (drop n rs) h.is_on h.kept_is e))

-- after a force
pub forced_list : (l new : LogFile) (log after : Segments) (from : Lsn) (rs : List LogRecord) (n : ℕ) → IsLog l log from rs n → take (l.forced + l.used) (after l.segment) ≡ tail l log → l.forced + l.used ≤ length (after l.segment)
    → ((s : ℕ) → (s ≡ l.segment → ⊥) → after s ≡ log s) → new.segment ≡ l.segment → new.forced ≡ l.forced + l.used → new.used ≡ 0 → IsLog new after from rs (length rs)
forced_list l new log after from rs n h e long others es ef eu =
    let place : end_of l ≡ forced_of new = same_place (end_of l) (forced_of new) (sym es) (sym ef) in
    let none : drop (length rs) rs ≡ [] = drop_all (length rs) rs (omega arith) in
    let end : forced_of new ≡ end_of new = same_place (forced_of new) (end_of new) refl (omega (arith, eu)) in
    record {
      within = omega arith;
      is_on = subst (λ (t : ℕ). new.forced ≤ length (after t)) (sym es) (omega (arith, ef, long));
      forced_is = subst (λ (xs : List LogRecord). Runs (on_disk after) from xs (forced_of new)) (sym (take_all (length rs) rs (omega arith)))
          (subst (λ (p : Lsn). Runs (on_disk after) from rs p) place (all_stand l log after from rs n h e (λ s lt. others s (λ same. omega (arith, lt, same)))));
      kept_is = subst (λ (xs : List LogRecord). Runs (in_buffer new) (forced_of new) xs (end_of new)) (sym none) end;
      fresh = λ s lt. others s (λ same. omega (arith, lt, same, es)) ∙ h.fresh s (omega (arith, lt, es));
    }

-- after a record was put behind the others
pub put_list : (l new : LogFile) (log : Segments) (from : Lsn) (rs : List LogRecord) (n : ℕ) (r : LogRecord) → IsLog l log from rs n → IsRecord (end_of l) r → follower r.body ≡ None → l.forced + l.used + size_of r ≤ 16777216
    → new.segment ≡ l.segment → new.forced ≡ l.forced → new.used ≡ l.used + size_of r → pending new ≡ pending l ++ stored_record (end_of l) r → IsLog new log from (rs ++ r ∷ []) n
put_list l new log from rs n r h is plain room es ef eu ep =
    let place : forced_of l ≡ forced_of new = same_place (forced_of l) (forced_of new) (sym es) (sym ef) in
    let last : behind (end_of l) r ≡ end_of new =
    ap (λ (o : Option ℕ). place_behind (end_of l) o (size_of r)) plain ∙ same_place (place_behind (end_of l) None (size_of r)) (end_of new) (sym es) (omega (arith, room, ef, eu)) in
    let grown : Runs (in_buffer new) (forced_of l) (drop n rs) (end_of l) =
    runs_to (in_buffer l) (in_buffer new) (forced_of l) (end_of l) (drop n rs) (λ p x first end s. keep p x s (kept_inside l p x s.1.record_is first end)) h.kept_is in
    let more : Runs (in_buffer new) (forced_of l) (drop n rs ++ r ∷ []) (end_of new) =
    subst (λ (p : Lsn). Runs (in_buffer new) (forced_of l) (drop n rs ++ r ∷ []) p) last (runs_push (in_buffer new) (forced_of l) (end_of l) (drop n rs) r grown stands) in
    record {
      within = omega (arith, h.within, length-append rs (r ∷ []));
      is_on = subst (λ (f : ℕ). f ≤ length (log new.segment)) (sym ef) (subst (λ (t : ℕ). l.forced ≤ length (log t)) (sym es) h.is_on);
      forced_is = subst (λ (p : Lsn). Runs (on_disk log) from (take n (rs ++ r ∷ [])) p) place (subst (λ (xs : List LogRecord). Runs (on_disk log) from xs (forced_of l)) (sym (take-append-le n rs (r ∷ []) h.within)) h.forced_is);
      kept_is = subst (λ (p : Lsn). Runs (in_buffer new) p (drop n (rs ++ r ∷ [])) (end_of new)) place
          (subst (λ (xs : List LogRecord). Runs (in_buffer new) (forced_of l) xs (end_of new)) (sym (drop-append-le n rs (r ∷ []) h.within)) more);
      fresh = λ s lt. h.fresh s (omega (arith, lt, es));
    }
  where
    same : take l.used (pending new) ≡ take l.used (pending l)
    same = ap (take l.used) ep ∙ take-append-le l.used (pending l) (stored_record (end_of l) r) (omega (arith, pending_len l))

    keep : (p : Lsn) (x : LogRecord) → StandsAt (in_buffer l) p x → (p.segment ≡ l.segment) × (l.forced ≤ p.offset) × (p.offset + size_of x ≤ l.forced + l.used) → StandsAt (in_buffer new) p x
    keep p x s i = stands_same (in_buffer l) (in_buffer new) p x
        (ap (λ (f : ℕ). take (size_of x) (drop (p.offset - f) (pending new))) ef ∙ same_part (pending l) (pending new) l.used (p.offset - l.forced) (size_of x) same (omega (arith, i.1, i.2))) s

    here : in_buffer new (end_of l) ≡ stored_record (end_of l) r
    here =
        let at : l.forced + l.used - new.forced ≡ length (pending l) + 0 = omega (arith, ef, pending_len l) in
        ap (λ (k : ℕ). drop k (pending new)) at ∙ ap (drop (length (pending l) + 0)) ep ∙ drop-append-add (pending l) (stored_record (end_of l) r) 0

    stands : StandsAt (in_buffer new) (end_of l) r
    stands = (drop (size_of r) (in_buffer new (end_of l)), stands_as (end_of l) r (in_buffer new (end_of l)) is (ap (take (size_of r)) here ∙ take_all (size_of r) (stored_record (end_of l) r) (omega (arith, length-stored (end_of l) r))))

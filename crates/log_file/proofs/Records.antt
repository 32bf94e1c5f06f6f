-- Records in a part of a log's bytes.
use Rattle.std.proofs.Common.{◌≡◌, ◌+◌, ◌-◌, ◌≤◌, ◌<◌, ℕ, List, [], ◌∷◌, ◌++◌, length, take, drop, sym, ap, subst, ◌∙◌, arith, inl, inr, append-nil}
use Rattle.std.specs.Prelude.{◌⊎◌, min, Result, Ok, Err, IfOk}
use Rattle.device.specs.declared.Failed.{Failed}
use Rattle.std.proofs.lemmas.Bool.{cases_eq, cases_lt}
use Rattle.std.proofs.lemmas.List.{drop_all, length-take-le, take_min, drop-append-le, length-drop, length-take, take-take, take-append-drop}
use Rattle.dby_bytes.specs.Numbers.{number_at, number_of}
use Rattle.dby_bytes.proofs.NumbersLemmas.{number_of-append}
use Rattle.dby_types.specs.declared.number.Lsn.{Lsn}
use Rattle.device.specs.Disk.{Segments, SameLog}
use Rattle.log_records.specs.Content.{LogBase, LogBody, LogRecord}
use Rattle.log_records.specs.Content.LogBase.{heap, entry, create, discard}
use Rattle.log_records.specs.Content.LogBody.{change, compensation, split, grow, commit, rolled_back, checkpoint, next_segment, purge}
use Rattle.log_records.specs.Fields.{fields_len}
use Rattle.log_records.specs.Format.{base_fields, body_fields, size_of, stored_record}
use Rattle.log_records.specs.Reading.{IsWhole}
use Rattle.log_records.specs.Rules.{Begins, IsBase, IsBody, BodyFits}
use Rattle.log_records.proofs.FieldLemmas.{length-field_bytes}
use Rattle.log_records.proofs.OneLemmas.{one_record}
use Rattle.log_records.proofs.WholeLemmas.{begins_whole}
use Rattle.log_file.specs.declared.file.LogFile.{LogFile}
use Rattle.log_file.specs.List.{Bytes, on_disk, in_buffer, in_log, StandsAt, behind, Reads}
use Rattle.log_file.specs.Reading.{IsPart, Judges, HasRead, Finds, Gives}
use Rattle.log_file.specs.Tail.{pending, IsOn, Same}
use Rattle.log_file.proofs.Standing.{stands_as, bytes_of_begins, long_enough, same_part}
use Rattle.log_file.proofs.Prefix.{in_forced, in_kept, in_other}

-- a number in a front of bytes
number_in_front : (b : List ℕ) (m at n : ℕ) → at + n ≤ m → m ≤ length (take m b) → number_at n b at ≡ number_at n (take m b) at
unfolding number_at
number_in_front b m at n fits long =
    let parts : drop at b ≡ drop at (take m b) ++ drop m b =
    ap (drop at) (sym (take-append-drop m b)) ∙ drop-append-le at (take m b) (drop m b) (omega (arith, fits, long)) in
    ap (number_of n) parts ∙ number_of-append n (drop at (take m b)) (drop m b) (omega (arith, fits, long, length-drop at (take m b)))

base_bound : (b : LogBase) → IsBase b → fields_len (base_fields b) ≤ 140000
base_bound (heap h) i = omega (arith, i.lengths, i.counted)
base_bound (entry e) i = omega (arith, i.lengths, i.counted)
base_bound (create c t) i = omega arith
base_bound (discard c) i = omega arith

-- no record is longer than a checkpoint of 65,535 transactions
body_bound : (at : Lsn) (b : LogBody) → IsBody at b → BodyFits b → 40 + fields_len (body_fields b) ≤ 1048622
body_bound at (change b) i f = omega (arith, base_bound b i)
body_bound at (compensation next b) i f = omega (arith, base_bound b i.1, length-field_bytes (base_fields b))
body_bound at (split c n ps) i f = omega (arith, i.lengths, f.1.0)
body_bound at (grow c p k) i f = omega arith
body_bound at commit i f = omega arith
body_bound at rolled_back i f = omega arith
body_bound at (checkpoint m) i f = omega (arith, i.lengths, f.1.1.1.1.0)
body_bound at (next_segment s) i f = omega arith
body_bound at (purge c p k) i f = omega arith

pub longest : (at : Lsn) (b : List ℕ) (r : LogRecord) (rest : List ℕ) → Begins at b r rest → size_of r ≤ 1048622
longest at b r rest h = body_bound at r.body h.record_is.legal.body_is h.record_is.body_fits

-- the bytes of a record alone
pub alone : (at : Lsn) (b : List ℕ) (r : LogRecord) (rest : List ℕ) (n : ℕ) → Begins at b r rest → n ≡ size_of r → Begins at (take n b) r []
alone at b r rest n h e = record { record_is = h.record_is; bytes = ap (λ (k : ℕ). take k b) e ∙ bytes_of_begins at r b rest h ∙ sym (append-nil (stored_record at r)) }

-- a size that was judged is that of a whole record
pub judged_whole : (at : Lsn) (b : List ℕ) (n : ℕ) (next : Lsn) (k : ℕ) → Judges at (take n b) next k → 0 < k → IsWhole at (take k b) k
judged_whole at b n next k (inl h) some = absurd (omega (arith, h.0, some))
judged_whole at b n next k (inr (r, rest, h)) some =
    let fits : k ≤ n = omega (arith, h.1, long_enough at r (take n b) rest h.0, length-take n b) in
    let whole : IsWhole at (take k (take n b)) (size_of r) = begins_whole at (take k (take n b)) r [] (alone at (take n b) r rest k h.0 h.1) in
    subst (λ (x : List ℕ). IsWhole at x k) (take-take k n b fits) (subst (λ (m : ℕ). IsWhole at (take k (take n b)) m) (sym h.1) whole)

pub judged_small : (at : Lsn) (b : List ℕ) (next : Lsn) (n : ℕ) → Judges at b next n → n ≤ 1048622
judged_small at b next n (inl h) = omega (arith, h.0)
judged_small at b next n (inr (r, rest, h)) = omega (arith, h.1, longest at b r rest h.0)

-- a record's front tells its length
pub told : (at : Lsn) (front whole rest : List ℕ) (r : LogRecord) → front ≡ take 40 whole → Begins at whole r rest → number_at 4 front 8 ≡ size_of r
told at front whole rest r e h =
    ap (λ (x : List ℕ). number_at 4 x 8) e ∙ sym (number_in_front whole 40 8 4 (omega arith) (omega (arith, length-take 40 whole, long_enough at r whole rest h))) ∙ (begins_whole at whole r rest h).counted

-- no record stands in no bytes
pub none_read : (l : LogFile) → l.found ≡ 0 → (r : LogRecord) → HasRead l r → ⊥
none_read l e r h = omega (arith, long_enough l.from r (take l.found l.window.items) [] h, length-take l.found l.window.items, e)

-- what was judged of a part is what stands in the whole
pub finds : (b : Bytes) (at : Lsn) (old new : LogFile) (size n : ℕ) → IsPart (b at) old.window.items size n → ((r : LogRecord) (rest : List ℕ) → Begins at (b at) r rest → size_of r ≤ size) → Judges at (take n old.window.items) new.at new.found
    → new.from ≡ at → new.window ≡ old.window → Finds b at new
finds b at old new size n part told j ef ew = record { from_is = ef; found_is = by_way j }
  where
    shown : take n old.window.items ≡ take n (b at)
    shown = part.1

    items : new.window.items ≡ old.window.items
    items = ap (λ (v : _). v.items) ew

    by_way : Judges at (take n old.window.items) new.at new.found → ((r : LogRecord) × (StandsAt b at r × HasRead new r × (new.at ≡ behind at r))) ⊎ ((new.at ≡ at) × ((r : LogRecord) → HasRead new r → ⊥) × ((r : LogRecord) → StandsAt b at r → ⊥))
    by_way (inl h) = inr (h.1, none_read new h.0, λ r s. h.2 r (drop (size_of r) (take n old.window.items)) (stands_as at r (take n old.window.items) s.1.record_is (cut r s ∙ bytes_of_begins at r (b at) s.0 s.1)))
      where
        cut : (r : LogRecord) → (s : StandsAt b at r) → take (size_of r) (take n old.window.items) ≡ take (size_of r) (b at)
        cut r s =
            let fits : size_of r ≤ n = omega (arith, told r s.0 s.1, long_enough at r (b at) s.0 s.1, part.0) in
            ap (take (size_of r)) shown ∙ take-take (size_of r) n (b at) fits
    by_way (inr (r, rest, h)) =
        let fits : size_of r ≤ n = omega (arith, long_enough at r (take n old.window.items) rest h.0, length-take n old.window.items) in
        let cut : take (size_of r) (b at) ≡ stored_record at r = sym (take-take (size_of r) n (b at) fits) ∙ ap (take (size_of r)) (sym shown) ∙ bytes_of_begins at r (take n old.window.items) rest h.0 in
        let read : take new.found new.window.items ≡ stored_record at r =
        ap (λ (k : ℕ). take k new.window.items) h.1 ∙ ap (take (size_of r)) items ∙ sym (take-take (size_of r) n old.window.items fits) ∙ bytes_of_begins at r (take n old.window.items) rest h.0 in
        let again : HasRead new r =
        subst (λ (p : Lsn). Begins p (take new.found new.window.items) r []) (sym ef) (record { record_is = h.0.record_is; bytes = read ∙ sym (append-nil (stored_record at r)) }) in
        inl (r, ((drop (size_of r) (b at), stands_as at r (b at) h.0.record_is cut), again, h.2))

-- in the order of the list
pub gives : (b : Bytes) (at : Lsn) (new : LogFile) → Finds b at new → (rs : List LogRecord) → Reads b at rs → Gives b rs new
gives b at new f [] none = by_way f.found_is
  where
    by_way : ((r : LogRecord) × (StandsAt b at r × HasRead new r × (new.at ≡ behind at r))) ⊎ ((new.at ≡ at) × ((r : LogRecord) → HasRead new r → ⊥) × ((r : LogRecord) → StandsAt b at r → ⊥)) → Gives b [] new
    by_way (inl h) = absurd (none h.0 h.1.0)
    by_way (inr h) = (h.1, subst (λ (p : Lsn). Reads b p []) (sym h.0) none)
gives b at new f (r ∷ rs) reads = by_way f.found_is
  where
    by_way : ((x : LogRecord) × (StandsAt b at x × HasRead new x × (new.at ≡ behind at x))) ⊎ ((new.at ≡ at) × ((x : LogRecord) → HasRead new x → ⊥) × ((x : LogRecord) → StandsAt b at x → ⊥)) → Gives b (r ∷ rs) new
    by_way (inl h) =
        let same : h.0 ≡ r = one_record at (b at) h.0 r h.1.0.0 reads.0.0 h.1.0.1 reads.0.1 in
        (subst (λ (x : LogRecord). HasRead new x) same h.1.1, subst (λ (p : Lsn). Reads b p rs) (sym (h.1.2 ∙ ap (λ (x : LogRecord). behind at x) same)) reads.1)
    by_way (inr h) = absurd (h.2 r reads.0)

-- a log that is the same has the same bytes
pub same_bytes : (old new : LogFile) (before after : Segments) → Same old new → SameLog before after → (at : Lsn) → in_log new after at ≡ in_log old before at
same_bytes old new before after e still at = by_place (cases_eq at.segment old.segment)
  where
    here : at.segment ≡ old.segment → (at.offset < old.forced) ⊎ (old.forced ≤ at.offset) → in_log new after at ≡ in_log old before at
    here es (inl lt) =
        in_forced new after at (es ∙ sym e.segment_is) (omega (arith, lt, e.forced_is)) ∙ ap (λ (f : ℕ). drop at.offset (take f (after new.segment))) e.forced_is ∙ ap (λ (t : ℕ). drop at.offset (take old.forced (after t))) e.segment_is
        ∙ ap (λ (x : List ℕ). drop at.offset (take old.forced x)) (still old.segment) ∙ sym (in_forced old before at es lt)
    here es (inr le) =
        in_kept new after at (es ∙ sym e.segment_is) (omega (arith, le, e.forced_is)) ∙ ap (λ (f : ℕ). drop (at.offset - f) (pending new)) e.forced_is ∙ ap (drop (at.offset - old.forced)) e.pending_is ∙ sym (in_kept old before at es le)

    by_place : (at.segment ≡ old.segment) ⊎ (at.segment ≡ old.segment → ⊥) → in_log new after at ≡ in_log old before at
    by_place (inl es) = here es (cases_lt at.offset old.forced)
    by_place (inr ne) = in_other new after at (λ es. ne (es ∙ e.segment_is)) ∙ ap (drop at.offset) (still at.segment) ∙ sym (in_other old before at ne)

-- a front of the forced bytes
pub part_forced : (l : LogFile) (log : Segments) (at : Lsn) (part : List ℕ) (n m k : ℕ) → IsOn l log → at.segment ≡ l.segment → at.offset < l.forced → m ≡ min n (l.forced - at.offset) → IsPart (on_disk log at) part m k → IsPart (in_log l log at) part n k
part_forced l log at part n m k on es lt em p =
    let bytes : in_log l log at ≡ drop at.offset (take l.forced (log l.segment)) = in_forced l log at es lt in
    let seg : on_disk log at ≡ drop at.offset (log l.segment) = ap (λ (t : ℕ). drop at.offset (log t)) es in
    let have : length (in_log l log at) ≡ l.forced - at.offset = ap length bytes ∙ length-drop at.offset (take l.forced (log l.segment)) ∙ ap (λ (f : ℕ). f - at.offset) (length-take-le l.forced (log l.segment) on) in
    let least : k ≡ min n (length (in_log l log at)) = omega (arith, p.0, em, have, ap length seg, length-drop at.offset (log l.segment), on, lt) in
    let cut : take k (drop at.offset (take l.forced (log l.segment))) ≡ take k (drop at.offset (log l.segment)) =
    same_part (log l.segment) (take l.forced (log l.segment)) l.forced at.offset k (take-take l.forced l.forced (log l.segment) (omega arith)) (omega (arith, least, have, lt)) in
    (least, p.1 ∙ ap (take k) seg ∙ sym cut ∙ ap (take k) (sym bytes))

-- two readings of the same
pub part_same : (x y part : List ℕ) (n k : ℕ) → x ≡ y → IsPart x part n k → IsPart y part n k
part_same x y part n k e p = subst (λ (z : List ℕ). IsPart z part n k) e p

-- what was read first tells how much is to be read
pub told_front : (at : Lsn) (b front : List ℕ) (k : ℕ) → IsPart b front 40 k → take k front ≡ take 40 b
told_front at b front k p = p.1 ∙ ap (λ (m : ℕ). take m b) p.0 ∙ take_min 40 b

pub fetched : (r : Result ℕ Failed) (l : LogFile) (log : Segments) (at : Lsn) (part items : List ℕ) (n m : ℕ) → IsOn l log → at.segment ≡ l.segment → at.offset < l.forced → m ≡ min n (l.forced - at.offset) → items ≡ part → IfOk r (λ k. IsPart (on_disk log at) part m k)
    → IfOk r (λ k. IsPart (in_log l log at) items n k)
fetched (Ok k) l log at part items n m on es lt em ep p = subst (λ (x : List ℕ). IsPart (in_log l log at) x n k) (sym ep) (part_forced l log at part n m k on es lt em p)
fetched (Err e) l log at part items n m on es lt em ep p = tt

-- what is read of bytes is read of the same bytes
pub reads_same : (b c : Bytes) (at : Lsn) (rs : List LogRecord) → ((p : Lsn) → c p ≡ b p) → Reads b at rs → Reads c at rs
reads_same b c at [] same h = λ r s. h r (s.0, subst (λ (x : List ℕ). Begins at x r s.0) (same at) s.1)
reads_same b c at (r ∷ rs) same h = ((h.0.0, subst (λ (x : List ℕ). Begins at x r h.0.0) (sym (same at)) h.0.1), reads_same b c (behind at r) rs same h.1)

pub gives_same : (b c : Bytes) (rs : List LogRecord) (new : LogFile) → ((p : Lsn) → c p ≡ b p) → Gives b rs new → Gives c rs new
gives_same b c [] new same h = (h.0, reads_same b c new.at [] same h.1)
gives_same b c (r ∷ rs) new same h = (h.0, reads_same b c new.at rs same h.1)

-- a log without bytes in a segment without bytes reads what the disk has
pub new-reads : (l : LogFile) (log : Segments) (segment : ℕ) → l.segment ≡ segment → l.forced ≡ 0 → l.used ≡ 0 → log segment ≡ [] → (at : Lsn) → in_log l log at ≡ on_disk log at
new-reads l log segment es ef eu none at = elim (cases_eq at.segment l.segment) [
  | inl e ↦
      let here : in_log l log at ≡ in_buffer l at = in_kept l log at e (omega (arith, ef)) in
      let empty : pending l ≡ [] = ap (λ (k : ℕ). take k l.buffer.items) eu in
      let bytes : log at.segment ≡ [] = ap log (e ∙ es) ∙ none in
      here ∙ ap (drop (at.offset - l.forced)) empty ∙ drop_all (at.offset - l.forced) [] (omega arith) ∙ sym (ap (drop at.offset) bytes ∙ drop_all at.offset [] (omega arith))
  | inr ne ↦ in_other l log at ne
]

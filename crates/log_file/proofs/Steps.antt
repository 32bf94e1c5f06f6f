-- The log's list, and what a crash leaves of it, after each call.
use Rattle.std.proofs.Common.{◌≡◌, ◌+◌, ◌-◌, ◌≤◌, ◌<◌, ℕ, List, [], ◌∷◌, ◌++◌, length, take, drop, refl, sym, ap, subst, ◌∙◌, arith, append_assoc, append-nil, length-append}
use Rattle.std.specs.Prelude.{Option, Some, None, Result, Ok, Err, OnOk}
use Rattle.std.proofs.lemmas.List.{take_all, drop_all, take_at, drop_at, take-take, length-take, length-take-le}
use Rattle.dby_types.specs.declared.number.Lsn.{Lsn}
use Rattle.device.specs.Disk.{Segments, MayLog, SameLog, OnlyLog, NoNewLog}
use Rattle.log_records.specs.Content.{LogRecord}
use Rattle.log_records.specs.Format.{size_of, stored_record}
use Rattle.log_records.specs.Rules.{IsRecord}
use Rattle.log_records.proofs.WholeLemmas.{length-stored}
use Rattle.log_file.specs.declared.file.LogFile.{LogFile}
use Rattle.log_file.specs.Tail.{pending, end_of, tail, IsOn, Left, IsNext, Same, Grows}
use Rattle.log_file.specs.List.{on_disk, in_buffer, StandsAt, follower, place_behind, behind, Runs, forced_of, IsLog}
use Rattle.log_file.specs.Crash.{IsLeft, KeepsForced, Stands, Stays, Forces, Holds, Gains}
use Rattle.log_file.proofs.Growing.{named_size, names_later}
use Rattle.log_file.proofs.Standing.{same_place, stands_as, stands_same, same_part}
use Rattle.log_file.proofs.Runs.{runs_to, runs_push}
use Rattle.log_file.proofs.Lists.{pending_len, forced_stand, forced_list, put_list, all_stand}
use Rattle.log_file.proofs.Prefix.{kept_left}

-- a log that is the same but for places that are read, on a disk that has the forced bytes
same_list : (old new : LogFile) (before after : Segments) (from : Lsn) (rs : List LogRecord) (n : ℕ) → IsLog old before from rs n → Same old new → ((s : ℕ) → IsLeft old before s (after s)) → IsLog new after from rs n
same_list old new before after from rs n h e left =
    let place : forced_of old ≡ forced_of new = same_place (forced_of old) (forced_of new) (sym e.segment_is) (sym e.forced_is) in
    let end : end_of old ≡ end_of new = same_place (end_of old) (end_of new) (sym e.segment_is) (omega (arith, e.forced_is, e.used_is)) in
    let kept : Runs (in_buffer new) (forced_of old) (drop n rs) (end_of old) =
    runs_to (in_buffer old) (in_buffer new) (forced_of old) (end_of old) (drop n rs)
    (λ p r first last s. stands_same (in_buffer old) (in_buffer new) p r (ap (λ (f : ℕ). take (size_of r) (drop (p.offset - f) (pending new))) e.forced_is ∙ ap (λ (x : List ℕ). take (size_of r) (drop (p.offset - old.forced) x)) e.pending_is) s) h.kept_is in
    let on : old.forced ≤ length (after old.segment) = omega (arith, length-take-more) in
    record {
      within = h.within;
      is_on = subst (λ (f : ℕ). f ≤ length (after new.segment)) (sym e.forced_is) (subst (λ (t : ℕ). old.forced ≤ length (after t)) (sym e.segment_is) on);
      forced_is = subst (λ (p : Lsn). Runs (on_disk after) from (take n rs) p) place (forced_stand old before after from (take n rs) h.forced_is (λ s lt. (left s).earlier lt) ((left old.segment).current refl));
      kept_is = subst (λ (p : Lsn). Runs (in_buffer new) p (drop n rs) (end_of new)) place (subst (λ (p : Lsn). Runs (in_buffer new) (forced_of old) (drop n rs) p) end kept);
      fresh = λ s lt. (left s).later (omega (arith, lt, e.segment_is));
    }
  where
    length-take-more : old.forced ≤ length (after old.segment)
    length-take-more = omega (arith, length-take old.forced (after old.segment), ap length ((left old.segment).current refl), length-take-le old.forced (before old.segment) h.is_on)

-- and so for what a crash leaves
left_again : (old new : LogFile) (before after : Segments) (s : ℕ) (b : List ℕ) → old.segment ≡ new.segment → old.forced ≡ new.forced → IsLeft old before s b → IsLeft old before s (after s) → IsLeft old before old.segment (after old.segment) → IsLeft new after s b
left_again old new before after s b es ef b_is s_is seg_is = record {
  earlier = λ lt. b_is.earlier (omega (arith, lt, es)) ∙ sym (s_is.earlier (omega (arith, lt, es)));
  current = λ e. subst (λ (f : ℕ). take f b ≡ take f (after new.segment)) ef (subst (λ (t : ℕ). take old.forced b ≡ take old.forced (after t)) es (b_is.current (e ∙ sym es) ∙ sym (seg_is.current refl)));
  later = λ lt. b_is.later (omega (arith, lt, es));
}

-- a call that failed
pub stays : (old new : LogFile) (before after : Segments) (may_before may_after : MayLog) → Same old new → KeepsForced (forced_of old) may_before may_after → ((s : ℕ) → may_after s (after s)) → Stays old new before after may_before may_after
stays old new before after may_before may_after e keeps reads = λ from rs n h.
    let left = λ (s : ℕ) (b : List ℕ) (m : may_after s b). kept_left old before may_before from rs n h s b (keeps s b m) in record {
      list = same_list old new before after from rs n h.list e (λ s. left s (after s) (reads s));
      safe = λ s b m. left_again old new before after s b (sym e.segment_is) (sym e.forced_is) (left s b m) (left s (after s) (reads s)) (left old.segment (after old.segment) (reads old.segment));
    }

-- after a sync a crash leaves what reads
only_left : (l : LogFile) (log : Segments) (may_log : MayLog) → OnlyLog log may_log → ((s : ℕ) → l.segment < s → log s ≡ []) → (s : ℕ) (b : List ℕ) → may_log s b → IsLeft l log s b
only_left l log may_log only fresh s b m = record {
  earlier = λ lt. only s b m;
  current = λ e. ap (take l.forced) (only s b m ∙ ap log e);
  later = λ lt. only s b m ∙ fresh s lt;
}

-- a force
pub forces : (old new : LogFile) (before after : Segments) (may_before may_after : MayLog) → (IsOn old before → Grows old new before after [] × OnlyLog after may_after) → new.forced ≡ old.forced + old.used → new.used ≡ 0 → Forces old new before after may_before may_after
forces old new before after may_before may_after grows ef eu = λ from rs n h.
    let g = (grows h.list.is_on).0 in
    let none : pending new ≡ [] = ap (λ (k : ℕ). take k new.buffer.items) eu in
    let e : take (old.forced + old.used) (after old.segment) ≡ tail old before =
    ap (λ (k : ℕ). take k (after old.segment)) (sym ef) ∙ ap (λ (t : ℕ). take new.forced (after t)) (sym g.segment_is) ∙ sym (append-nil (take new.forced (after new.segment)))
    ∙ ap (λ (x : List ℕ). take new.forced (after new.segment) ++ x) (sym none) ∙ g.tail_is ∙ append-nil (tail old before) in
    let long : old.forced + old.used ≤ length (after old.segment) = subst (λ (t : ℕ). old.forced + old.used ≤ length (after t)) g.segment_is (omega (arith, g.is_on, ef)) in
    let list : IsLog new after from rs (length rs) = forced_list old new before after from rs n h.list e long g.others g.segment_is ef eu in
    record { list = list; safe = only_left new after may_after (grows h.list.is_on).1 list.fresh }

-- a record put behind the others
pub puts : (old new : LogFile) (log : Segments) (may_log : MayLog) (r : LogRecord) → IsRecord (end_of old) r → follower r.body ≡ None → old.forced + old.used + size_of r ≤ 16777216 → new.segment ≡ old.segment → new.forced ≡ old.forced → new.used ≡ old.used + size_of r
    → pending new ≡ pending old ++ stored_record (end_of old) r → (from : Lsn) (rs : List LogRecord) (n : ℕ) → Stands old log may_log from rs n → Stands new log may_log from (rs ++ r ∷ []) n
puts old new log may_log r is plain room es ef eu ep from rs n h = record {
  list = put_list old new log from rs n r h.list is plain room es ef eu ep;
  safe = λ s b m. record {
    earlier = λ lt. (h.safe s b m).earlier (omega (arith, lt, es));
    current = λ e. subst (λ (f : ℕ). take f b ≡ take f (log new.segment)) (sym ef) (subst (λ (t : ℕ). take old.forced b ≡ take old.forced (log t)) (sym es) ((h.safe s b m).current (e ∙ es)));
    later = λ lt. (h.safe s b m).later (omega (arith, lt, es));
  };
}

-- the next segment begun
pub begins_next : (named : LogRecord) (seg : ℕ) (old new : LogFile) (before after : Segments) (may_before may_after : MayLog) → follower named.body ≡ Some seg → (IsOn old before → Left old named before after × OnlyLog after may_after) → IsNext seg old new
    → (from : Lsn) (rs : List LogRecord) (n : ℕ) → Stands old before may_before from rs n → Stands new after may_after from (rs ++ named ∷ []) (length (rs ++ named ∷ []))
begins_next named seg old new before after may_before may_after names leaves next from rs n h = record { list = list; safe = only_left new after may_after (leaves h.list.is_on).1 list.fresh }
  where
    left : Left old named before after
    left = (leaves h.list.is_on).0

    size : size_of named ≡ 44
    size = named_size named.body seg names

    later : old.segment < seg
    later = names_later named.body (end_of old) seg names left.record_is.legal.body_is

    all : List LogRecord
    all = rs ++ named ∷ []

    earlier : (s : ℕ) → s < old.segment → after s ≡ before s
    earlier s lt = left.others s (λ e. omega (arith, lt, e))

    tail_len : length (tail old before) ≡ old.forced + old.used
    tail_len = length-append (take old.forced (before old.segment)) (pending old) ∙ omega (arith, length-take-le old.forced (before old.segment) h.list.is_on, pending_len old)

    stored_len : length (stored_record (end_of old) named) ≡ 44
    stored_len = length-stored (end_of old) named ∙ size

    front : take (old.forced + old.used) (after old.segment) ≡ tail old before
    front =
        sym (take-take (old.forced + old.used) (old.forced + old.used + 44) (after old.segment) (omega arith)) ∙ ap (take (old.forced + old.used)) left.bytes
        ∙ take_at (tail old before) (stored_record (end_of old) named) (old.forced + old.used) tail_len

    whole : take (old.forced + old.used + 44) (after old.segment) ≡ take (old.forced + old.used + 44) (tail old before ++ stored_record (end_of old) named)
    whole =
        left.bytes
        ∙ sym (take_all (old.forced + old.used + 44) (tail old before ++ stored_record (end_of old) named) (omega (arith, length-append (tail old before) (stored_record (end_of old) named), tail_len, stored_len)))

    last : take 44 (drop (old.forced + old.used) (after old.segment)) ≡ stored_record (end_of old) named
    last =
        same_part (tail old before ++ stored_record (end_of old) named) (after old.segment) (old.forced + old.used + 44) (old.forced + old.used) 44 whole (omega arith)
        ∙ ap (take 44) (drop_at (tail old before) (stored_record (end_of old) named) (old.forced + old.used) tail_len) ∙ take_all 44 (stored_record (end_of old) named) (omega (arith, stored_len))

    stands : StandsAt (on_disk after) (end_of old) named
    stands = (drop (size_of named) (on_disk after (end_of old)), stands_as (end_of old) named (on_disk after (end_of old)) left.record_is (ap (λ (k : ℕ). take k (on_disk after (end_of old))) size ∙ last))

    start : behind (end_of old) named ≡ forced_of new
    start = ap (λ (o : Option ℕ). place_behind (end_of old) o (size_of named)) names ∙ same_place (place_behind (end_of old) (Some seg) (size_of named)) (forced_of new) (sym next.segment_is) (sym next.forced_is)

    forced : Runs (on_disk after) from all (forced_of new)
    forced = subst (λ (p : Lsn). Runs (on_disk after) from all p) start (runs_push (on_disk after) from (end_of old) rs named (all_stand old before after from rs n h.list front earlier) stands)

    list : IsLog new after from all (length all)
    list = record {
      within = omega arith;
      is_on = omega (arith, next.forced_is);
      forced_is = subst (λ (xs : List LogRecord). Runs (on_disk after) from xs (forced_of new)) (sym (take_all (length all) all (omega arith))) forced;
      kept_is = subst (λ (xs : List LogRecord). Runs (in_buffer new) (forced_of new) xs (end_of new)) (sym (drop_all (length all) all (omega arith))) (same_place (forced_of new) (end_of new) refl (omega (arith, next.used_is)));
      fresh = λ s lt. left.others s (λ e. omega (arith, lt, e, next.segment_is, later)) ∙ h.list.fresh s (omega (arith, lt, next.segment_is, later));
    }

-- nothing changed
pub same : (l : LogFile) → Same l l
same l = record { segment_is = refl; forced_is = refl; used_is = refl; pending_is = refl; point_is = refl }

-- what is forced is no less
pub holds : {T E : Type 0} (r : Result T E) (old new : LogFile) (before after : Segments) (may_before may_after : MayLog) → OnOk r (Forces old new before after may_before may_after) → OnOk r (Holds old new before after may_before may_after)
holds (Ok x) old new before after may_before may_after f = λ from rs n h. (length rs, h.list.within, f from rs n h)
holds (Err e) old new before after may_before may_after f = tt

-- a segment that was left is left still
pub left_still : (old : LogFile) (r : LogRecord) (before mid after : Segments) → SameLog mid after → Left old r before mid → Left old r before after
left_still old r before mid after still left = record {
  record_is = left.record_is;
  bytes = ap (take (old.forced + old.used + 44)) (still old.segment) ∙ left.bytes;
  others = λ s ne. still s ∙ left.others s ne;
}

-- the list gains the record that names the segment that follows
pub gains_next : (r : LogRecord) (next : ℕ) (old new : LogFile) (before mid after : Segments) (may_before may_mid may_after : MayLog) → follower r.body ≡ Some next → (IsOn old before → Left old r before mid × OnlyLog mid may_mid) → SameLog mid after
    → NoNewLog may_mid may_after → IsNext next old new → Gains (r ∷ []) old new before after may_before may_after
gains_next r next old new before mid after may_before may_mid may_after names leaves still quiet begun = λ from rs n h. (
  length (rs ++ r ∷ []),
  omega (arith, h.list.within, length-append rs (r ∷ [])),
  begins_next r next old new before after may_before may_after names (λ on. (left_still old r before mid after still (leaves on).0, λ s l m. (leaves on).1 s l (quiet s l m) ∙ sym (still s))) begun from rs n h,
)

-- and then another one
pub gains_more : (old mid new : LogFile) (before after : Segments) (may_before may_after : MayLog) (x r : LogRecord) → Gains (x ∷ []) old mid before after may_before may_after
    → ((from : Lsn) (rs : List LogRecord) (n : ℕ) → Stands mid after may_after from rs n → Stands new after may_after from (rs ++ r ∷ []) n) → Gains (x ∷ r ∷ []) old new before after may_before may_after
gains_more old mid new before after may_before may_after x r first then = λ from rs n h.
    let m = first from rs n h in (
      m.0,
      m.1,
      subst (λ (xs : List LogRecord). Stands new after may_after from xs m.0) (append_assoc rs (x ∷ []) (r ∷ [])) (then from (rs ++ x ∷ []) m.0 m.2),
    )

-- where nothing was forced that wasn't asked for
pub gains_one : (old mid new : LogFile) (before after : Segments) (may_before may_after : MayLog) (r : LogRecord) → Holds old mid before after may_before may_after
    → ((from : Lsn) (rs : List LogRecord) (n : ℕ) → Stands mid after may_after from rs n → Stands new after may_after from (rs ++ r ∷ []) n) → Gains (r ∷ []) old new before after may_before may_after
gains_one old mid new before after may_before may_after r first then = λ from rs n h. let m = first from rs n h in (m.0, m.1, then from rs m.0 m.2)

-- the same, and the same again
pub same_again : (old mid new : LogFile) → Same old mid → Same mid new → Same old new
same_again old mid new a b = record {
  segment_is = b.segment_is ∙ a.segment_is;
  forced_is = b.forced_is ∙ a.forced_is;
  used_is = b.used_is ∙ a.used_is;
  pending_is = b.pending_is ∙ a.pending_is;
  point_is = b.point_is ∙ a.point_is;
}

pub same_forced : (old new : LogFile) → Same old new → forced_of new ≡ forced_of old
same_forced old new e = same_place (forced_of new) (forced_of old) e.segment_is e.forced_is

pub still_on : (old new : LogFile) (before after : Segments) → Same old new → SameLog before after → IsOn old before → IsOn new after
still_on old new before after e still on = omega (arith, e.forced_is, on, ap length (ap after e.segment_is ∙ still old.segment))

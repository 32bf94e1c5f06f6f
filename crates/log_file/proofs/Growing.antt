-- What a force and an append do to the current segment.
use Rattle.std.proofs.Common.{◌≡◌, ◌+◌, ◌-◌, ◌≤◌, ◌<◌, ℕ, List, [], ◌++◌, length, take, drop, replicate, refl, inl, inr, sym, ap, ◌∙◌, arith, append-nil, append_assoc, length-append, length-drop}
use Rattle.std.proofs.lemmas.List.{take_at, drop_all, take-take, take-append-le, length-take-le}
use Rattle.std.specs.Prelude.{Result, Ok, Err, OnOk, Option, Some, None}
use Rattle.dby_types.specs.declared.number.Lsn.{Lsn}
use Rattle.log_records.specs.Content.{LogBody, LogRecord}
use Rattle.log_records.specs.Content.LogBody.{change, compensation, split, grow, commit, rolled_back, checkpoint, next_segment, purge}
use Rattle.log_records.specs.Fields.{fields_len}
use Rattle.log_records.specs.Format.{body_fields, size_of, stored_record}
use Rattle.log_records.specs.Rules.{IsBack, IsBody, IsLegal, IsRecord, last_of}
use Rattle.log_records.proofs.WholeLemmas.{length-stored}
use Rattle.device.specs.Disk.{Segments, MayLog, SegmentIs, OnlyLog, written_at}
use Rattle.log_file.specs.declared.file.LogFile.{LogFile}
use Rattle.log_file.specs.Append.{EndsWith}
use Rattle.log_file.specs.List.{follower, place_behind}
use Rattle.log_file.specs.Tail.{pending, end_of, IsOn, tail, next_of, IsNext, Grows, Left}
use Rattle.log_file.proofs.Standing.{same_place}

-- bytes written at a place that the segment reaches
front : (old : List ℕ) (at : ℕ) (bytes : List ℕ) (n : ℕ) → at ≤ length old → n ≡ length bytes → take (at + n) (written_at old at bytes) ≡ take at old ++ bytes
front old at bytes n reach en =
    let zeros : List ℕ = replicate (at - length old) 0 in
    let head : take at (old ++ replicate (at - length old) 0) ≡ take at old = take-append-le at old (replicate (at - length old) 0) reach in
    let long : length (take at old ++ bytes) ≡ at + n = length-append (take at old) bytes ∙ omega (arith, length-take-le at old reach, en) in
    ap (λ (l : List ℕ). take (at + n) (l ++ (bytes ++ drop (at + length bytes) old))) head
    ∙ ap (take (at + n)) (sym (append_assoc (take at old) bytes (drop (at + length bytes) old)))
    ∙ take_at (take at old ++ bytes) (drop (at + length bytes) old) (at + n) long

reaches : (old : List ℕ) (at : ℕ) (bytes : List ℕ) (n : ℕ) → at ≤ length old → n ≡ length bytes → at + n ≤ length (written_at old at bytes)
reaches old at bytes n reach en =
    let head : take at (old ++ replicate (at - length old) 0) ≡ take at old = take-append-le at old (replicate (at - length old) 0) reach in
    omega (arith, length-append (take at (old ++ replicate (at - length old) 0)) (bytes ++ drop (at + length bytes) old), ap length head, length-take-le at old reach, length-append bytes (drop (at + length bytes) old), en)

-- a force
pub forced_grows : (old new : LogFile) (before after : Segments) (part : List ℕ) → IsOn old before → part ≡ pending old → SegmentIs old.segment (written_at (before old.segment) old.forced part) before after
    → new.segment ≡ old.segment → new.forced ≡ old.forced + old.used → new.used ≡ 0 → Grows old new before after []
forced_grows old new before after part on ep wrote es ef eu =
    let len : old.used ≡ length part = sym (ap length ep ∙ length-take-le old.used old.buffer.items (omega (arith, old.used_is, old.buffer_is))) in
    let now : after new.segment ≡ written_at (before old.segment) old.forced part = ap after es ∙ wrote.0 in
    let none : take new.used new.buffer.items ≡ [] = ap (λ (n : ℕ). take n new.buffer.items) eu in
    let cut : take new.forced (after new.segment) ≡ take old.forced (before old.segment) ++ part =
    ap (λ (n : ℕ). take n (after new.segment)) ef ∙ ap (take (old.forced + old.used)) now ∙ front (before old.segment) old.forced part old.used on len in
    record {
      segment_is = es;
      tail_is = ap (λ (l : List ℕ). take new.forced (after new.segment) ++ l) none ∙ append-nil (take new.forced (after new.segment)) ∙ cut ∙ ap (λ (l : List ℕ). take old.forced (before old.segment) ++ l) ep
          ∙ sym (append-nil (tail old before));
      others = wrote.1;
      is_on = omega (arith, ef, ap length now, reaches (before old.segment) old.forced part old.used on len);
    }

-- bytes written into a buffer behind those that it has
pub put_behind : (b ys new : List ℕ) (at n k : ℕ) (bytes rest : List ℕ) → at + k ≤ length b → length bytes ≡ k → ys ≡ bytes ++ rest → new ≡ take at b ++ (ys ++ drop (length b - at) (drop at b)) → take (at + k) new ≡ take at b ++ bytes
put_behind b ys new at n k bytes rest fits len ey en =
    let none : drop (length b - at) (drop at b) ≡ [] = drop_all (length b - at) (drop at b) (omega (arith, length-drop at b)) in
    let whole : new ≡ (take at b ++ bytes) ++ rest =
    en ∙ ap (λ (l : List ℕ). take at b ++ (ys ++ l)) none ∙ ap (λ (l : List ℕ). take at b ++ l) (append-nil ys ∙ ey) ∙ sym (append_assoc (take at b) bytes rest) in
    let long : length (take at b ++ bytes) ≡ at + k = length-append (take at b) bytes ∙ omega (arith, length-take-le at b (omega (arith, fits)), len) in
    ap (take (at + k)) whole ∙ take_at (take at b ++ bytes) rest (at + k) long

-- what was pending before a record was put is so again
pub pending_back : (b old bytes : List ℕ) (used more : ℕ) → length old ≡ used → take (used + more) b ≡ old ++ bytes → take used b ≡ old
pending_back b old bytes used more len e =
    sym (take-take used (used + more) b (omega arith)) ∙ ap (take used) e ∙ take_at old bytes used len

-- after a force there is room for a record, at the same place
pub room_after : {T E : Type 0} (r : Result T E) (old new : LogFile) (size : ℕ) → size ≤ 20000 → OnOk r ((new.forced ≡ old.forced + old.used) × (new.used ≡ 0) × (new.segment ≡ old.segment) × (new.point ≡ old.point) × (new.at ≡ old.at))
    → OnOk r ((new.used + size + 44 ≤ 65536) × (end_of new ≡ end_of old) × (new.point ≡ old.point) × (new.at ≡ old.at))
room_after (Ok x) old new size small h =
    let place : new.forced + new.used ≡ old.forced + old.used = omega (arith, h.0, h.1) in
    (omega (arith, h.1, small), same_lsn (end_of new) (end_of old) h.2 place, h.3, h.4)
  where
    same_lsn : (p q : Lsn) → p.segment ≡ q.segment → p.offset ≡ q.offset → p ≡ q
    same_lsn p q e f = ap (λ (m : ℕ). record { segment = m; offset = p.offset }) e ∙ ap (λ (m : ℕ). record { segment = q.segment; offset = m }) f
room_after (Err e) old new size small h = tt

-- a record that names a segment has 44 bytes
pub named_size : (b : LogBody) (next : ℕ) → follower b ≡ Some next → 40 + fields_len (body_fields b) ≡ 44
named_size (change b) next e = absurd (grind (arith, e))
named_size (compensation n b) next e = absurd (grind (arith, e))
named_size (split c n ps) next e = absurd (grind (arith, e))
named_size (grow c p k) next e = absurd (grind (arith, e))
named_size commit next e = absurd (grind (arith, e))
named_size rolled_back next e = absurd (grind (arith, e))
named_size (checkpoint m) next e = absurd (grind (arith, e))
named_size (next_segment s) next e = refl
named_size (purge c p i) next e = absurd (grind (arith, e))

-- the segment was left by a record that names the one that follows
pub left_is : (old : LogFile) (r : LogRecord) (before after : Segments) (part : List ℕ) → size_of r ≡ 44 → IsOn old before → IsRecord (end_of old) r → part ≡ pending old ++ stored_record (end_of old) r
    → SegmentIs old.segment (written_at (before old.segment) old.forced part) before after → Left old r before after
left_is old r before after part size on is ep wrote =
    let some : length (pending old) ≡ old.used = length-take-le old.used old.buffer.items (omega (arith, old.used_is, old.buffer_is)) in
    let len : old.used + 44 ≡ length part =
    omega (arith, ap length ep, length-append (pending old) (stored_record (end_of old) r), some, length-stored (end_of old) r, size) in
    let place : old.forced + old.used + 44 ≡ old.forced + (old.used + 44) = omega arith in
    record {
      record_is = is;
      bytes = ap (λ (n : ℕ). take n (after old.segment)) place ∙ ap (take (old.forced + (old.used + 44))) wrote.0 ∙ front (before old.segment) old.forced part (old.used + 44) on len
          ∙ ap (λ (l : List ℕ). take old.forced (before old.segment) ++ l) ep
          ∙ sym (append_assoc (take old.forced (before old.segment)) (pending old) (stored_record (end_of old) r));
      others = wrote.1;
    }

-- and nothing else may be left of it
pub leaves : {T E : Type 0} (res : Result T E) (old : LogFile) (r : LogRecord) (before after : Segments) (may_after : MayLog) (part : List ℕ) → size_of r ≡ 44 → IsOn old before → IsRecord (end_of old) r
    → part ≡ pending old ++ stored_record (end_of old) r → OnOk res (SegmentIs old.segment (written_at (before old.segment) old.forced part) before after × OnlyLog after may_after) → OnOk res (Left old r before after × OnlyLog after may_after)
leaves (Ok x) old r before after may_after part size on is ep h = (left_is old r before after part size on is ep h.0, h.1)
leaves (Err e) old r before after may_after part size on is ep h = tt

-- the end of a log whose segment was begun
pub next_end : (next : ℕ) (old mid : LogFile) → IsNext next old mid → end_of mid ≡ record { segment = next; offset = 0 }
next_end next old mid n =
    let off : mid.forced + mid.used ≡ 0 = omega (arith, n.forced_is, n.used_is) in
    ap (λ (m : ℕ). record { segment = m; offset = mid.forced + mid.used }) n.segment_is ∙ ap (λ (m : ℕ). record { segment = next; offset = m }) off

-- where the log ends behind a record that was put
pub put_ends : (old mid new : LogFile) (at : Lsn) (r : LogRecord) → follower r.body ≡ None → at ≡ end_of mid → mid.forced + mid.used + size_of r ≤ 16777216 → new.segment ≡ mid.segment → new.forced ≡ mid.forced → new.used ≡ mid.used + size_of r
    → new.point ≡ old.point → new.at ≡ old.at → EndsWith old new at r
put_ends old mid new at r plain e room es ef eu ep ea = record {
  end_is = sym (ap (λ (o : Option ℕ). place_behind at o (size_of r)) plain ∙ ap (λ (p : Lsn). place_behind p None (size_of r)) e ∙ same_place (place_behind (end_of mid) None (size_of r)) (end_of new) (sym es) (omega (arith, room, ef, eu)));
  point_is = ep;
  at_is = ea;
}

-- and behind one that names a segment
pub named_ends : (old new : LogFile) (at : Lsn) (r : LogRecord) (next : ℕ) → follower r.body ≡ Some next → IsNext next old new → EndsWith old new at r
named_ends old new at r next names n = record {
  end_is = next_end next old new n ∙ sym (ap (λ (o : Option ℕ). place_behind at o (size_of r)) names);
  point_is = n.point_is;
  at_is = n.at_is;
}

-- the record that names the next segment is one at the log's end
pub next_is_record : (l : LogFile) → IsRecord (end_of l) (next_of (l.segment + 1))
next_is_record l = record {
  legal = record { txn_is = omega arith; back_is = inl (refl, refl); body_is = omega arith };
  fields =
      (omega arith, (omega (arith, l.segment_is), (omega (arith, l.room_is), (omega arith, (omega arith, (omega arith, (omega arith, (omega arith, (omega arith, (omega arith, tt))))))))));
  body_fits = (omega (arith, l.segment_is), tt);
}

-- what stands before a place stands before a later one
later_back : (a at to : Lsn) → at.segment < to.segment → IsBack a at → IsBack a to
later_back a at to lt (inl none) = inl none
later_back a at to lt (inr (inl x)) = inr (inl (omega (arith, x, lt)))
later_back a at to lt (inr (inr x)) = inr (inl (omega (arith, x.0, lt)))

-- the values of a record keep the rules at a later place too, unless it names a segment
later_body : (b : LogBody) (at to : Lsn) → at.segment < to.segment → follower b ≡ None → IsBody at b → IsBody to b
later_body (change b) at to lt e h = h
later_body (compensation n b) at to lt e h = (later_back n at to lt h.0, h.1)
later_body (split c n ps) at to lt e h = h
later_body (grow c p k) at to lt e h = h
later_body commit at to lt e h = h
later_body rolled_back at to lt e h = h
later_body (checkpoint m) at to lt e h = record {
  next_container_is = h.next_container_is;
  next_txn_is = h.next_txn_is;
  lengths = h.lengths;
  each = λ i below. let o = h.each i below in (o.0, later_back (last_of m.txns i) at to lt o.1);
}
later_body (next_segment s) at to lt e h = absurd (grind (arith, e))
later_body (purge c p i) at to lt e h = h

pub later_legal : (r : LogRecord) (at to : Lsn) → at.segment < to.segment → follower r.body ≡ None → IsLegal at r → IsLegal to r
later_legal r at to lt e h = record { txn_is = h.txn_is; back_is = later_back r.back at to lt h.back_is; body_is = later_body r.body at to lt e h.body_is }

-- a record that names a segment names a later one
pub names_later : (b : LogBody) (at : Lsn) (next : ℕ) → follower b ≡ Some next → IsBody at b → at.segment < next
names_later (change b) at next e h = absurd (grind (arith, e))
names_later (compensation n b) at next e h = absurd (grind (arith, e))
names_later (split c n ps) at next e h = absurd (grind (arith, e))
names_later (grow c p k) at next e h = absurd (grind (arith, e))
names_later commit at next e h = absurd (grind (arith, e))
names_later rolled_back at next e h = absurd (grind (arith, e))
names_later (checkpoint m) at next e h = absurd (grind (arith, e))
names_later (next_segment s) at next e h = let same : s ≡ next = grind (arith, e) in omega (arith, same, h)
names_later (purge c p i) at next e h = absurd (grind (arith, e))

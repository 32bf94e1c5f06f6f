-- What is read of a log, and of what a crash leaves of it.
use Rattle.std.proofs.Common.{◌≡◌, ◌+◌, ◌-◌, ◌≤◌, ◌<◌, ℕ, suc, List, [], ◌∷◌, ◌++◌, length, take, drop, refl, sym, ap, subst, ◌∙◌, arith, inl, inr, length-append, length-drop}
use Rattle.std.specs.Prelude.{◌⊎◌, true, false, bytes_eq, ◌==◌, nat_lt, if◌then◌else◌}
use Rattle.std.proofs.Math.Seq.{take-add}
use Rattle.std.proofs.lemmas.Bool.{false≢true, cases_Bool}
use Rattle.std.proofs.lemmas.Bool.Decides.{nat_tests}
use Rattle.std.proofs.lemmas.List.{drop_all, take-take, take-append-le, drop-append-le, take-append-drop, length-take, length-take-le, append-nil}
use Rattle.std.proofs.lemmas.Slice.Eq.{bytes_eq-Decides}
use Rattle.dby_types.specs.declared.number.Lsn.{Lsn}
use Rattle.device.specs.Disk.{Segments, MayLog}
use Rattle.log_records.specs.Content.{LogRecord}
use Rattle.log_records.specs.Format.{size_of, stored_record}
use Rattle.log_records.specs.Rules.{Begins}
use Rattle.log_file.specs.declared.file.LogFile.{LogFile}
use Rattle.log_file.specs.Tail.{pending, end_of}
use Rattle.log_file.specs.List.{Bytes, on_disk, in_buffer, in_log, StandsAt, behind, Runs, Reads, forced_of, IsLog}
use Rattle.log_file.specs.Crash.{IsLeft, KeepsBytes, Stands, AreRecords, OnlyAppended, ReadsFront}
use Rattle.log_file.proofs.Standing.{inside, stands_same, stands_as, bytes_of_begins, long_enough, same_part}
use Rattle.log_file.proofs.Runs.{runs_to, runs_append, reads_behind}
use Rattle.log_file.proofs.Lists.{pending_len, forced_stand, kept_inside}

same_or_not : (x y : List ℕ) → (x ≡ y) ⊎ (x ≡ y → ⊥)
same_or_not x y = by_test (cases_Bool (bytes_eq x y))
  where
    by_test : (bytes_eq x y ≡ true) ⊎ (bytes_eq x y ≡ false) → (x ≡ y) ⊎ (x ≡ y → ⊥)
    by_test (inl e) = inl ((bytes_eq-Decides x y).0 e)
    by_test (inr e) = inr (λ same. false≢true (sym e ∙ (bytes_eq-Decides x y).1 same))

-- records that stand are records
are_records : (b : Bytes) (at to : Lsn) (rs more : List LogRecord) → Runs b at rs to → AreRecords to more → AreRecords at (rs ++ more)
are_records b at to [] more h a = subst (λ (p : Lsn). AreRecords p more) (sym h) a
are_records b at to (r ∷ rs) more h a = (h.0.1.record_is, are_records b (behind at r) to rs more h.1 a)

-- under the premise a front of the records is read
front : (b : Bytes) (at : Lsn) (rs : List LogRecord) → AreRecords at rs → OnlyAppended b at rs → (k : ℕ) × (k ≤ length rs) × Reads b at (take k rs)
front b at [] a o = (0, omega arith, o)
front b at (r ∷ rs) a o = by_bytes (same_or_not (take (size_of r) (b at)) (stored_record at r)) (front b (behind at r) rs a.1 o.1)
  where
    by_bytes : (take (size_of r) (b at) ≡ stored_record at r) ⊎ (take (size_of r) (b at) ≡ stored_record at r → ⊥) → ((k : ℕ) × (k ≤ length rs) × Reads b (behind at r) (take k rs)) → (k : ℕ) × (k ≤ length (r ∷ rs)) × Reads b at (take k (r ∷ rs))
    by_bytes (inl e) i = (suc i.0, omega (arith, i.1), ((drop (size_of r) (b at), stands_as at r (b at) a.0 e), i.2))
    by_bytes (inr ne) i = (0, omega arith, λ x s. ne (bytes_of_begins at r (b at) s.0 (subst (λ (y : LogRecord). Begins at (b at) y s.0) (o.0 x s) s.1)))

-- the law, for whatever has the forced bytes
pub prefix : (l : LogFile) (log after : Segments) (from : Lsn) (rs beyond : List LogRecord) (n : ℕ) → IsLog l log from rs n → ((s : ℕ) → IsLeft l log s (after s)) → AreRecords (end_of l) beyond
    → OnlyAppended (on_disk after) (forced_of l) (drop n rs ++ beyond) → ReadsFront (on_disk after) from (rs ++ beyond) n
prefix l log after from rs beyond n h left are only =
    let forced : Runs (on_disk after) from (take n rs) (forced_of l) = forced_stand l log after from (take n rs) h.forced_is (λ s lt. (left s).earlier lt) ((left l.segment).current refl) in
    let all : AreRecords (forced_of l) (drop n rs ++ beyond) = are_records (in_buffer l) (forced_of l) (end_of l) (drop n rs) beyond h.kept_is are in
    let f = front (on_disk after) (forced_of l) (drop n rs ++ beyond) all only in
    let parts : take (n + f.0) (rs ++ beyond) ≡ take n rs ++ take f.0 (drop n rs ++ beyond) =
    take-add n f.0 (rs ++ beyond) ∙ ap (λ (x : List LogRecord). x ++ take f.0 (drop n (rs ++ beyond))) (take-append-le n rs beyond h.within)
    ∙ ap (λ (x : List LogRecord). take n rs ++ take f.0 x) (drop-append-le n rs beyond h.within) in (
      n + f.0,
      omega arith,
      omega (arith, f.1, h.within, length-append (drop n rs) beyond, length-append rs beyond, length-drop n rs),
      subst (λ (x : List LogRecord). Reads (on_disk after) from x) (sym parts) (reads_behind (on_disk after) from (forced_of l) (take n rs) (take f.0 (drop n rs ++ beyond)) forced f.2),
    )

-- an image that has what a call keeps
pub kept_left : (l : LogFile) (log : Segments) (may_log : MayLog) (from : Lsn) (rs : List LogRecord) (n : ℕ) → Stands l log may_log from rs n → (s : ℕ) (b : List ℕ) → KeepsBytes (forced_of l) may_log s b → IsLeft l log s b
kept_left l log may_log from rs n h s b k =
    let was : IsLeft l log s k.0 = h.safe s k.0 k.1.0 in
    record {
      earlier = λ lt. k.1.1 (λ e. omega (arith, lt, e)) ∙ was.earlier lt;
      current = λ e. k.1.2 e (omega (arith, long e)) ∙ was.current e;
      later = λ lt. k.1.1 (λ e. omega (arith, lt, e)) ∙ was.later lt;
    }
  where
    long : (e : s ≡ l.segment) → l.forced ≤ length k.0
    long e = omega (arith, length-take l.forced k.0, ap length ((h.safe s k.0 k.1.0).current e), length-take-le l.forced (log l.segment) h.list.is_on)

-- a choice by two numbers
by_same : (a b : ℕ) (x y : List ℕ) → a ≡ b → (if a == b then x else y) ≡ x
by_same a b x y e = grind (arith, nat_tests, e)

by_other : (a b : ℕ) (x y : List ℕ) → (a ≡ b → ⊥) → (if a == b then x else y) ≡ y
by_other a b x y ne = grind (arith, nat_tests, ne)

by_less : (a b : ℕ) (x y : List ℕ) → a < b → (if nat_lt a b then x else y) ≡ x
by_less a b x y lt = grind (arith, nat_tests, lt)

by_more : (a b : ℕ) (x y : List ℕ) → b ≤ a → (if nat_lt a b then x else y) ≡ y
by_more a b x y le = grind (arith, nat_tests, le)

-- the log's bytes at a place: forced ones of the current segment, kept ones, another segment's
pub in_forced : (l : LogFile) (log : Segments) (p : Lsn) → p.segment ≡ l.segment → p.offset < l.forced → in_log l log p ≡ drop p.offset (take l.forced (log l.segment))
in_forced l log p e lt = by_same p.segment l.segment _ (on_disk log p) e ∙ by_less p.offset l.forced (drop p.offset (take l.forced (log l.segment))) (in_buffer l p) lt

pub in_kept : (l : LogFile) (log : Segments) (p : Lsn) → p.segment ≡ l.segment → l.forced ≤ p.offset → in_log l log p ≡ in_buffer l p
in_kept l log p e le = by_same p.segment l.segment _ (on_disk log p) e ∙ by_more p.offset l.forced (drop p.offset (take l.forced (log l.segment))) (in_buffer l p) le

pub in_other : (l : LogFile) (log : Segments) (p : Lsn) → (p.segment ≡ l.segment → ⊥) → in_log l log p ≡ on_disk log p
in_other l log p ne = by_other p.segment l.segment _ (on_disk log p) ne

-- the log is read as its list
pub log_reads : (l : LogFile) (log : Segments) (from : Lsn) (rs : List LogRecord) (n : ℕ) → IsLog l log from rs n → Reads (in_log l log) from rs
log_reads l log from rs n h =
    let whole : Runs (in_log l log) from rs (end_of l) =
    subst (λ (x : List LogRecord). Runs (in_log l log) from x (end_of l)) (take-append-drop n rs) (runs_append (in_log l log) from (forced_of l) (end_of l) (take n rs) (drop n rs) forced kept) in
    subst (λ (x : List LogRecord). Reads (in_log l log) from x) (append-nil rs) (reads_behind (in_log l log) from (end_of l) rs [] whole none)
  where
    of_disk : (p : Lsn) (r : LogRecord) → StandsAt (on_disk log) p r → (p.segment < l.segment) ⊎ ((p.segment ≡ l.segment) × (p.offset + size_of r ≤ l.forced)) → StandsAt (in_log l log) p r
    of_disk p r s (inl lt) = stands_same (on_disk log) (in_log l log) p r (ap (take (size_of r)) (in_other l log p (λ e. omega (arith, lt, e)))) s
    of_disk p r s (inr x) = stands_same (on_disk log) (in_log l log) p r
        (ap (take (size_of r)) (in_forced l log p x.0 (omega (arith, x.1)))
        ∙ same_part (log l.segment) (take l.forced (log l.segment)) l.forced p.offset (size_of r) (take-take l.forced l.forced (log l.segment) (omega arith)) x.1
        ∙ ap (λ (t : ℕ). take (size_of r) (drop p.offset (log t))) (sym x.0)) s

    forced : Runs (in_log l log) from (take n rs) (forced_of l)
    forced = runs_to (on_disk log) (in_log l log) from (forced_of l) (take n rs) (λ p r first le s. of_disk p r s (inside p (forced_of l) r s.1.record_is (omega (arith, l.room_is)) le)) h.forced_is

    of_buffer : (p : Lsn) (r : LogRecord) → StandsAt (in_buffer l) p r → (p.segment ≡ l.segment) × (l.forced ≤ p.offset) × (p.offset + size_of r ≤ l.forced + l.used) → StandsAt (in_log l log) p r
    of_buffer p r s x = stands_same (in_buffer l) (in_log l log) p r (ap (take (size_of r)) (in_kept l log p x.0 x.1)) s

    kept : Runs (in_log l log) (forced_of l) (drop n rs) (end_of l)
    kept = runs_to (in_buffer l) (in_log l log) (forced_of l) (end_of l) (drop n rs) (λ p r first last s. of_buffer p r s (kept_inside l p r s.1.record_is first last)) h.kept_is

    empty : in_log l log (end_of l) ≡ []
    empty = in_kept l log (end_of l) refl (omega arith) ∙ drop_all (l.forced + l.used - l.forced) (pending l) (omega (arith, pending_len l))

    none : Reads (in_log l log) (end_of l) []
    none = λ r s. omega (arith, long_enough (end_of l) r (in_log l log (end_of l)) s.0 s.1, ap length empty)

-- The bodies of records: what tells them, and what they are.
use Rattle.std.proofs.Common.{◌≡◌, ◌≢◌, ◌+◌, ◌-◌, ◌*◌, ◌^◌, ◌≤◌, ◌<◌, ℕ, Bool, List, [], length, take, drop, Option, Some, None, refl, sym, ap, subst, ◌∙◌, arith, length-drop}
use Rattle.std.specs.Prelude.{MatchOption, IsTrue, ◌↔◌}
use Rattle.std.proofs.lemmas.List.{take_all}
use Rattle.dby_bytes.specs.Numbers.{IsBytes, number_at}
use Rattle.dby_types.specs.declared.number.Lsn.{Lsn}
use Rattle.log_records.specs.declared.record.Body.{Body}
use Rattle.log_records.specs.Content.{LogBase, Mark, LogBody}
use Rattle.log_records.specs.Content.LogBase.{heap, entry, create, discard}
use Rattle.log_records.specs.Content.LogBody.{change, compensation, split, grow, commit, rolled_back, checkpoint, next_segment, purge}
use Rattle.log_records.specs.Fields.{Field, field_bytes, fields_len}
use Rattle.log_records.specs.Format.{base_kind, base_fields, mark_fields, body_fields}
use Rattle.log_records.specs.Rules.{IsBack, IsOpen, IsPageImage}
use Rattle.log_records.specs.Reading.{IsBaseOf, IsBodyOf, ReadsBody, lsn_at, IsCompensationText, IsSplitText, IsGrowText, IsMarkText, IsNextText, IsPurgeText}
use Rattle.log_records.specs.View.{body_of}
use Rattle.log_records.proofs.FieldLemmas.{all_bytes, all_stand, all_len, number_at-lt}

-- a change has kind 1, 2, 10 or 11
pub no_change : (k : ℕ) (y : LogBase) → 2 < k → k < 10 → k ≡ base_kind y → ⊥
no_change k (heap h) low high e = omega (arith, e)
no_change k (entry d) low high e = omega (arith, e)
no_change k (create c t) low high e = omega (arith, e)
no_change k (discard c) low high e = omega (arith, e)

pub no_purge : (y : LogBase) → 12 ≡ base_kind y → ⊥
no_purge (heap h) e = omega (arith, e)
no_purge (entry d) e = omega (arith, e)
no_purge (create c t) e = omega (arith, e)
no_purge (discard c) e = omega (arith, e)

-- a body of another kind is a change
pub change_reads : (at : Lsn) (kind : ℕ) (b : List ℕ) (r : Option Body) → kind ≢ 3 → kind ≢ 4 → kind ≢ 5 → kind ≢ 6 → kind ≢ 7 → kind ≢ 8 → kind ≢ 9 → kind ≢ 12
    → MatchOption r ((y : LogBase) → IsBaseOf kind b y → ⊥) (λ r. IsBodyOf at kind b (body_of r)) → ReadsBody at kind b r
change_reads at kind b (Some r) n3 n4 n5 n6 n7 n8 n9 n12 h = h
change_reads at kind b None n3 n4 n5 n6 n7 n8 n9 n12 h = none
  where
    none : (x : LogBody) → IsBodyOf at kind b x → ⊥
    none (change y) i = h y (record { kind_is = i.kind_is; rules = i.rules; fits = i.fits; bytes = i.bytes })
    none (compensation next y) i = n3 i.kind_is
    none (split c n ps) i = n4 i.kind_is
    none (grow c p k) i = n5 i.kind_is
    none commit i = n6 i.kind_is
    none rolled_back i = n7 i.kind_is
    none (checkpoint m) i = n8 i.kind_is
    none (next_segment s) i = n9 i.kind_is
    none (purge c p i) j = n12 j.kind_is

pub change_is : (at : Lsn) (kind : ℕ) (b : List ℕ) (y : LogBase) → IsBaseOf kind b y → IsBodyOf at kind b (change y)
change_is at kind b y i = record { kind_is = i.kind_is; rules = i.rules; fits = i.fits; bytes = i.bytes }

-- a compensation
front_fields : Lsn → LogBase → List Field
front_fields next y = body_fields (compensation next y)

pub compensation_text : (at : Lsn) (b : List ℕ) (x : LogBody) → IsBodyOf at 3 b x → IsCompensationText at b
compensation_text at b (change y) i = absurd (no_change 3 y (omega arith) (omega arith) i.kind_is)
compensation_text at b (compensation next y) i =
    let s = all_stand (body_fields (compensation next y)) b i.fits.0 i.bytes in
    let len : length b ≡ fields_len (body_fields (compensation next y)) = all_len (body_fields (compensation next y)) b i.bytes in
    (omega (arith, len), subst (λ (l : Lsn). IsBack l at) (same next (lsn_at b 0) s.0 s.1.0) i.rules.0)
  where
    same : (p q : Lsn) → q.segment ≡ p.segment → q.offset ≡ p.offset → p ≡ q
    same p q e f = ap (λ (m : ℕ). record { segment = m; offset = p.offset }) (sym e) ∙ ap (λ (m : ℕ). record { segment = q.segment; offset = m }) (sym f)
compensation_text at b x i = absurd (omega (arith, i.kind_is))

pub compensation_base : (at : Lsn) (b : List ℕ) (x : LogBody) → IsBodyOf at 3 b x → (y : LogBase) × IsBaseOf (number_at 1 b 8) (drop 9 b) y
compensation_base at b (change y) i = absurd (no_change 3 y (omega arith) (omega arith) i.kind_is)
compensation_base at b (compensation next y) i =
    let fs : List Field = body_fields (compensation next y) in
    let s = all_stand (body_fields (compensation next y)) b i.fits.0 i.bytes in
    let len : length b ≡ fields_len (body_fields (compensation next y)) = all_len (body_fields (compensation next y)) b i.bytes in
    let some : length (drop 9 b) ≤ length (field_bytes (base_fields y)) = omega (arith, length-drop 9 b, len) in
    (y, record { kind_is = s.1.1.0; rules = i.rules.1; fits = i.fits.1; bytes = sym (take_all (length (field_bytes (base_fields y))) (drop 9 b) some) ∙ s.1.1.1.0 })
compensation_base at b x i = absurd (omega (arith, i.kind_is))

pub compensation_is : (at : Lsn) (b part : List ℕ) (kind : ℕ) (next : Lsn) (y : LogBase) → IsBytes b → IsCompensationText at b → part ≡ drop 9 b → kind ≡ number_at 1 b 8 → next ≡ lsn_at b 0 → IsBaseOf kind part y
    → IsBodyOf at 3 b (compensation next y)
compensation_is at b part kind next y bytes text ep ek en i =
    let fb : List ℕ = field_bytes (base_fields y) in
    let all : drop 9 b ≡ field_bytes (base_fields y) = sym ep ∙ i.bytes in
    let long : length b ≡ 9 + length (field_bytes (base_fields y)) = omega (arith, ap length all, length-drop 9 b, text.0) in
    let seg : next.segment ≡ number_at 4 b 0 = ap (λ (l : Lsn). l.segment) en in
    let off : next.offset ≡ number_at 4 b 4 = ap (λ (l : Lsn). l.offset) en in
    let same : number_at 1 b 8 ≡ base_kind y = sym ek ∙ i.kind_is in
    let part_is : take (length (field_bytes (base_fields y))) (drop 9 b) ≡ field_bytes (base_fields y) =
    take_all (length (field_bytes (base_fields y))) (drop 9 b) (omega (arith, ap length all)) ∙ all in
    record {
      kind_is = refl;
      rules = (subst (λ (l : Lsn). IsBack l at) (sym en) text.1, i.rules);
      fits = ((omega (arith, seg, number_at-lt 4 b 0 bytes), (omega (arith, off, number_at-lt 4 b 4 bytes), (omega (arith, same, number_at-lt 1 b 8 bytes), tt))), i.fits);
      bytes = all_bytes (body_fields (compensation next y)) b bytes (sym seg, (sym off, (same, (part_is, tt)))) (omega (arith, long));
    }

-- a split
pub split_text : (at : Lsn) (b : List ℕ) (x : LogBody) → IsBodyOf at 4 b x → IsSplitText b
split_text at b (change y) i = absurd (no_change 4 y (omega arith) (omega arith) i.kind_is)
split_text at b (split c n ps) i =
    let s = all_stand (body_fields (split c n ps)) b i.fits i.bytes in
    let len : length b ≡ fields_len (body_fields (split c n ps)) = all_len (body_fields (split c n ps)) b i.bytes in
    let some : length (drop 5 b) ≤ length ps = omega (arith, length-drop 5 b, len) in
    let rest : drop 5 b ≡ ps = sym (take_all (length ps) (drop 5 b) some) ∙ s.1.1.0 in (
      omega (arith, len),
      omega (arith, len, s.1.0, i.rules.lengths),
      omega (arith, s.0, i.rules.container_is),
      λ k lt. subst (λ (l : List ℕ). IsPageImage l k) (sym rest) (i.rules.each k (omega (arith, lt, s.1.0))),
    )
split_text at b x i = absurd (omega (arith, i.kind_is))

pub split_is : (at : Lsn) (b : List ℕ) (c n : ℕ) (ps : List ℕ) → IsBytes b → IsSplitText b → c ≡ number_at 4 b 0 → n ≡ number_at 1 b 4 → ps ≡ drop 5 b → IsBodyOf at 4 b (split c n ps)
split_is at b c n ps bytes t ec en ep =
    let long : length ps ≡ length b - 5 = ap length ep ∙ length-drop 5 b in
    let part_is : take (length ps) (drop 5 b) ≡ ps = take_all (length ps) (drop 5 b) (omega (arith, ap length ep)) ∙ sym ep in
    record {
      kind_is = refl;
      rules = record { container_is = omega (arith, ec, t.2); lengths = omega (arith, long, t.0, t.1, en); each = λ k lt. subst (λ (l : List ℕ). IsPageImage l k) (sym ep) (t.3 k (omega (arith, lt, en))) };
      fits = (omega (arith, ec, t.2), (omega (arith, en, number_at-lt 1 b 4 bytes), tt));
      bytes = all_bytes (body_fields (split c n ps)) b bytes (sym ec, (sym en, (part_is, tt))) (omega (arith, long, t.0));
    }

-- a new page
pub grow_text : (at : Lsn) (b : List ℕ) (x : LogBody) → IsBodyOf at 5 b x → IsGrowText b
grow_text at b (change y) i = absurd (no_change 5 y (omega arith) (omega arith) i.kind_is)
grow_text at b (grow c p k) i =
    let s = all_stand (body_fields (grow c p k)) b i.fits i.bytes in
    (all_len (body_fields (grow c p k)) b i.bytes, omega (arith, s.0, i.rules.0), omega (arith, s.1.1.0, i.rules.1))
grow_text at b x i = absurd (omega (arith, i.kind_is))

pub grow_is : (at : Lsn) (b : List ℕ) (c p k : ℕ) → IsBytes b → IsGrowText b → c ≡ number_at 4 b 0 → p ≡ number_at 4 b 4 → k ≡ number_at 1 b 8 → IsBodyOf at 5 b (grow c p k)
grow_is at b c p k bytes t ec ep ek = record {
  kind_is = refl;
  rules = (omega (arith, ec, t.1), omega (arith, ek, t.2));
  fits = (omega (arith, ec, t.1), (omega (arith, ep, number_at-lt 4 b 4 bytes), (omega (arith, ek, t.2), tt)));
  bytes = all_bytes (body_fields (grow c p k)) b bytes (sym ec, (sym ep, (sym ek, tt))) t.0;
}

-- nothing
pub commit_text : (at : Lsn) (b : List ℕ) (x : LogBody) → IsBodyOf at 6 b x → b ≡ []
commit_text at b (change y) i = absurd (no_change 6 y (omega arith) (omega arith) i.kind_is)
commit_text at b commit i = i.bytes
commit_text at b x i = absurd (omega (arith, i.kind_is))

pub rolled_back_text : (at : Lsn) (b : List ℕ) (x : LogBody) → IsBodyOf at 7 b x → b ≡ []
rolled_back_text at b (change y) i = absurd (no_change 7 y (omega arith) (omega arith) i.kind_is)
rolled_back_text at b rolled_back i = i.bytes
rolled_back_text at b x i = absurd (omega (arith, i.kind_is))

-- a checkpoint
pub mark_text : (at : Lsn) (b : List ℕ) (x : LogBody) → IsBodyOf at 8 b x → IsMarkText at b
mark_text at b (change y) i = absurd (no_change 8 y (omega arith) (omega arith) i.kind_is)
mark_text at b (checkpoint m) i =
    let s = all_stand (mark_fields m) b i.fits i.bytes in
    let len : length b ≡ fields_len (mark_fields m) = all_len (mark_fields m) b i.bytes in
    let some : length (drop 22 b) ≤ length m.txns = omega (arith, length-drop 22 b, len) in
    let rest : drop 22 b ≡ m.txns = sym (take_all (length m.txns) (drop 22 b) some) ∙ s.1.1.1.1.1.0 in
    let r = i.rules in (
      omega (arith, len),
      omega (arith, len, s.1.1.1.1.0, r.lengths),
      omega (arith, s.1.1.0, r.next_container_is.0),
      omega (arith, s.1.1.0, r.next_container_is.1),
      omega (arith, s.1.1.1.0, r.next_txn_is.0),
      omega (arith, s.1.1.1.0, r.next_txn_is.1),
      λ k lt. subst (λ (l : List ℕ). IsOpen at l k) (sym rest) (r.each k (omega (arith, lt, s.1.1.1.1.0))),
    )
mark_text at b x i = absurd (omega (arith, i.kind_is))

pub mark_is : (at : Lsn) (b : List ℕ) (redo : Lsn) (c t n : ℕ) (ts : List ℕ) → IsBytes b → IsMarkText at b → redo ≡ lsn_at b 0 → c ≡ number_at 4 b 8 → t ≡ number_at 8 b 12 → n ≡ number_at 2 b 20 → ts ≡ drop 22 b
    → IsBodyOf at 8 b (checkpoint (record { redo = redo; next_container = c; next_txn = t; count = n; txns = ts }))
mark_is at b redo c t n ts bytes x er ec et en ep =
    let m : Mark = record { redo = redo; next_container = c; next_txn = t; count = n; txns = ts } in
    let long : length ts ≡ length b - 22 = ap length ep ∙ length-drop 22 b in
    let part_is : take (length ts) (drop 22 b) ≡ ts = take_all (length ts) (drop 22 b) (omega (arith, ap length ep)) ∙ sym ep in
    let seg : redo.segment ≡ number_at 4 b 0 = ap (λ (l : Lsn). l.segment) er in
    let off : redo.offset ≡ number_at 4 b 4 = ap (λ (l : Lsn). l.offset) er in
    record {
      kind_is = refl;
      rules = record { next_container_is = (omega (arith, ec, x.2), omega (arith, ec, x.3)); next_txn_is = (omega (arith, et, x.4), omega (arith, et, x.5)); lengths = omega (arith, long, x.0, x.1, en); each = λ k lt. subst (λ (l : List ℕ). IsOpen at l k) (sym ep) (x.6 k (omega (arith, lt, en))) };
      fits = (omega (arith, seg, number_at-lt 4 b 0 bytes), (omega (arith, off, number_at-lt 4 b 4 bytes), (omega (arith, ec, number_at-lt 4 b 8 bytes), (omega (arith, et, number_at-lt 8 b 12 bytes), (omega (arith, en, number_at-lt 2 b 20 bytes), tt)))));
      bytes = all_bytes (mark_fields m) b bytes (sym seg, (sym off, (sym ec, (sym et, (sym en, (part_is, tt)))))) (omega (arith, long, x.0));
    }

-- the number of the segment that follows
pub next_text : (at : Lsn) (b : List ℕ) (x : LogBody) → IsBodyOf at 9 b x → IsNextText at b
next_text at b (change y) i = absurd (no_change 9 y (omega arith) (omega arith) i.kind_is)
next_text at b (next_segment g) i =
    let s = all_stand (body_fields (next_segment g)) b i.fits i.bytes in
    (all_len (body_fields (next_segment g)) b i.bytes, omega (arith, s.0, i.rules))
next_text at b x i = absurd (omega (arith, i.kind_is))

pub next_is : (at : Lsn) (b : List ℕ) (g : ℕ) → IsBytes b → IsNextText at b → g ≡ number_at 4 b 0 → IsBodyOf at 9 b (next_segment g)
next_is at b g bytes t eg = record {
  kind_is = refl;
  rules = omega (arith, eg, t.1);
  fits = (omega (arith, eg, number_at-lt 4 b 0 bytes), tt);
  bytes = all_bytes (body_fields (next_segment g)) b bytes (sym eg, tt) t.0;
}

-- a purge
pub purge_text : (at : Lsn) (b : List ℕ) (x : LogBody) → IsBodyOf at 12 b x → IsPurgeText b
purge_text at b (change y) i = absurd (no_purge y i.kind_is)
purge_text at b (purge c p k) i =
    let s = all_stand (body_fields (purge c p k)) b i.fits i.bytes in
    (all_len (body_fields (purge c p k)) b i.bytes, omega (arith, s.0, i.rules))
purge_text at b x i = absurd (omega (arith, i.kind_is))

pub purge_is : (at : Lsn) (b : List ℕ) (c p k : ℕ) → IsBytes b → IsPurgeText b → c ≡ number_at 4 b 0 → p ≡ number_at 4 b 4 → k ≡ number_at 2 b 8 → IsBodyOf at 12 b (purge c p k)
purge_is at b c p k bytes t ec ep ek = record {
  kind_is = refl;
  rules = omega (arith, ec, t.1);
  fits = (omega (arith, ec, t.1), (omega (arith, ep, number_at-lt 4 b 4 bytes), (omega (arith, ek, number_at-lt 2 b 8 bytes), tt)));
  bytes = all_bytes (body_fields (purge c p k)) b bytes (sym ec, (sym ep, (sym ek, tt))) t.0;
}

-- a checkpoint is told by its numbers and its transactions
pub mark_told : (at : Lsn) (b part : List ℕ) (n c t : ℕ) (answer : Bool) → 22 ≤ length b → length b ≡ 22 + 16 * n → n ≡ number_at 2 b 20 → c ≡ number_at 4 b 8 → t ≡ number_at 8 b 12
    → (16 ≤ c) × (c ≤ 2 ^ 31) × (1 ≤ t) × (t ≤ 2 ^ 62) → part ≡ drop 22 b → (IsTrue answer ↔ ((i : ℕ) → i < n → IsOpen at part i)) → IsTrue answer ↔ IsMarkText at b
mark_told at b part n c t answer room len en ec et next ep told = (
  λ yes. (room, omega (arith, len, en), omega (arith, next.0, ec), omega (arith, next.1, ec), omega (arith, next.2, et), omega (arith, next.3, et), λ i lt. subst (λ (l : List ℕ). IsOpen at l i) ep (told.0 yes i (omega (arith, lt, en)))),
  λ m. told.1 (λ i lt. subst (λ (l : List ℕ). IsOpen at l i) (sym ep) (m.6 i (omega (arith, lt, en)))),
)

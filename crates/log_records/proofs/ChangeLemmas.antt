-- The bodies of changes: what tells them, and what they are.
use Rattle.std.proofs.Common.{◌≡◌, ◌+◌, ◌*◌, ◌^◌, ◌≤◌, ◌<◌, ℕ, Bool, true, false, List, length, take, drop, refl, sym, ap, ◌∙◌, arith, length-drop}
use Rattle.std.specs.Prelude.{if◌then◌else◌, ◌==◌}
use Rattle.std.proofs.lemmas.Bool.Decides.{nat_tests}
use Rattle.std.proofs.lemmas.List.{take_all, length-take-le}
use Rattle.dby_bytes.specs.Numbers.{IsBytes, number_at}
use Rattle.log_records.specs.Content.{HeapChange, EntryChange, LogBase}
use Rattle.log_records.specs.Content.LogBase.{heap, entry, create, discard}
use Rattle.log_records.specs.Fields.{fields_len, Fit, Stand}
use Rattle.log_records.specs.Format.{heap_fields, entry_fields, create_fields, base_fields}
use Rattle.log_records.specs.Reading.{IsBaseOf, IsHeapText, IsEntryText, IsCreateText, IsDiscardText}
use Rattle.log_records.proofs.FieldLemmas.{all_bytes, all_stand, all_len, number_at-lt}

-- a heap change is told by its text
pub heap_text : (b : List ℕ) (x : LogBase) → IsBaseOf 1 b x → IsHeapText b
heap_text b (heap h) i =
    let len : length b ≡ fields_len (heap_fields h) = all_len (heap_fields h) b i.bytes in
    let s = all_stand (heap_fields h) b i.fits i.bytes in
    let r = i.rules in
    (omega (arith, len), omega (arith, len, s.1.1.1.1.1.0, r.lengths), omega (arith, s.0, r.container_is), omega (arith, s.1.1.1.0, r.flags.0), omega (arith, s.1.1.1.1.0, r.flags.1))
heap_text b (entry e) i = absurd (omega (arith, i.kind_is))
heap_text b (create c t) i = absurd (omega (arith, i.kind_is))
heap_text b (discard c) i = absurd (omega (arith, i.kind_is))

-- both texts, n bytes each, behind k bytes
both : (b x y : List ℕ) (k n : ℕ) → length b ≡ k + 2 * n → x ≡ take n (drop k b) → y ≡ drop (k + n) b → (length x ≡ n) × (length y ≡ n) × (take (length x) (drop k b) ≡ x) × (take (length y) (drop (k + length x) b) ≡ y)
both b x y k n len ex ey =
    let lx : length x ≡ n = ap length ex ∙ length-take-le n (drop k b) (omega (arith, length-drop k b, len)) in
    let ly : length y ≡ n = ap length ey ∙ length-drop (k + n) b ∙ omega (arith, len) in
    (lx, ly, ap (λ (m : ℕ). take m (drop k b)) lx ∙ sym ex, ap (λ (m : ℕ). take (length y) (drop (k + m) b)) lx ∙ ap (take (length y)) (sym ey) ∙ take_all (length y) y (omega arith))

pub heap_is : (b : List ℕ) (c p s f g : ℕ) (x y : List ℕ) → IsBytes b → IsHeapText b → c ≡ number_at 4 b 0 → p ≡ number_at 4 b 4 → s ≡ number_at 2 b 8 → f ≡ number_at 1 b 10 → g ≡ number_at 1 b 11
    → x ≡ take (number_at 2 b 12) (drop 14 b) → y ≡ drop (14 + number_at 2 b 12) b
    → IsBaseOf 1 b (heap (record { container = c; page = p; slot = s; flags_before = f; flags_after = g; before = x; after = y }))
heap_is b c p s f g x y bytes t ec ep es ef eg ex ey =
    let h : HeapChange = record { container = c; page = p; slot = s; flags_before = f; flags_after = g; before = x; after = y } in
    let parts = both b x y 14 (number_at 2 b 12) t.1 ex ey in
    let small : number_at 2 b 12 < 256 ^ 2 = number_at-lt 2 b 12 bytes in
    let stands : Stand (heap_fields h) 0 b = (sym ec, (sym ep, (sym es, (sym ef, (sym eg, (sym parts.0, (parts.2, (parts.3, tt)))))))) in
    let fit : Fit (heap_fields h) =
    (omega (arith, ec, number_at-lt 4 b 0 bytes), (omega (arith, ep, number_at-lt 4 b 4 bytes), (omega (arith, es, number_at-lt 2 b 8 bytes), (omega (arith, ef, number_at-lt 1 b 10 bytes), (omega (arith, eg, number_at-lt 1 b 11 bytes), (omega (arith, parts.0, small), tt)))))) in
    record {
      kind_is = refl;
      rules = record { container_is = omega (arith, ec, t.2); flags = (omega (arith, ef, t.3), omega (arith, eg, t.4)); lengths = parts.1 ∙ sym parts.0; counted = omega (arith, parts.0, small) };
      fits = fit;
      bytes = all_bytes (heap_fields h) b bytes stands (omega (arith, t.1, parts.0, parts.1));
    }

-- an entry change is told by its text
pub entry_text : (b : List ℕ) (x : LogBase) → IsBaseOf 2 b x → IsEntryText b
entry_text b (heap h) i = absurd (omega (arith, i.kind_is))
entry_text b (entry e) i =
    let len : length b ≡ fields_len (entry_fields e) = all_len (entry_fields e) b i.bytes in
    let s = all_stand (entry_fields e) b i.fits i.bytes in
    let r = i.rules in
    (omega (arith, len), omega (arith, len, s.1.1.1.1.0, r.lengths), omega (arith, s.0, r.container_is), omega (arith, s.1.1.1.0, r.what_is.0), omega (arith, s.1.1.1.0, r.what_is.1))
entry_text b (create c t) i = absurd (omega (arith, i.kind_is))
entry_text b (discard c) i = absurd (omega (arith, i.kind_is))

pub entry_is : (b : List ℕ) (c p s w : ℕ) (x y : List ℕ) → IsBytes b → IsEntryText b → c ≡ number_at 4 b 0 → p ≡ number_at 4 b 4 → s ≡ number_at 2 b 8 → w ≡ number_at 1 b 10
    → x ≡ take (number_at 2 b 11) (drop 13 b) → y ≡ drop (13 + number_at 2 b 11) b
    → IsBaseOf 2 b (entry (record { container = c; page = p; place = s; what = w; before = x; after = y }))
entry_is b c p s w x y bytes t ec ep es ew ex ey =
    let e : EntryChange = record { container = c; page = p; place = s; what = w; before = x; after = y } in
    let parts = both b x y 13 (number_at 2 b 11) t.1 ex ey in
    let small : number_at 2 b 11 < 256 ^ 2 = number_at-lt 2 b 11 bytes in
    let stands : Stand (entry_fields e) 0 b = (sym ec, (sym ep, (sym es, (sym ew, (sym parts.0, (parts.2, (parts.3, tt))))))) in
    let fit : Fit (entry_fields e) =
    (omega (arith, ec, number_at-lt 4 b 0 bytes), (omega (arith, ep, number_at-lt 4 b 4 bytes), (omega (arith, es, number_at-lt 2 b 8 bytes), (omega (arith, ew, number_at-lt 1 b 10 bytes), (omega (arith, parts.0, small), tt))))) in
    record {
      kind_is = refl;
      rules = record { container_is = omega (arith, ec, t.2); what_is = (omega (arith, ew, t.3), omega (arith, ew, t.4)); lengths = parts.1 ∙ sym parts.0; counted = omega (arith, parts.0, small) };
      fits = fit;
      bytes = all_bytes (entry_fields e) b bytes stands (omega (arith, t.1, parts.0, parts.1));
    }

-- the making of a container is told by its text
small_truth : (t : Bool) → (if t then 1 else 0) ≤ 1
small_truth true = omega arith
small_truth false = omega arith

pub truth_is : (r v : ℕ) → r ≡ v → v ≤ 1 → v ≡ (if r == 1 then 1 else 0)
truth_is r v e small = grind (arith, nat_tests)

pub create_text : (b : List ℕ) (x : LogBase) → IsBaseOf 10 b x → IsCreateText b
create_text b (heap h) i = absurd (omega (arith, i.kind_is))
create_text b (entry e) i = absurd (omega (arith, i.kind_is))
create_text b (create c t) i =
    let len : length b ≡ fields_len (create_fields c t) = all_len (create_fields c t) b i.bytes in
    let s = all_stand (create_fields c t) b i.fits i.bytes in
    (omega (arith, len), omega (arith, s.0, i.rules), omega (arith, s.1.0, small_truth t))
create_text b (discard c) i = absurd (omega (arith, i.kind_is))

pub create_is : (b : List ℕ) (c : ℕ) (t : Bool) → IsBytes b → IsCreateText b → c ≡ number_at 4 b 0 → number_at 1 b 4 ≡ (if t then 1 else 0) → IsBaseOf 10 b (create c t)
create_is b c t bytes text ec et = record {
  kind_is = refl;
  rules = omega (arith, ec, text.1);
  fits = (omega (arith, ec, text.1), (omega (arith, small_truth t), tt));
  bytes = all_bytes (create_fields c t) b bytes (sym ec, (et, tt)) text.0;
}

-- a container that is given up is told by its text
pub discard_text : (b : List ℕ) (x : LogBase) → IsBaseOf 11 b x → IsDiscardText b
discard_text b (heap h) i = absurd (omega (arith, i.kind_is))
discard_text b (entry e) i = absurd (omega (arith, i.kind_is))
discard_text b (create c t) i = absurd (omega (arith, i.kind_is))
discard_text b (discard c) i =
    let s = all_stand (base_fields (discard c)) b i.fits i.bytes in
    (all_len (base_fields (discard c)) b i.bytes, omega (arith, s.0, i.rules))

pub discard_is : (b : List ℕ) (c : ℕ) → IsBytes b → IsDiscardText b → c ≡ number_at 4 b 0 → IsBaseOf 11 b (discard c)
discard_is b c bytes text ec = record {
  kind_is = refl;
  rules = omega (arith, ec, text.1);
  fits = (omega (arith, ec, text.1), tt);
  bytes = all_bytes (base_fields (discard c)) b bytes (sym ec, tt) text.0;
}

-- Records that are written.
use Rattle.std.proofs.Common.{◌≡◌, ◌+◌, ◌-◌, ◌≤◌, ℕ, List, [], ◌++◌, length, take, drop, refl, sym, ap, subst, ◌∙◌, arith, length-drop, append_assoc, append-nil}
use Rattle.std.proofs.lemmas.List.{take_all, take_at, drop_at, drop_all, drop-drop, length-take-le}
use borrow.Rule.Slice.PartMut.{put_mid, mid_of}
use Rattle.dby_bytes.specs.Numbers.{bytes_of, with_number}
use Rattle.dby_bytes.proofs.NumbersLemmas.{with_number-append}
use Rattle.dby_types.specs.declared.number.Lsn.{Lsn}
use Rattle.log_records.specs.Content.{LogRecord}
use Rattle.log_records.specs.Fields.{Field, field_bytes, fields_len, Fit, with_bytes, written}
use Rattle.log_records.specs.Format.{kind_of, body_fields, size_of, front_fields, summed_fields, stored_record}
use Rattle.log_records.specs.Rules.{IsLegal, BodyFits, Begins}
use Rattle.log_records.specs.Sum.{sum_of}
use Rattle.log_records.proofs.FieldLemmas.{length-field_bytes, written_is}
use Rattle.log_records.proofs.WholeLemmas.{summed-len}

-- fields that are written into the rest of some bytes
pub part_written : (fs : List Field) (b ys : List ℕ) (at : ℕ) → at + fields_len fs ≤ length b → ys ≡ written fs 0 (mid_of at (length b - at) b) → put_mid at (length b - at) b ys ≡ with_bytes b at (field_bytes fs)
unfolding with_bytes
part_written fs b ys at fits e =
    let all : mid_of at (length b - at) b ≡ drop at b = take_all (length b - at) (drop at b) (omega (arith, length-drop at b)) in
    let none : drop (length b - at) (drop at b) ≡ [] = drop_all (length b - at) (drop at b) (omega (arith, length-drop at b)) in
    let len : length (field_bytes fs) ≡ fields_len fs = length-field_bytes fs in
    let is : ys ≡ field_bytes fs ++ drop (at + length (field_bytes fs)) b =
    e ∙ ap (written fs 0) all ∙ written_is fs 0 (drop at b) (omega (arith, length-drop at b, fits))
    ∙ ap (λ (l : List ℕ). field_bytes fs ++ l) (drop-drop (0 + fields_len fs) at b ∙ ap (λ (k : ℕ). drop k b) (omega (arith, len))) in
    ap (λ (l : List ℕ). take at b ++ (ys ++ l)) none ∙ ap (λ (l : List ℕ). take at b ++ l) (append-nil ys ∙ is)

-- front, body and sum are a record
pub encoded : (at : Lsn) (r : LogRecord) (old front both new : List ℕ) (size sum kind : ℕ) → size ≡ size_of r → kind ≡ kind_of r.body → size_of r ≤ length old → front ≡ written (front_fields size at kind r.txn r.back) 8 old
    → both ≡ with_bytes front 40 (field_bytes (body_fields r.body)) → sum ≡ sum_of (take (size - 8) (drop 8 both)) → new ≡ with_number 8 both 0 sum → new ≡ stored_record at r ++ drop (size_of r) old
encoded at r old front both new size sum kind es ek room ef eb esum en =
    let fb : List ℕ = field_bytes (summed_fields at r) in
    let front_is : front ≡ written (front_fields (size_of r) at (kind_of r.body) r.txn r.back) 8 old =
    ef ∙ ap (λ (m : ℕ). written (front_fields m at kind r.txn r.back) 8 old) es ∙ ap (λ (m : ℕ). written (front_fields (size_of r) at m r.txn r.back) 8 old) ek in
    let wrote : both ≡ written (summed_fields at r) 8 old = eb ∙ ap (λ (l : List ℕ). with_bytes l 40 (field_bytes (body_fields r.body))) front_is in
    let slen : 8 + fields_len (summed_fields at r) ≡ size_of r = omega (arith, summed-len at r) in
    let len : length (field_bytes (summed_fields at r)) ≡ size_of r - 8 = omega (arith, length-field_bytes (summed_fields at r), slen) in
    let parts : both ≡ take 8 old ++ (field_bytes (summed_fields at r) ++ drop (size_of r) old) =
    wrote ∙ written_is (summed_fields at r) 8 old (omega (arith, slen, room)) ∙ ap (λ (k : ℕ). take 8 old ++ (field_bytes (summed_fields at r) ++ drop k old)) slen in
    let eight : length (take 8 old) ≡ 8 = length-take-le 8 old (omega (arith, room)) in
    let back : drop 8 both ≡ field_bytes (summed_fields at r) ++ drop (size_of r) old =
    ap (drop 8) parts ∙ drop_at (take 8 old) (field_bytes (summed_fields at r) ++ drop (size_of r) old) 8 eight in
    let cut : take (size - 8) (drop 8 both) ≡ field_bytes (summed_fields at r) =
    ap (take (size - 8)) back ∙ take_at (field_bytes (summed_fields at r)) (drop (size_of r) old) (size - 8) (omega (arith, len, es)) in
    let sum_is : sum ≡ sum_of (field_bytes (summed_fields at r)) = esum ∙ ap sum_of cut in
    en ∙ ap (λ (l : List ℕ). with_number 8 l 0 sum) parts
    ∙ with_number-append 8 [] (take 8 old) (field_bytes (summed_fields at r) ++ drop (size_of r) old) 0 sum refl eight
    ∙ ap (λ (m : ℕ). bytes_of 8 m ++ (field_bytes (summed_fields at r) ++ drop (size_of r) old)) sum_is
    ∙ sym (append_assoc (bytes_of 8 (sum_of (field_bytes (summed_fields at r)))) (field_bytes (summed_fields at r)) (drop (size_of r) old))

-- and where its values keep the rules, the bytes begin with it
pub begins : (at : Lsn) (r : LogRecord) (old new : List ℕ) (size kind : ℕ) → size ≡ size_of r → kind ≡ kind_of r.body → IsLegal at r → Fit (front_fields size at kind r.txn r.back) → BodyFits r.body
    → new ≡ stored_record at r ++ drop (size_of r) old → Begins at new r (drop (size_of r) old)
begins at r old new size kind es ek legal fit body_fits e =
    let front_fits : Fit (front_fields (size_of r) at (kind_of r.body) r.txn r.back) =
    subst (λ (m : ℕ). Fit (front_fields (size_of r) at m r.txn r.back)) ek (subst (λ (m : ℕ). Fit (front_fields m at kind r.txn r.back)) es fit) in
    let f = front_fits in
    record {
      record_is = record {
        legal = legal;
        fields = (f.0, (f.1.0, (f.1.1.0, (f.1.1.1.0, (f.1.1.1.1.0, (f.1.1.1.1.1.0, (f.1.1.1.1.1.1.0, (f.1.1.1.1.1.1.1.0, (f.1.1.1.1.1.1.1.1.0, (f.1.1.1.1.1.1.1.1.1.0, tt))))))))));
        body_fits = body_fits;
      };
      bytes = e;
    }

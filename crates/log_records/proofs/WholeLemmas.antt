-- Bytes that begin with a record: what tells it, and what it is.
use Rattle.std.proofs.Common.{◌≡◌, ◌+◌, ◌-◌, ◌^◌, ◌<◌, ℕ, suc, zero, List, [], ◌∷◌, ◌++◌, length, take, drop, sym, ap, subst, ◌∙◌, arith, length-drop, length-append, append_assoc}
use Rattle.std.specs.Int.{w32, to_be_bytes}
use Rattle.std.proofs.lemmas.List.{take_at, drop_at, length-take-le}
use Rattle.sha2.specs.Sha256.{digest_bytes, sha256, final_hash, initial_hash_256}
use Rattle.dby_bytes.specs.Numbers.{IsBytes, bytes_of, number_at}
use Rattle.dby_bytes.proofs.NumbersLemmas.{IsBytes-bytes_of, IsBytes-more, IsBytes-rest, length-bytes_of}
use Rattle.dby_types.specs.declared.number.Lsn.{Lsn}
use Rattle.log_records.specs.Content.{LogBody, LogRecord}
use Rattle.log_records.specs.Fields.{Field, field_bytes, fields_len, Fit, Stand}
use Rattle.log_records.specs.Fields.Field.{number}
use Rattle.log_records.specs.Format.{body_fields, size_of, summed_fields, stored_record}
use Rattle.log_records.specs.Rules.{IsTxn, IsBack, Begins}
use Rattle.log_records.specs.Reading.{IsBodyOf, IsWhole, lsn_at}
use Rattle.log_records.specs.Sum.{digest_of, sum_of}
use Rattle.log_records.proofs.FieldLemmas.{length-field_bytes, stand, bytes_are, number_at-lt}

IsBytes-append : (xs ys : List ℕ) → IsBytes xs → IsBytes ys → IsBytes (xs ++ ys)
IsBytes-append [] ys hx hy = hy
IsBytes-append (x ∷ xs) ys hx hy = IsBytes-more x (xs ++ ys) (hx zero) (IsBytes-append xs ys (IsBytes-rest x xs hx) hy)

word_bytes : (v : ℕ) → IsBytes (to_be_bytes w32 v)
unfolding bytes_of
word_bytes v = IsBytes-bytes_of 4 v

hash_bytes : (h : List ℕ) (n : ℕ) → IsBytes (digest_bytes h n)
unfolding digest_bytes
hash_bytes h zero = λ k. omega arith
hash_bytes h (suc n) = IsBytes-append (digest_bytes h n) _ (hash_bytes h n) (word_bytes _)

digest_is_bytes : (m : List ℕ) → IsBytes (digest_of m)
unfolding digest_of sha256
digest_is_bytes m = hash_bytes (final_hash initial_hash_256 m) 8

-- a sum has eight bytes
pub sum_small : (m : List ℕ) → sum_of m < 256 ^ 8
unfolding sum_of
sum_small m = number_at-lt 8 (digest_of m) 0 (digest_is_bytes m)

-- a record's fields, its sum first
abbrev pub all_fields : Lsn → LogRecord → List Field
all_fields at r = number 8 (sum_of (field_bytes (summed_fields at r))) ∷ summed_fields at r

-- the fields before the body take 40 bytes
all-len : (at : Lsn) (r : LogRecord) → fields_len (all_fields at r) ≡ size_of r
all-len at r = omega (arith, length-field_bytes (body_fields r.body))

pub summed-len : (at : Lsn) (r : LogRecord) → fields_len (summed_fields at r) + 8 ≡ size_of r
summed-len at r = omega (arith, length-field_bytes (body_fields r.body))

pub length-stored : (at : Lsn) (r : LogRecord) → length (stored_record at r) ≡ size_of r
length-stored at r = length-field_bytes (all_fields at r) ∙ all-len at r

-- a record's fields stand where the bytes begin with it
pub all_fields_stand : (at : Lsn) (b : List ℕ) (r : LogRecord) (rest : List ℕ) → Begins at b r rest → Stand (all_fields at r) 0 b
all_fields_stand at b r rest h = stand (all_fields at r) 0 b rest (sum_small (field_bytes (summed_fields at r)), h.record_is.fields) h.bytes

-- the bytes behind the sum
pub behind_sum : (at : Lsn) (b : List ℕ) (r : LogRecord) (rest : List ℕ) → Begins at b r rest → take (size_of r - 8) (drop 8 b) ≡ field_bytes (summed_fields at r)
behind_sum at b r rest h =
    let s : ℕ = sum_of (field_bytes (summed_fields at r)) in
    let whole : b ≡ bytes_of 8 (sum_of (field_bytes (summed_fields at r))) ++ (field_bytes (summed_fields at r) ++ rest) =
    h.bytes ∙ append_assoc (bytes_of 8 (sum_of (field_bytes (summed_fields at r)))) (field_bytes (summed_fields at r)) rest in
    let gone : drop 8 b ≡ field_bytes (summed_fields at r) ++ rest =
    ap (drop 8) whole ∙ drop_at (bytes_of 8 (sum_of (field_bytes (summed_fields at r)))) (field_bytes (summed_fields at r) ++ rest) 8 (length-bytes_of 8 (sum_of (field_bytes (summed_fields at r)))) in
    let len : length (field_bytes (summed_fields at r)) ≡ size_of r - 8 = omega (arith, length-field_bytes (summed_fields at r), summed-len at r) in
    ap (take (size_of r - 8)) gone ∙ take_at (field_bytes (summed_fields at r)) rest (size_of r - 8) len

-- a record is told by what tells it
pub begins_whole : (at : Lsn) (b : List ℕ) (r : LogRecord) (rest : List ℕ) → Begins at b r rest → IsWhole at b (size_of r)
begins_whole at b r rest h =
    let s = all_fields_stand at b r rest h in
    let long : length b ≡ size_of r + length rest = ap length h.bytes ∙ length-append (stored_record at r) rest ∙ ap (λ (k : ℕ). k + length rest) (length-stored at r) in
    record {
      least = omega arith;
      within = omega (arith, long);
      counted = s.1.0;
      front = (s.1.1.0, s.1.1.1.0, s.1.1.1.1.1.0, s.1.1.1.1.1.1.0, s.1.1.1.1.1.1.1.0);
      sum = s.0 ∙ ap sum_of (sym (behind_sum at b r rest h));
    }

-- and what it is
pub begins_txn : (at : Lsn) (b : List ℕ) (r : LogRecord) (rest : List ℕ) → Begins at b r rest → IsTxn (number_at 8 b 24)
begins_txn at b r rest h =
    let s = all_fields_stand at b r rest h in
    omega (arith, s.1.1.1.1.1.1.1.1.0, h.record_is.legal.txn_is)

same_lsn : (p q : Lsn) → q.segment ≡ p.segment → q.offset ≡ p.offset → p ≡ q
same_lsn p q e f = ap (λ (m : ℕ). record { segment = m; offset = p.offset }) (sym e) ∙ ap (λ (m : ℕ). record { segment = q.segment; offset = m }) (sym f)

pub begins_back : (at : Lsn) (b : List ℕ) (r : LogRecord) (rest : List ℕ) → Begins at b r rest → IsBack (lsn_at b 32) at
begins_back at b r rest h =
    let s = all_fields_stand at b r rest h in
    subst (λ (l : Lsn). IsBack l at) (same_lsn r.back (lsn_at b 32) s.1.1.1.1.1.1.1.1.1.0 s.1.1.1.1.1.1.1.1.1.1.0) h.record_is.legal.back_is

pub begins_body : (at : Lsn) (b : List ℕ) (r : LogRecord) (rest : List ℕ) (n : ℕ) → number_at 4 b 8 ≡ n → Begins at b r rest → IsBodyOf at (number_at 1 b 20) (take (n - 40) (drop 40 b)) r.body
begins_body at b r rest n counted h =
    let s = all_fields_stand at b r rest h in
    let len : n - 40 ≡ length (field_bytes (body_fields r.body)) = omega (arith, counted, s.1.0, length-field_bytes (body_fields r.body)) in
    record {
      kind_is = s.1.1.1.1.0;
      rules = h.record_is.legal.body_is;
      fits = h.record_is.body_fits;
      bytes = ap (λ (k : ℕ). take k (drop 40 b)) len ∙ s.1.1.1.1.1.1.1.1.1.1.1.0;
    }

-- what is told is a record
pub whole_begins : (at : Lsn) (b part : List ℕ) (n kind txn : ℕ) (back : Lsn) (x : LogBody) → IsBytes b → IsWhole at b n → txn ≡ number_at 8 b 24 → IsTxn txn → back ≡ lsn_at b 32 → IsBack back at → kind ≡ number_at 1 b 20
    → part ≡ take (n - 40) (drop 40 b) → IsBodyOf at kind part x → Begins at b (record { txn = txn; back = back; body = x }) (drop n b) × (n ≡ size_of (record { txn = txn; back = back; body = x }))
whole_begins at b part n kind txn back x bytes w et ht eb hb ek ep i =
    let r : LogRecord = record { txn = txn; back = back; body = x } in
    let fb : List ℕ = field_bytes (body_fields x) in
    let all : take (n - 40) (drop 40 b) ≡ field_bytes (body_fields x) = sym ep ∙ i.bytes in
    let long : length (field_bytes (body_fields x)) ≡ n - 40 = sym (ap length all) ∙ length-take-le (n - 40) (drop 40 b) (omega (arith, length-drop 40 b, w.within, w.least)) in
    let size : n ≡ size_of r = omega (arith, long, length-field_bytes (body_fields x), w.least) in
    let seg : back.segment ≡ number_at 4 b 32 = ap (λ (l : Lsn). l.segment) eb in
    let off : back.offset ≡ number_at 4 b 36 = ap (λ (l : Lsn). l.offset) eb in
    let body_is : take (length (field_bytes (body_fields x))) (drop 40 b) ≡ field_bytes (body_fields x) = ap (λ (k : ℕ). take k (drop 40 b)) long ∙ all in
    let stands : Stand (summed_fields at r) 8 b =
    (w.counted ∙ size, (w.front.0, (w.front.1, (sym ek ∙ i.kind_is, (w.front.2, (w.front.3, (w.front.4, (sym et, (sym seg, (sym off, (body_is, tt))))))))))) in
    let len : 8 + fields_len (summed_fields at r) ≡ n = omega (arith, summed-len at r, size) in
    let rest : drop 8 b ≡ field_bytes (summed_fields at r) ++ drop (8 + fields_len (summed_fields at r)) b = bytes_are (summed_fields at r) 8 b bytes stands (omega (arith, len, w.within)) in
    let cut : take (n - 8) (drop 8 b) ≡ field_bytes (summed_fields at r) =
    ap (take (n - 8)) rest ∙ take_at (field_bytes (summed_fields at r)) (drop (8 + fields_len (summed_fields at r)) b) (n - 8) (omega (arith, length-field_bytes (summed_fields at r), len)) in
    let sum : number_at 8 b 0 ≡ sum_of (field_bytes (summed_fields at r)) = w.sum ∙ ap sum_of cut in
    let total : 0 + fields_len (all_fields at r) ≡ n = omega (arith, all-len at r, size) in
    let stored : b ≡ stored_record at r ++ drop n b =
    bytes_are (all_fields at r) 0 b bytes (sum, stands) (omega (arith, total, w.within)) ∙ ap (λ (k : ℕ). stored_record at r ++ drop k b) total in
    let fit : Fit (summed_fields at r) = (
      omega (arith, w.counted, size, number_at-lt 4 b 8 bytes),
      (
        omega (arith, w.front.0, number_at-lt 4 b 12 bytes),
        (
          omega (arith, w.front.1, number_at-lt 4 b 16 bytes),
          (
            omega (arith, sym ek ∙ i.kind_is, number_at-lt 1 b 20 bytes),
            (
              omega arith,
              (
                omega arith,
                (
                  omega arith,
                  (omega (arith, ht), (omega (arith, seg, number_at-lt 4 b 32 bytes), (omega (arith, off, number_at-lt 4 b 36 bytes), tt))),
                ),
              ),
            ),
          ),
        ),
      ),
    ) in
    (record { record_is = record { legal = record { txn_is = ht; back_is = hb; body_is = i.rules }; fields = fit; body_fits = i.fits }; bytes = stored }, size)

-- No two records have the same bytes.
use Rattle.std.proofs.Common.{◌≡◌, ◌+◌, ◌-◌, ℕ, true, false, List, length, take, drop, refl, sym, ap, subst, ◌∙◌, arith, length-drop}
use Rattle.std.specs.Prelude.{◌==◌}
use Rattle.std.proofs.lemmas.Bool.Decides.{nat_tests}
use Rattle.std.proofs.lemmas.List.{take_all}
use Rattle.dby_bytes.specs.Numbers.{number_at}
use Rattle.dby_types.specs.declared.number.Lsn.{Lsn}
use Rattle.log_records.specs.Content.{LogBase, LogBody, LogRecord}
use Rattle.log_records.specs.Content.LogBase.{heap, entry, create, discard}
use Rattle.log_records.specs.Content.LogBody.{change, compensation, split, grow, commit, rolled_back, checkpoint, next_segment, purge}
use Rattle.log_records.specs.Fields.{field_bytes}
use Rattle.log_records.specs.Format.{heap_fields, entry_fields, create_fields, base_kind, base_fields, mark_fields, body_fields}
use Rattle.log_records.specs.Rules.{Begins}
use Rattle.log_records.specs.Reading.{IsBaseOf, IsBodyOf, lsn_at}
use Rattle.log_records.proofs.BodyLemmas.{no_change, no_purge}
use Rattle.log_records.proofs.FieldLemmas.{all_stand, all_len}
use Rattle.log_records.proofs.WholeLemmas.{begins_body, all_fields_stand}

-- a text at the end
rest_is : (b x : List ℕ) (at : ℕ) → take (length x) (drop at b) ≡ x → length b ≡ at + length x → x ≡ drop at b
rest_is b x at e len = sym e ∙ take_all (length x) (drop at b) (omega (arith, length-drop at b, len))

-- changes by their bytes
only_heap : (b : List ℕ) (x : LogBase) → IsBaseOf 1 b x
    → x ≡ heap (record { container = number_at 4 b 0; page = number_at 4 b 4; slot = number_at 2 b 8; flags_before = number_at 1 b 10; flags_after = number_at 1 b 11; before = take (number_at 2 b 12) (drop 14 b); after = drop (14 + number_at 2 b 12) b })
only_heap b (heap h) i =
    let s = all_stand (heap_fields h) b i.fits i.bytes in
    let len = all_len (heap_fields h) b i.bytes in
    let e0 : number_at 4 b 0 ≡ h.container = s.0 in
    let e1 : number_at 4 b 4 ≡ h.page = s.1.0 in
    let e2 : number_at 2 b 8 ≡ h.slot = s.1.1.0 in
    let e3 : number_at 1 b 10 ≡ h.flags_before = s.1.1.1.0 in
    let e4 : number_at 1 b 11 ≡ h.flags_after = s.1.1.1.1.0 in
    let n : number_at 2 b 12 ≡ length h.before = s.1.1.1.1.1.0 in
    let first : take (number_at 2 b 12) (drop 14 b) ≡ h.before = ap (λ (k : ℕ). take k (drop 14 b)) n ∙ s.1.1.1.1.1.1.0 in
    let last : h.after ≡ drop (14 + length h.before) b = rest_is b h.after (14 + length h.before) s.1.1.1.1.1.1.1.0 (omega (arith, len)) in
    let last' : drop (14 + number_at 2 b 12) b ≡ h.after = ap (λ (k : ℕ). drop (14 + k) b) n ∙ sym last in
    grind (arith, e0, e1, e2, e3, e4, first, last')
only_heap b (entry e) i = absurd (omega (arith, i.kind_is))
only_heap b (create c t) i = absurd (omega (arith, i.kind_is))
only_heap b (discard c) i = absurd (omega (arith, i.kind_is))

only_entry : (b : List ℕ) (x : LogBase) → IsBaseOf 2 b x → x ≡ entry (record { container = number_at 4 b 0; page = number_at 4 b 4; place = number_at 2 b 8; what = number_at 1 b 10; before = take (number_at 2 b 11) (drop 13 b); after = drop (13 + number_at 2 b 11) b })
only_entry b (entry h) i =
    let s = all_stand (entry_fields h) b i.fits i.bytes in
    let len = all_len (entry_fields h) b i.bytes in
    let e0 : number_at 4 b 0 ≡ h.container = s.0 in
    let e1 : number_at 4 b 4 ≡ h.page = s.1.0 in
    let e2 : number_at 2 b 8 ≡ h.place = s.1.1.0 in
    let e3 : number_at 1 b 10 ≡ h.what = s.1.1.1.0 in
    let n : number_at 2 b 11 ≡ length h.before = s.1.1.1.1.0 in
    let first : take (number_at 2 b 11) (drop 13 b) ≡ h.before = ap (λ (k : ℕ). take k (drop 13 b)) n ∙ s.1.1.1.1.1.0 in
    let last : h.after ≡ drop (13 + length h.before) b = rest_is b h.after (13 + length h.before) s.1.1.1.1.1.1.0 (omega (arith, len)) in
    let behind : drop (13 + number_at 2 b 11) b ≡ h.after = ap (λ (k : ℕ). drop (13 + k) b) n ∙ sym last in
    grind (arith, e0, e1, e2, e3, first, behind)
only_entry b (heap h) i = absurd (omega (arith, i.kind_is))
only_entry b (create c t) i = absurd (omega (arith, i.kind_is))
only_entry b (discard c) i = absurd (omega (arith, i.kind_is))

only_create : (b : List ℕ) (x : LogBase) → IsBaseOf 10 b x → x ≡ create (number_at 4 b 0) (number_at 1 b 4 == 1)
only_create b (create c true) i =
    let s = all_stand (create_fields c true) b i.fits i.bytes in
    let c_is : number_at 4 b 0 ≡ c = s.0 in
    let t_is : (number_at 1 b 4 == 1) ≡ true = grind (arith, nat_tests, s.1.0) in
    grind (arith, c_is, t_is)
only_create b (create c false) i =
    let s = all_stand (create_fields c false) b i.fits i.bytes in
    let c_is : number_at 4 b 0 ≡ c = s.0 in
    let t_is : (number_at 1 b 4 == 1) ≡ false = grind (arith, nat_tests, s.1.0) in
    grind (arith, c_is, t_is)
only_create b (heap h) i = absurd (omega (arith, i.kind_is))
only_create b (entry e) i = absurd (omega (arith, i.kind_is))
only_create b (discard c) i = absurd (omega (arith, i.kind_is))

only_discard : (b : List ℕ) (x : LogBase) → IsBaseOf 11 b x → x ≡ discard (number_at 4 b 0)
only_discard b (discard c) i = let s = all_stand (base_fields (discard c)) b i.fits i.bytes in sym (ap (λ (k : ℕ). discard k) s.0)
only_discard b (heap h) i = absurd (omega (arith, i.kind_is))
only_discard b (entry e) i = absurd (omega (arith, i.kind_is))
only_discard b (create c t) i = absurd (omega (arith, i.kind_is))

-- of another number that is the same
as_kind : (k n : ℕ) (b : List ℕ) (x : LogBase) → k ≡ n → IsBaseOf k b x → IsBaseOf n b x
as_kind k n b x e i = subst (λ (m : ℕ). IsBaseOf m b x) e i

one_base : (k : ℕ) (b : List ℕ) (x y : LogBase) → IsBaseOf k b x → IsBaseOf k b y → x ≡ y
one_base k b (heap h) y i j = only_heap b (heap h) (as_kind k 1 b (heap h) i.kind_is i) ∙ sym (only_heap b y (as_kind k 1 b y i.kind_is j))
one_base k b (entry e) y i j = only_entry b (entry e) (as_kind k 2 b (entry e) i.kind_is i) ∙ sym (only_entry b y (as_kind k 2 b y i.kind_is j))
one_base k b (create c t) y i j = only_create b (create c t) (as_kind k 10 b (create c t) i.kind_is i) ∙ sym (only_create b y (as_kind k 10 b y i.kind_is j))
one_base k b (discard c) y i j = only_discard b (discard c) (as_kind k 11 b (discard c) i.kind_is i) ∙ sym (only_discard b y (as_kind k 11 b y i.kind_is j))

-- bodies by their bytes
same_lsn : (p q : Lsn) → q.segment ≡ p.segment → q.offset ≡ p.offset → p ≡ q
same_lsn p q e f = ap (λ (m : ℕ). record { segment = m; offset = p.offset }) (sym e) ∙ ap (λ (m : ℕ). record { segment = q.segment; offset = m }) (sym f)

compensation_parts : (at : Lsn) (b : List ℕ) (next : Lsn) (y : LogBase) → IsBodyOf at 3 b (compensation next y) → (next ≡ lsn_at b 0) × IsBaseOf (number_at 1 b 8) (drop 9 b) y
compensation_parts at b next y i =
    let s = all_stand (body_fields (compensation next y)) b i.fits.0 i.bytes in
    let len = all_len (body_fields (compensation next y)) b i.bytes in
    (same_lsn next (lsn_at b 0) s.0 s.1.0, record { kind_is = s.1.1.0; rules = i.rules.1; fits = i.fits.1; bytes = sym (rest_is b (field_bytes (base_fields y)) 9 s.1.1.1.0 (omega (arith, len))) })

one_compensation : (at : Lsn) (b : List ℕ) (next : Lsn) (y : LogBase) (z : LogBody) → IsBodyOf at 3 b (compensation next y) → IsBodyOf at 3 b z → compensation next y ≡ z
one_compensation at b next y (compensation last w) i j =
    let p = compensation_parts at b next y i in
    let q = compensation_parts at b last w j in
    ap (λ (l : Lsn). compensation l y) (p.0 ∙ sym q.0) ∙ ap (λ (x : LogBase). compensation last x) (one_base (number_at 1 b 8) (drop 9 b) y w p.1 q.1)
one_compensation at b next y (change w) i j = absurd (no_change 3 w (omega arith) (omega arith) j.kind_is)
one_compensation at b next y z i j = absurd (omega (arith, j.kind_is))

only_split : (at : Lsn) (b : List ℕ) (x : LogBody) → IsBodyOf at 4 b x → x ≡ split (number_at 4 b 0) (number_at 1 b 4) (drop 5 b)
only_split at b (change y) i = absurd (no_change 4 y (omega arith) (omega arith) i.kind_is)
only_split at b (split c n ps) i =
    let s = all_stand (body_fields (split c n ps)) b i.fits i.bytes in
    let len = all_len (body_fields (split c n ps)) b i.bytes in
    let e0 : number_at 4 b 0 ≡ c = s.0 in
    let e1 : number_at 1 b 4 ≡ n = s.1.0 in
    let e2 : ps ≡ drop 5 b = rest_is b ps 5 s.1.1.0 (omega (arith, len)) in
    grind (arith, e0, e1, e2)
only_split at b x i = absurd (omega (arith, i.kind_is))

only_grow : (at : Lsn) (b : List ℕ) (x : LogBody) → IsBodyOf at 5 b x → x ≡ grow (number_at 4 b 0) (number_at 4 b 4) (number_at 1 b 8)
only_grow at b (change y) i = absurd (no_change 5 y (omega arith) (omega arith) i.kind_is)
only_grow at b (grow c p k) i =
    let s = all_stand (body_fields (grow c p k)) b i.fits i.bytes in
    let e0 : number_at 4 b 0 ≡ c = s.0 in
    let e1 : number_at 4 b 4 ≡ p = s.1.0 in
    let e2 : number_at 1 b 8 ≡ k = s.1.1.0 in
    grind (arith, e0, e1, e2)
only_grow at b x i = absurd (omega (arith, i.kind_is))

only_commit : (at : Lsn) (b : List ℕ) (x : LogBody) → IsBodyOf at 6 b x → x ≡ commit
only_commit at b (change y) i = absurd (no_change 6 y (omega arith) (omega arith) i.kind_is)
only_commit at b commit i = refl
only_commit at b x i = absurd (omega (arith, i.kind_is))

only_rolled_back : (at : Lsn) (b : List ℕ) (x : LogBody) → IsBodyOf at 7 b x → x ≡ rolled_back
only_rolled_back at b (change y) i = absurd (no_change 7 y (omega arith) (omega arith) i.kind_is)
only_rolled_back at b rolled_back i = refl
only_rolled_back at b x i = absurd (omega (arith, i.kind_is))

only_checkpoint : (at : Lsn) (b : List ℕ) (x : LogBody) → IsBodyOf at 8 b x
    → x ≡ checkpoint (record { redo = lsn_at b 0; next_container = number_at 4 b 8; next_txn = number_at 8 b 12; count = number_at 2 b 20; txns = drop 22 b })
only_checkpoint at b (change y) i = absurd (no_change 8 y (omega arith) (omega arith) i.kind_is)
only_checkpoint at b (checkpoint m) i =
    let s = all_stand (mark_fields m) b i.fits i.bytes in
    let len = all_len (mark_fields m) b i.bytes in
    let e0 : m.redo ≡ lsn_at b 0 = same_lsn m.redo (lsn_at b 0) s.0 s.1.0 in
    let e1 : number_at 4 b 8 ≡ m.next_container = s.1.1.0 in
    let e2 : number_at 8 b 12 ≡ m.next_txn = s.1.1.1.0 in
    let e3 : number_at 2 b 20 ≡ m.count = s.1.1.1.1.0 in
    let e4 : m.txns ≡ drop 22 b = rest_is b m.txns 22 s.1.1.1.1.1.0 (omega (arith, len)) in
    grind (arith, e0, e1, e2, e3, e4)
only_checkpoint at b x i = absurd (omega (arith, i.kind_is))

only_next_segment : (at : Lsn) (b : List ℕ) (x : LogBody) → IsBodyOf at 9 b x → x ≡ next_segment (number_at 4 b 0)
only_next_segment at b (change y) i = absurd (no_change 9 y (omega arith) (omega arith) i.kind_is)
only_next_segment at b (next_segment n) i = let s = all_stand (body_fields (next_segment n)) b i.fits i.bytes in sym (ap (λ (k : ℕ). next_segment k) s.0)
only_next_segment at b x i = absurd (omega (arith, i.kind_is))

only_purge : (at : Lsn) (b : List ℕ) (x : LogBody) → IsBodyOf at 12 b x → x ≡ purge (number_at 4 b 0) (number_at 4 b 4) (number_at 2 b 8)
only_purge at b (change y) i = absurd (no_purge y i.kind_is)
only_purge at b (purge c p k) i =
    let s = all_stand (body_fields (purge c p k)) b i.fits i.bytes in
    let e0 : number_at 4 b 0 ≡ c = s.0 in
    let e1 : number_at 4 b 4 ≡ p = s.1.0 in
    let e2 : number_at 2 b 8 ≡ k = s.1.1.0 in
    grind (arith, e0, e1, e2)
only_purge at b x i = absurd (omega (arith, i.kind_is))

-- a body with the kind of a change is one
one_change : (at : Lsn) (b : List ℕ) (u : LogBase) (y : LogBody) → IsBodyOf at (base_kind u) b (change u) → IsBodyOf at (base_kind u) b y → change u ≡ y
one_change at b u (change w) i j =
    ap (λ (x : LogBase). change x)
    (one_base (base_kind u) b u w (record { kind_is = refl; rules = i.rules; fits = i.fits; bytes = i.bytes }) (record { kind_is = j.kind_is; rules = j.rules; fits = j.fits; bytes = j.bytes }))
one_change at b u (compensation next y) i j = absurd (no_change 3 u (omega arith) (omega arith) (sym j.kind_is))
one_change at b u (split c n ps) i j = absurd (no_change 4 u (omega arith) (omega arith) (sym j.kind_is))
one_change at b u (grow c p k) i j = absurd (no_change 5 u (omega arith) (omega arith) (sym j.kind_is))
one_change at b u commit i j = absurd (no_change 6 u (omega arith) (omega arith) (sym j.kind_is))
one_change at b u rolled_back i j = absurd (no_change 7 u (omega arith) (omega arith) (sym j.kind_is))
one_change at b u (checkpoint m) i j = absurd (no_change 8 u (omega arith) (omega arith) (sym j.kind_is))
one_change at b u (next_segment s) i j = absurd (no_change 9 u (omega arith) (omega arith) (sym j.kind_is))
one_change at b u (purge c p k) i j = absurd (no_purge u (sym j.kind_is))

of_kind : (at : Lsn) (k n : ℕ) (b : List ℕ) (x : LogBody) → k ≡ n → IsBodyOf at k b x → IsBodyOf at n b x
of_kind at k n b x e i = subst (λ (m : ℕ). IsBodyOf at m b x) e i

one_body : (at : Lsn) (k : ℕ) (b : List ℕ) (x y : LogBody) → IsBodyOf at k b x → IsBodyOf at k b y → x ≡ y
one_body at k b (change u) y i j = one_change at b u y (of_kind at k (base_kind u) b (change u) i.kind_is i) (of_kind at k (base_kind u) b y i.kind_is j)
one_body at k b (compensation next u) y i j = one_compensation at b next u y (of_kind at k 3 b (compensation next u) i.kind_is i) (of_kind at k 3 b y i.kind_is j)
one_body at k b (split c n ps) y i j = only_split at b (split c n ps) (of_kind at k 4 b (split c n ps) i.kind_is i) ∙ sym (only_split at b y (of_kind at k 4 b y i.kind_is j))
one_body at k b (grow c p n) y i j = only_grow at b (grow c p n) (of_kind at k 5 b (grow c p n) i.kind_is i) ∙ sym (only_grow at b y (of_kind at k 5 b y i.kind_is j))
one_body at k b commit y i j = sym (only_commit at b y (of_kind at k 6 b y i.kind_is j))
one_body at k b rolled_back y i j = sym (only_rolled_back at b y (of_kind at k 7 b y i.kind_is j))
one_body at k b (checkpoint m) y i j = only_checkpoint at b (checkpoint m) (of_kind at k 8 b (checkpoint m) i.kind_is i) ∙ sym (only_checkpoint at b y (of_kind at k 8 b y i.kind_is j))
one_body at k b (next_segment s) y i j = only_next_segment at b (next_segment s) (of_kind at k 9 b (next_segment s) i.kind_is i) ∙ sym (only_next_segment at b y (of_kind at k 9 b y i.kind_is j))
one_body at k b (purge c p n) y i j = only_purge at b (purge c p n) (of_kind at k 12 b (purge c p n) i.kind_is i) ∙ sym (only_purge at b y (of_kind at k 12 b y i.kind_is j))

-- bytes begin with at most one record
pub one_record : (at : Lsn) (b : List ℕ) (r x : LogRecord) (rest more : List ℕ) → Begins at b r rest → Begins at b x more → r ≡ x
one_record at b r x rest more h k =
    let s = all_fields_stand at b r rest h in
    let t = all_fields_stand at b x more k in
    let txn : r.txn ≡ x.txn = sym s.1.1.1.1.1.1.1.1.0 ∙ t.1.1.1.1.1.1.1.1.0 in
    let back : r.back ≡ x.back = same_lsn r.back x.back (sym t.1.1.1.1.1.1.1.1.1.0 ∙ s.1.1.1.1.1.1.1.1.1.0) (sym t.1.1.1.1.1.1.1.1.1.1.0 ∙ s.1.1.1.1.1.1.1.1.1.1.0) in
    let body : r.body ≡ x.body =
    one_body at (number_at 1 b 20) (take (number_at 4 b 8 - 40) (drop 40 b)) r.body x.body (begins_body at b r rest (number_at 4 b 8) refl h) (begins_body at b x more (number_at 4 b 8) refl k) in
    ap (λ (n : ℕ). record { txn = n; back = r.back; body = r.body }) txn ∙ ap (λ (l : Lsn). record { txn = x.txn; back = l; body = r.body }) back ∙ ap (λ (y : LogBody). record { txn = x.txn; back = x.back; body = y }) body

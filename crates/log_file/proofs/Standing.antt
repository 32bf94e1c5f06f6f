-- The order of places, and the bytes of records.
use Rattle.std.proofs.Common.{◌≡◌, ◌+◌, ◌-◌, ◌≤◌, ◌<◌, ◌^◌, ℕ, List, ◌++◌, length, take, drop, refl, sym, ap, subst, ◌∙◌, arith, inl, inr, length-append}
use Rattle.std.specs.Prelude.{◌⊎◌, Option, Some, None}
use Rattle.std.proofs.lemmas.List.{take_at, drop-take, take-take, take-append-drop}
use Rattle.dby_types.specs.declared.number.Lsn.{Lsn}
use Rattle.log_records.specs.Content.{LogBody, LogRecord}
use Rattle.log_records.specs.Content.LogBody.{change, compensation, split, grow, commit, rolled_back, checkpoint, next_segment, purge}
use Rattle.log_records.specs.Format.{size_of, stored_record}
use Rattle.log_records.specs.Rules.{Begins, IsBody, IsRecord}
use Rattle.log_records.proofs.WholeLemmas.{length-stored}
use Rattle.log_file.specs.List.{Bytes, StandsAt, follower, place_behind, behind}

-- a place isn't behind another one
abbrev pub AtMost : Lsn → Lsn → Type 0
AtMost a b = (a.segment < b.segment) ⊎ ((a.segment ≡ b.segment) × (a.offset ≤ b.offset))

pub same_place : (p q : Lsn) → p.segment ≡ q.segment → p.offset ≡ q.offset → p ≡ q
same_place p q e f = ap (λ (m : ℕ). record { segment = m; offset = p.offset }) e ∙ ap (λ (m : ℕ). record { segment = q.segment; offset = m }) f

pub at_most : (a b c : Lsn) → AtMost a b → AtMost b c → AtMost a c
at_most a b c (inl x) (inl y) = inl (omega (arith, x, y))
at_most a b c (inl x) (inr y) = inl (omega (arith, x, y.0))
at_most a b c (inr x) (inl y) = inl (omega (arith, x.0, y))
at_most a b c (inr x) (inr y) = inr (omega (arith, x.0, y.0), omega (arith, x.1, y.1))

-- a record names no segment, or a later one
pub ways : (at : Lsn) (b : LogBody) → IsBody at b → (follower b ≡ None) ⊎ ((s : ℕ) × (follower b ≡ Some s) × (at.segment < s))
ways at (change b) h = inl refl
ways at (compensation next b) h = inl refl
ways at (split c n ps) h = inl refl
ways at (grow c p k) h = inl refl
ways at commit h = inl refl
ways at rolled_back h = inl refl
ways at (checkpoint m) h = inl refl
ways at (next_segment s) h = inr (s, refl, h)
ways at (purge c p k) h = inl refl

-- the place behind a record isn't before it
pub behind_later : (at : Lsn) (r : LogRecord) → IsRecord at r → AtMost at (behind at r)
behind_later at r h = by_way (ways at r.body h.legal.body_is)
  where
    by_way : (follower r.body ≡ None) ⊎ ((s : ℕ) × (follower r.body ≡ Some s) × (at.segment < s)) → AtMost at (behind at r)
    by_way (inl e) = subst (λ (o : Option ℕ). AtMost at (place_behind at o (size_of r))) (sym e) (inr (refl, omega (arith, h.fields.1.1.0)))
    by_way (inr (s, e, lt)) = subst (λ (o : Option ℕ). AtMost at (place_behind at o (size_of r))) (sym e) (inl lt)

-- a record that ends before a place lies in an earlier segment, or with all its bytes before it
pub inside : (at to : Lsn) (r : LogRecord) → IsRecord at r → to.offset < 2 ^ 32 - 1 → AtMost (behind at r) to → (at.segment < to.segment) ⊎ ((at.segment ≡ to.segment) × (at.offset + size_of r ≤ to.offset))
inside at to r h small le = by_way (ways at r.body h.legal.body_is)
  where
    here : AtMost (place_behind at None (size_of r)) to → (at.segment < to.segment) ⊎ ((at.segment ≡ to.segment) × (at.offset + size_of r ≤ to.offset))
    here (inl x) = inl x
    here (inr x) = inr (x.0, omega (arith, x.1, small))

    there : (s : ℕ) → at.segment < s → AtMost (place_behind at (Some s) (size_of r)) to → (at.segment < to.segment) ⊎ ((at.segment ≡ to.segment) × (at.offset + size_of r ≤ to.offset))
    there s lt (inl x) = inl (omega (arith, lt, x))
    there s lt (inr x) = inl (omega (arith, lt, x.0))

    by_way : (follower r.body ≡ None) ⊎ ((s : ℕ) × (follower r.body ≡ Some s) × (at.segment < s)) → (at.segment < to.segment) ⊎ ((at.segment ≡ to.segment) × (at.offset + size_of r ≤ to.offset))
    by_way (inl e) = here (subst (λ (o : Option ℕ). AtMost (place_behind at o (size_of r)) to) e le)
    by_way (inr (s, e, lt)) = there s lt (subst (λ (o : Option ℕ). AtMost (place_behind at o (size_of r)) to) e le)

-- the bytes of a record decide that it stands
pub stands_as : (at : Lsn) (r : LogRecord) (b : List ℕ) → IsRecord at r → take (size_of r) b ≡ stored_record at r → Begins at b r (drop (size_of r) b)
stands_as at r b h e = record { record_is = h; bytes = sym (take-append-drop (size_of r) b) ∙ ap (λ (l : List ℕ). l ++ drop (size_of r) b) e }

pub bytes_of_begins : (at : Lsn) (r : LogRecord) (b rest : List ℕ) → Begins at b r rest → take (size_of r) b ≡ stored_record at r
bytes_of_begins at r b rest h = ap (take (size_of r)) h.bytes ∙ take_at (stored_record at r) rest (size_of r) (length-stored at r)

-- bytes that are the same as far as a record goes have it too
pub stands_same : (b c : Bytes) (at : Lsn) (r : LogRecord) → take (size_of r) (c at) ≡ take (size_of r) (b at) → StandsAt b at r → StandsAt c at r
stands_same b c at r e s = (drop (size_of r) (c at), stands_as at r (c at) s.1.record_is (e ∙ bytes_of_begins at r (b at) s.0 s.1))

-- there are as many bytes as the record has
pub long_enough : (at : Lsn) (r : LogRecord) (b rest : List ℕ) → Begins at b r rest → size_of r ≤ length b
long_enough at r b rest h = omega (arith, ap length h.bytes, length-append (stored_record at r) rest, length-stored at r)

-- a part of what two lists have in common
pub same_part : (x y : List ℕ) (m j k : ℕ) → take m y ≡ take m x → j + k ≤ m → take k (drop j y) ≡ take k (drop j x)
same_part x y m j k e le =
    let cut : (l : List ℕ) → take k (drop j l) ≡ drop j (take (j + k) (take m l)) = λ l. sym (drop-take j k l) ∙ ap (drop j) (sym (take-take (j + k) m l le)) in
    cut y ∙ ap (λ (l : List ℕ). drop j (take (j + k) l)) e ∙ sym (cut x)

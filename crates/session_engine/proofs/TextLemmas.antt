-- The text of a script's statement by its number.
use Rattle.std.proofs.Common.{◌≡◌, ◌<◌, ◌≤◌, ℕ, zero, suc, List, [], ◌∷◌, length, map, sym, ap, subst, ◌∙◌, Some, slice_get, slice_index_or, arith}
use Rattle.std.proofs.lemmas.Option.{slice_get-get_or}
use Rattle.sql_lexer.specs.declared.token.Span.{Span}
use Rattle.sql_lexer.specs.Order.{AreInOrder}
use Rattle.sql_lexer.specs.Splitting.{bytes_of, spans_of, statements_of}

-- the next statement of a script, by its span
pub next-text : (script : List ℕ) (spans : List Span) (i : ℕ) (s : Span) → slice_get spans i ≡ Some s → slice_get (map (bytes_of script) spans) i ≡ Some (bytes_of script s)
next-text script [] i s h = cc
next-text script (x ∷ spans) zero s h = let same : x ≡ s = cc in ap (λ (y : Span). Some (bytes_of script y)) same
next-text script (x ∷ spans) (suc i) s h = next-text script spans i s h

pub span-within : (low end : ℕ) (spans : List Span) (i : ℕ) (s : Span) → AreInOrder low end spans → slice_get spans i ≡ Some s → (s.from ≤ s.to) × (s.to ≤ end)
span-within low end [] i s o h = cc
span-within low end (x ∷ spans) zero s o h =
    let same : x ≡ s = cc in
    let last = ends x.to end spans o.2 in
    let lt = o.1 in
    subst (λ (y : Span). (y.from ≤ y.to) × (y.to ≤ end)) same (omega (arith, lt), last)
  where
    ends : (low end : ℕ) (spans : List Span) → AreInOrder low end spans → low ≤ end
    ends low end [] o = o
    ends low end (y ∷ spans) o = let r = ends y.to end spans o.2 in omega (arith, r, o.0, o.1)
span-within low end (x ∷ spans) (suc i) s o h = span-within x.to end spans i s o.2 h

-- the span that is read at a place of the list
pub read-next : (script : List ℕ) (spans : List Span) (i : ℕ) (d : Span) → spans ≡ spans_of script → i < length spans → slice_get (statements_of script) i ≡ Some (bytes_of script (slice_index_or spans i d))
read-next script spans i d is lt = ap (λ (ss : List Span). slice_get (map (bytes_of script) ss) i) (sym is) ∙ next-text script spans i (slice_index_or spans i d) (slice_get-get_or spans i d lt)

pub read-within : (script : List ℕ) (spans : List Span) (i : ℕ) (d : Span) → spans ≡ spans_of script → AreInOrder 0 (length script) (spans_of script) → i < length spans
    → ((slice_index_or spans i d).from ≤ (slice_index_or spans i d).to) × ((slice_index_or spans i d).to ≤ length script)
read-within script spans i d is o lt = span-within 0 (length script) spans i (slice_index_or spans i d) (subst (AreInOrder 0 (length script)) (sym is) o) (slice_get-get_or spans i d lt)

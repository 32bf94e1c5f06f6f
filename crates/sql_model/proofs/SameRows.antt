-- Rows that stand for one.
use Rattle.std.proofs.Common.{◌≡◌, ℕ, Bool, true, false, cond, List, [], ◌∷◌, ◌++◌, map, refl, sym, ap, ◌∙◌}
use Rattle.std.specs.Prelude.{◌&&◌, ◌||◌}
use Rattle.std.specs.Bool.{Decides, one_answer}
use Rattle.std.specs.List.{fold}
use Rattle.std.specs.Ordering.{is_eq, ordering_reverse}
use Rattle.std.specs.declared.cmp.Ordering.{Ordering}
use Rattle.std.specs.declared.cmp.Ordering.TheVariants.{Less, Equal, Greater}
use Rattle.std.proofs.lemmas.Bool.{and_from, and_parts}
use Rattle.dby_types.specs.declared.value.Value.{Value}
use Rattle.dby_types.specs.declared.value.Value.TheVariants.{Null, Num, Text}
use Rattle.dby_types.specs.declared.value.Value.TheVariants.{Bool as Truth}
use Rattle.sql_model.specs.Rows.{same_row, trimmed_row, has_same, with_row, distinct_rows}
use Rattle.sql_model.specs.Tuples.{Row}
use Rattle.sql_model.specs.Unlike.{IsUnlike, AreUnlike, HasOneOfEach}
use Rattle.table_model.specs.Tables.{Each}
use Rattle.value_compare.proofs.OrderLemmas.{text_cmp_total, value_cmp_total}
use Rattle.value_compare.proofs.TrimmedLemmas.{same_value-Decides, trimmed_text-same, text_cmp-trimmed}
use Rattle.value_compare.specs.Order.{same_value, trimmed, value_cmp}
use Rattle.value_compare.specs.Text.{text_cmp, trimmed_text}

pub same_row_decides : (a b : Row) → Decides (same_row a b) (trimmed_row a ≡ trimmed_row b)
same_row_decides [] [] = (λ h. refl, λ h. refl)
same_row_decides [] (y ∷ b) = (λ h. cc, λ h. cc)
same_row_decides (x ∷ a) [] = (λ h. cc, λ h. cc)
same_row_decides (x ∷ a) (y ∷ b) = (forth (same_row_decides a b), back (same_row_decides a b))
  where
    forth : Decides (same_row a b) (trimmed_row a ≡ trimmed_row b) → (same_value x y && same_row a b) ≡ true → trimmed x ∷ trimmed_row a ≡ trimmed y ∷ trimmed_row b
    forth more h =
        let parts : (same_value x y ≡ true) × (same_row a b ≡ true) = and_parts (same_value x y) (same_row a b) h in
        ap (λ (v : Value). v ∷ trimmed_row a) ((same_value-Decides x y).0 parts.0) ∙ ap (λ (r : Row). trimmed y ∷ r) (more.0 parts.1)

    back : Decides (same_row a b) (trimmed_row a ≡ trimmed_row b) → trimmed x ∷ trimmed_row a ≡ trimmed y ∷ trimmed_row b → (same_value x y && same_row a b) ≡ true
    back more h =
        let first : trimmed x ≡ trimmed y = cc in
        let rest : trimmed_row a ≡ trimmed_row b = cc in
        and_from (same_value x y) (same_row a b) ((same_value-Decides x y).1 first) (more.1 rest)

pub same_row_itself : (a : Row) → same_row a a ≡ true
same_row_itself a = (same_row_decides a a).1 refl

eq_reverse : (o : Ordering) → is_eq (ordering_reverse o) ≡ is_eq o
eq_reverse Less = refl
eq_reverse Equal = refl
eq_reverse Greater = refl

same_value_back : (a b : Value) → same_value a b ≡ same_value b a
same_value_back a b = ap is_eq (value_cmp_total.antisymm a b) ∙ eq_reverse (value_cmp b a)

pub same_row_back : (a b : Row) → same_row a b ≡ same_row b a
same_row_back [] [] = refl
same_row_back [] (y ∷ b) = refl
same_row_back (x ∷ a) [] = refl
same_row_back (x ∷ a) (y ∷ b) = ap (λ s. s && same_row a b) (same_value_back x y) ∙ ap (λ s. same_value y x && s) (same_row_back a b)

-- a row behind others that it is unlike
unlike_of : (r : Row) (seen : List Row) → has_same r seen ≡ false → IsUnlike r seen
unlike_of r [] h = tt
unlike_of r (s ∷ seen) h = step (same_row r s) refl h (unlike_of r seen)
  where
    step : (b : Bool) → same_row r s ≡ b → (b || has_same r seen) ≡ false → (has_same r seen ≡ false → IsUnlike r seen) → IsUnlike r (s ∷ seen)
    step true e h' more = cc
    step false e h' more = (e, more h')

unlike_snoc : (s r : Row) (seen : List Row) → IsUnlike s seen → same_row s r ≡ false → IsUnlike s (seen ++ r ∷ [])
unlike_snoc s r [] h k = (k, tt)
unlike_snoc s r (t ∷ seen) h k = (h.0, unlike_snoc s r seen h.1 k)

pub are_unlike_snoc : (r : Row) (seen : List Row) → AreUnlike seen → IsUnlike r seen → AreUnlike (seen ++ r ∷ [])
are_unlike_snoc r [] h k = (tt, tt)
are_unlike_snoc r (s ∷ seen) h k = (unlike_snoc s r seen h.0 (same_row_back s r ∙ k.0), are_unlike_snoc r seen h.1 k.1)

-- DISTINCT, one row more
unlike_with : (seen : List Row) (r : Row) → AreUnlike seen → AreUnlike (with_row seen r)
unlike_with seen r h = step (has_same r seen) refl
  where
    step : (b : Bool) → has_same r seen ≡ b → AreUnlike (cond b seen (seen ++ r ∷ []))
    step true e = h
    step false e = are_unlike_snoc r seen h (unlike_of r seen e)

has_snoc : (r s : Row) (seen : List Row) → has_same r (seen ++ s ∷ []) ≡ (has_same r seen || same_row r s)
has_snoc r s [] = or_false (same_row r s)
  where
    or_false : (b : Bool) → (b || false) ≡ b
    or_false true = refl
    or_false false = refl
has_snoc r s (t ∷ seen) = step (same_row r t) (has_snoc r s seen)
  where
    step : (b : Bool) → has_same r (seen ++ s ∷ []) ≡ (has_same r seen || same_row r s) → (b || has_same r (seen ++ s ∷ [])) ≡ ((b || has_same r seen) || same_row r s)
    step true more = refl
    step false more = more

has_still : (r s : Row) (seen : List Row) → has_same r seen ≡ true → has_same r (with_row seen s) ≡ true
has_still r s seen h = step (has_same s seen)
  where
    step : (b : Bool) → has_same r (cond b seen (seen ++ s ∷ [])) ≡ true
    step true = h
    step false = has_snoc r s seen ∙ ap (λ b. b || same_row r s) h

has_now : (r : Row) (seen : List Row) → has_same r (with_row seen r) ≡ true
has_now r seen = step (has_same r seen) refl
  where
    or_true : (b : Bool) → (b || true) ≡ true
    or_true true = refl
    or_true false = refl

    step : (b : Bool) → has_same r seen ≡ b → has_same r (cond b seen (seen ++ r ∷ [])) ≡ true
    step true e = e
    step false e = has_snoc r r seen ∙ ap (λ b. has_same r seen || b) (same_row_itself r) ∙ or_true (has_same r seen)

-- all of them
unlike_fold : (seen rows : List Row) → AreUnlike seen → AreUnlike (fold with_row seen rows)
unlike_fold seen [] h = h
unlike_fold seen (r ∷ rows) h = unlike_fold (with_row seen r) rows (unlike_with seen r h)

has_fold : (r : Row) (seen rows : List Row) → has_same r seen ≡ true → has_same r (fold with_row seen rows) ≡ true
has_fold r seen [] h = h
has_fold r seen (s ∷ rows) h = has_fold r (with_row seen s) rows (has_still r s seen h)

-- a value without blanks has none to lose
trimmed_once : (v : Value) → trimmed (trimmed v) ≡ trimmed v
trimmed_once Null = refl
trimmed_once (Num n) = refl
trimmed_once (Truth b) = refl
trimmed_once (Text t) = ap Text (trimmed_text-same (trimmed_text t) t (text_back t))
  where
    text_back : (t : List ℕ) → text_cmp (trimmed_text t) t ≡ Equal
    text_back t = text_cmp_total.antisymm (trimmed_text t) t ∙ ap ordering_reverse (text_cmp-trimmed t)

-- a row and the same row without blanks
pub same_trimmed : (r : Row) → trimmed_row (trimmed_row r) ≡ trimmed_row r
same_trimmed [] = refl
same_trimmed (v ∷ r) = ap (λ (w : Value). w ∷ trimmed_row (trimmed_row r)) (trimmed_once v) ∙ ap (λ (s : Row). trimmed v ∷ s) (same_trimmed r)

has_untrimmed : (r : Row) (seen : List Row) → has_same (trimmed_row r) seen ≡ true → has_same r seen ≡ true
has_untrimmed r seen h = same_of seen ∙ h
  where
    one : (s : Row) → same_row r s ≡ same_row (trimmed_row r) s
    one s = one_answer (same_row r s) (same_row (trimmed_row r) s) (same_row_decides r s)
        ((λ k. sym (same_trimmed r) ∙ (same_row_decides (trimmed_row r) s).0 k), (λ k. (same_row_decides (trimmed_row r) s).1 (same_trimmed r ∙ k)))

    same_of : (ss : List Row) → has_same r ss ≡ has_same (trimmed_row r) ss
    same_of [] = refl
    same_of (s ∷ ss) = ap (λ b. b || has_same r ss) (one s) ∙ ap (λ b. same_row (trimmed_row r) s || b) (same_of ss)

each_has : (seen rows : List Row) → Each (λ (r : Row). has_same r (fold with_row seen (map trimmed_row rows)) ≡ true) rows
each_has seen [] = tt
each_has seen (r ∷ rows) = (
  has_untrimmed r (fold with_row (with_row seen (trimmed_row r)) (map trimmed_row rows))
      (has_fold (trimmed_row r) (with_row seen (trimmed_row r)) (map trimmed_row rows) (has_now (trimmed_row r) seen)),
  each_has (with_row seen (trimmed_row r)) rows,
)

pub distinct_has_one : (rows : List Row) → HasOneOfEach rows (distinct_rows rows)
distinct_has_one rows = record { unlike = unlike_fold [] (map trimmed_row rows) tt; each = each_has [] rows }

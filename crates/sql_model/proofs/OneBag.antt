-- Two joined lists of one statement over the same tables are one bag.
use Rattle.std.proofs.Common.{◌≡◌, ◌≢◌, ℕ, ◌+◌, Bool, true, false, cond, List, [], ◌∷◌, Some, refl, sym, ap, ◌∙◌, subst, arith}
use Rattle.std.proofs.lemmas.Bool.{eqb-true, eq-eqb, and_from, and_parts}
use Rattle.std.proofs.lemmas.List.Sorted.{IsPermutation-refl, IsPermutation-sym, IsPermutation-trans, IsPermutation-cons, IsPermutation-middle}
use Rattle.std.specs.List.Sorted.{IsPermutation}
use Rattle.dby_types.specs.declared.answer.Component.{Component}
use Rattle.dby_types.specs.declared.number.RowId.{RowId}
use Rattle.sql_ast.specs.declared.bound.Expr.{Expr}
use Rattle.sql_model.specs.Joins.{Joins, MeetsWhere}
use Rattle.sql_model.specs.Tuples.{Row, Tuple, IsTuple, row_of, same_places, times}
use Rattle.sql_model.specs.Where.{judged}
use Rattle.sql_model.specs.declared.judged.Judged.{Judged}
use Rattle.sql_model.specs.declared.judged.Judged.TheVariants.{Meets, Fails, Refuses}
use Rattle.table_model.proofs.TablesLemmas.{each_map}
use Rattle.table_model.specs.Tables.{Tables, Each, is_same_rid}

pub rid_is : (r s : RowId) → is_same_rid r s ≡ true → r ≡ s
rid_is r s h =
    let parts : (_ ≡ true) × (_ ≡ true) = and_parts _ _ h in
    let page : r.page ≡ s.page = eqb-true r.page s.page parts.0 in
    let slot : r.slot ≡ s.slot = eqb-true r.slot s.slot parts.1 in
    grind arith

pub rid_itself : (r : RowId) → is_same_rid r r ≡ true
rid_itself r = and_from _ _ (eq-eqb r.page r.page refl) (eq-eqb r.slot r.slot refl)

pub places_itself : (t : Tuple) → same_places t t ≡ true
places_itself [] = refl
places_itself (c ∷ cs) = and_from _ _ (rid_itself c.rid) (places_itself cs)

component_is : (c d : Component) → c.rid ≡ d.rid → c.row ≡ d.row → c ≡ d
component_is c d e f = grind arith

some_is : (a b : Row) → Some a ≡ Some b → a ≡ b
some_is a b e = cc

module _ (tables : Tables) where
  -- at one place there is one row, so a tuple is what its places say
  pub tuple_is : (from : List ℕ) (t u : Tuple) → IsTuple tables from t → IsTuple tables from u → same_places t u ≡ true → t ≡ u
  tuple_is [] [] [] a b h = refl
  tuple_is [] [] (d ∷ ds) a b h = absurd b
  tuple_is [] (c ∷ cs) u a b h = absurd a
  tuple_is (n ∷ ns) [] u a b h = absurd a
  tuple_is (n ∷ ns) (c ∷ cs) [] a b h = absurd b
  tuple_is (n ∷ ns) (c ∷ cs) (d ∷ ds) a b h =
      let parts : (is_same_rid c.rid d.rid ≡ true) × (same_places cs ds ≡ true) = and_parts (is_same_rid c.rid d.rid) (same_places cs ds) h in
      let place : c.rid ≡ d.rid = rid_is c.rid d.rid parts.0 in
      let row : c.row ≡ d.row = some_is c.row d.row (sym a.0 ∙ ap (tables n) place ∙ b.0) in
      ap (λ (e : Component). e ∷ cs) (component_is c d place row) ∙ ap (λ (es : Tuple). d ∷ es) (tuple_is ns cs ds a.1 b.1 parts.1)

module _ (tables : Tables) (from : List ℕ) where
  abbrev There : Tuple → Type 0
  There = IsTuple tables from

  -- a list without one tuple
  abbrev without : Tuple → List Tuple → List Tuple
  without t [] = []
  without t (u ∷ us) = cond (same_places t u) us (u ∷ without t us)

  without_there : (t : Tuple) (us : List Tuple) → Each There us → Each There (without t us)
  without_there t [] h = tt
  without_there t (u ∷ us) h = step (same_places t u) (without_there t us h.1)
    where
      step : (b : Bool) → Each There (without t us) → Each There (cond b us (u ∷ without t us))
      step true more = h.1
      step false more = (h.0, more)

  taken_out : (t : Tuple) (us : List Tuple) → There t → Each There us → times t us ≢ 0 → IsPermutation us (t ∷ without t us)
  taken_out t [] a h ne = absurd (ne refl)
  taken_out t (u ∷ us) a h ne = step (same_places t u) refl ne (taken_out t us a h.1)
    where
      step : (b : Bool) → same_places t u ≡ b → cond b 1 0 + times t us ≢ 0 → (times t us ≢ 0 → IsPermutation us (t ∷ without t us)) → IsPermutation (u ∷ us) (t ∷ cond b us (u ∷ without t us))
      step true e ne' more = subst (λ (v : Tuple). IsPermutation (u ∷ us) (v ∷ us)) (sym (tuple_is tables from t u a h.0 e)) (IsPermutation-refl (u ∷ us))
      step false e ne' more =
          IsPermutation-trans (u ∷ us) (u ∷ t ∷ without t us) (t ∷ u ∷ without t us)
          (IsPermutation-cons u us (t ∷ without t us) (more (λ k. ne' (omega arith)))) (IsPermutation-middle (u ∷ []) t (without t us))

  times_out : (v t : Tuple) (us : List Tuple) → There t → Each There us → times t us ≢ 0 → times v us ≡ cond (same_places v t) 1 0 + times v (without t us)
  times_out v t [] a h ne = absurd (ne refl)
  times_out v t (u ∷ us) a h ne = step (same_places t u) refl ne (times_out v t us a h.1)
    where
      step : (b : Bool) → same_places t u ≡ b → cond b 1 0 + times t us ≢ 0 → (times t us ≢ 0 → times v us ≡ cond (same_places v t) 1 0 + times v (without t us))
          → cond (same_places v u) 1 0 + times v us ≡ cond (same_places v t) 1 0 + times v (cond b us (u ∷ without t us))
      step true e ne' more = ap (λ (w : Tuple). cond (same_places v w) 1 0 + times v us) (sym (tuple_is tables from t u a h.0 e))
      step false e ne' more =
          let rest : times v us ≡ cond (same_places v t) 1 0 + times v (without t us) = more (λ k. ne' (omega arith)) in omega arith

  -- lists in which each tuple stands equally often
  pub same_bag : (xs ys : List Tuple) → Each There xs → Each There ys → ((t : Tuple) → There t → times t xs ≡ times t ys) → IsPermutation xs ys
  same_bag [] [] a b h = IsPermutation-refl []
  same_bag [] (y ∷ ys) a b h =
      let none : 0 ≡ cond (same_places y y) 1 0 + times y ys = h y b.0 in
      let one : 0 ≡ 1 + times y ys = none ∙ ap (λ s. cond s 1 0 + times y ys) (places_itself y) in
      absurd (omega arith)
  same_bag (x ∷ xs) ys a b h =
      let one : times x ys ≡ 1 + times x xs = sym (h x a.0) ∙ ap (λ s. cond s 1 0 + times x xs) (places_itself x) in
      let some : times x ys ≢ 0 = λ k. absurd (omega arith) in
      let rest : IsPermutation xs (without x ys) = same_bag xs (without x ys) a.1 (without_there x ys b) (λ t there.
      let here : cond (same_places t x) 1 0 + times t xs ≡ times t ys = h t there in
      let out : times t ys ≡ cond (same_places t x) 1 0 + times t (without x ys) = times_out t x ys a.0 b some in
      omega arith) in
      IsPermutation-trans (x ∷ xs) (x ∷ without x ys) ys (IsPermutation-cons x xs (without x ys) rest) (IsPermutation-sym ys (x ∷ without x ys) (taken_out x ys a.0 b some))

  -- a tuple that doesn't meet WHERE stands nowhere
  none_at : (cs : List Expr) (t : Tuple) (found : List Tuple) → There t → judged cs (row_of t) ≢ Meets → Each (MeetsWhere tables from cs) found → times t found ≡ 0
  none_at cs t [] a ne h = refl
  none_at cs t (u ∷ found) a ne h = step (same_places t u) refl (none_at cs t found a ne h.1)
    where
      step : (b : Bool) → same_places t u ≡ b → times t found ≡ 0 → cond b 1 0 + times t found ≡ 0
      step true e more = absurd (ne (ap (λ (v : Tuple). judged cs (row_of v)) (tuple_is tables from t u a h.0.there e) ∙ h.0.met))
      step false e more = omega arith

  pub one_bag : (cs : List Expr) (found more : List Tuple) → Joins tables from cs found → Joins tables from cs more → IsPermutation found more
  one_bag cs found more j k = same_bag found more (each_map (MeetsWhere tables from cs) There (λ t m. m.there) found j.each) (each_map (MeetsWhere tables from cs) There (λ t m. m.there) more k.each)
      (λ t there. step t there (judged cs (row_of t)) refl)
    where
      step : (t : Tuple) → There t → (v : Judged) → judged cs (row_of t) ≡ v → times t found ≡ times t more
      step t there Meets e = j.once t (record { there = there; met = e }) ∙ sym (k.once t (record { there = there; met = e }))
      step t there Fails e = none_at cs t found there (λ m. cc) j.each ∙ sym (none_at cs t more there (λ m. cc) k.each)
      step t there (Refuses why) e = none_at cs t found there (λ m. cc) j.each ∙ sym (none_at cs t more there (λ m. cc) k.each)

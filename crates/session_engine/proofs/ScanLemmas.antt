-- A scan reads on, row by row, and at the end of its table it has read it whole.
use Rattle.std.proofs.Common.{◌≡◌, ℕ, ◌+◌, ◌≤◌, List, [], ◌∷◌, ◌++◌, Bool, true, false, refl, sym, ◌∙◌, ap, subst, arith, inl, inr, Option, Some, None}
use Rattle.std.specs.Prelude.{◌⊎◌, ◌&&◌, if◌then◌else◌}
use Rattle.std.proofs.lemmas.Bool.{both_ways, cases_Bool}
use Rattle.std.proofs.lemmas.Bool.Decides.{nat_tests}
use Rattle.dby_types.specs.declared.answer.Component.{Component}
use Rattle.dby_types.specs.declared.number.RowId.{RowId}
use Rattle.dby_types.specs.declared.value.Value.{Value}
use Rattle.table_model.specs.Tables.{Tables, Each, is_same_rid}
use Rattle.store_api.specs.Order.{rid_lt, is_behind, IsFirstBehind}
use Rattle.store_api.specs.View.{Heaps, live}
use Rattle.journal_model.specs.Levels.{ReadsCommitted, meets, refuses, times, has_ids, rows_at, with_row, Stood}
use Rattle.session_engine.specs.Scanning.{IsScanned, IsReadAt}

-- BEFORE ITS FIRST ROW
pub nothing_read : (f : RowId → Option (List Value)) → IsScanned f None []
nothing_read f = record { stood = tt; once = λ rid row b h. absurd (both_ways true b refl); few = λ rid. omega arith }

-- the order of row ids
not_self : (r : RowId) → rid_lt r r ≡ false
not_self r = grind (arith, nat_tests)

further : (a b c : RowId) → rid_lt a b ≡ true → rid_lt a c ≡ false → rid_lt b c ≡ false
further a b c ab ac = grind (arith, nat_tests)

same_or_before : (a b : RowId) → rid_lt a b ≡ false → (rid_lt b a ≡ true) ⊎ (is_same_rid b a ≡ true)
same_or_before a b h = grind (arith, nat_tests)

same_is : (a b : RowId) → is_same_rid a b ≡ true → a ≡ b
same_is a b h = grind (arith, nat_tests)

same_self : (a : RowId) → is_same_rid a a ≡ true
same_self a = grind (arith, nat_tests)

-- what was passed stays passed
passed_on : (after : Option RowId) (rid c : RowId) → is_behind after rid ≡ true → is_behind after c ≡ false → rid_lt rid c ≡ false
passed_on None rid c h k = absurd (both_ways true k refl)
passed_on (Some a) rid c h k = further a rid c h k

-- how often
times_snoc : (ids : List RowId) (ts : List (List Component)) (t : List Component) → times ids (ts ++ t ∷ []) ≡ times ids ts + (if has_ids ids t then 1 else 0)
times_snoc ids [] t = omega arith
times_snoc ids (x ∷ ts) t = (let h = times_snoc ids ts t in omega (arith, h))

miss : (rid : RowId) (c : Component) → is_same_rid rid c.rid ≡ false → has_ids (rid ∷ []) (c ∷ []) ≡ false
miss rid c h = ap (λ b. b && true) h

hit : (rid : RowId) (c : Component) → is_same_rid rid c.rid ≡ true → has_ids (rid ∷ []) (c ∷ []) ≡ true
hit rid c h = ap (λ b. b && true) h

-- a row id behind what was passed isn't there yet
not_yet : (f : RowId → Option (List Value)) (after : Option RowId) (rid : RowId) (ts : List (List Component)) → is_behind after rid ≡ true → Each (IsReadAt f after) ts → times (rid ∷ []) ts ≡ 0
not_yet f after rid [] h e = refl
not_yet f after rid (t ∷ ts) h e =
    let c = e.0.part in
    let apart : is_same_rid rid c.rid ≡ false = elim (cases_Bool (is_same_rid rid c.rid)) [
      | inl same ↦ absurd (both_ways (is_behind after c.rid) e.0.passed (subst (λ r. is_behind after r ≡ true) (same_is rid c.rid same) h))
      | inr ne ↦ ne
    ] in
    let none : has_ids (rid ∷ []) t ≡ false = subst (λ x. has_ids (rid ∷ []) x ≡ false) (sym e.0.is) (miss rid c apart) in
    ap (λ b. (if b then 1 else 0) + times (rid ∷ []) ts) none ∙ (let rest = not_yet f after rid ts h e.1 in omega (arith, rest))

each_passed : (f : RowId → Option (List Value)) (after : Option RowId) (rid : RowId) (ts : List (List Component)) → is_behind after rid ≡ true → Each (IsReadAt f after) ts → Each (IsReadAt f (Some rid)) ts
each_passed f after rid [] h e = tt
each_passed f after rid (t ∷ ts) h e = (record { part = e.0.part; is = e.0.is; stood = e.0.stood; passed = passed_on after rid e.0.part.rid h e.0.passed }, each_passed f after rid ts h e.1)

each_snoc : {X : Type 0} → (P : X → Type 0) (xs : List X) (x : X) → Each P xs → P x → Each P (xs ++ x ∷ [])
each_snoc P [] x h p = (p, tt)
each_snoc P (y ∷ ys) x h p = (h.0, each_snoc P ys x h.1 p)

-- where a row id stands, beside the first row behind another
sorts : (f : RowId → Option (List Value)) (heaps : Heaps) (n : ℕ) (after : Option RowId) (rid r : RowId) (row : List Value) → ((q : RowId) → live (heaps n q) ≡ f q) → IsFirstBehind heaps n after (Some rid)
    → rid_lt rid r ≡ false → f r ≡ Some row → (is_behind after r ≡ false) ⊎ (r ≡ rid)
sorts f heaps n after rid r row stored first le there = elim (cases_Bool (is_behind after r)) [
  | inl behind ↦ elim (same_or_before rid r le) [
    | inl lt ↦ (let none : live (heaps n r) ≡ None = ap live (first.first r behind lt) in let e : None ≡ Some row = sym none ∙ stored r ∙ there in cc)
    | inr same ↦ inr (same_is r rid same)
  ]
  | inr passed ↦ inl passed
]

-- A LIVE ROW is read
pub reads_row : (f : RowId → Option (List Value)) (heaps : Heaps) (n : ℕ) (after : Option RowId) (rid : RowId) (row : List Value) (ts : List (List Component))
    → ((q : RowId) → live (heaps n q) ≡ f q) → IsFirstBehind heaps n after (Some rid) → f rid ≡ Some row → IsScanned f after ts → IsScanned f (Some rid) (ts ++ (record { rid = rid; row = row } ∷ []) ∷ [])
reads_row f heaps n after rid row ts stored first there h =
    let behind : is_behind after rid ≡ true = first.there.2 in
    let new : List Component = record { rid = rid; row = row } ∷ [] in
    let mine : times (rid ∷ []) ts ≡ 0 = not_yet f after rid ts behind h.stood in
    record {
      stood = each_snoc (IsReadAt f (Some rid)) ts new (each_passed f after rid ts behind h.stood) (record { part = record { rid = rid; row = row }; is = refl; stood = there; passed = not_self rid });
      once = λ r x le at. elim (sorts f heaps n after rid r x stored first le at) [
        | inl passed ↦
            let apart : is_same_rid r rid ≡ false = elim (cases_Bool (is_same_rid r rid)) [ inl same ↦ absurd (both_ways (is_behind after r) passed (subst (λ q. is_behind after q ≡ true) (sym (same_is r rid same)) behind)) | inr ne ↦ ne ] in
            times_snoc (r ∷ []) ts new ∙ ap (λ b. times (r ∷ []) ts + (if b then 1 else 0)) (miss r (record { rid = rid; row = row }) apart) ∙ (let one = h.once r x passed at in omega (arith, one))
        | inr same ↦ subst (λ q. times (q ∷ []) (ts ++ new ∷ []) ≡ 1) (sym same)
            (times_snoc (rid ∷ []) ts new ∙ ap (λ b. times (rid ∷ []) ts + (if b then 1 else 0)) (hit rid (record { rid = rid; row = row }) (same_self rid)) ∙ (omega (arith, mine)))
      ];
      few = λ r. elim (cases_Bool (is_same_rid r rid)) [
        | inl same ↦ subst (λ q. times (q ∷ []) (ts ++ new ∷ []) ≤ 1) (sym (same_is r rid same))
            (let e = times_snoc (rid ∷ []) ts new ∙ ap (λ b. times (rid ∷ []) ts + (if b then 1 else 0)) (hit rid (record { rid = rid; row = row }) (same_self rid)) in omega (arith, mine, e))
        | inr apart ↦ (let e = times_snoc (r ∷ []) ts new ∙ ap (λ b. times (r ∷ []) ts + (if b then 1 else 0)) (miss r (record { rid = rid; row = row }) apart) in let one = h.few r in omega (arith, one, e))
      ];
    }

-- A MARKED ROW is passed
pub passes_row : (f : RowId → Option (List Value)) (heaps : Heaps) (n : ℕ) (after : Option RowId) (rid : RowId) (ts : List (List Component))
    → ((q : RowId) → live (heaps n q) ≡ f q) → IsFirstBehind heaps n after (Some rid) → f rid ≡ None → IsScanned f after ts → IsScanned f (Some rid) ts
passes_row f heaps n after rid ts stored first none h = record {
  stood = each_passed f after rid ts first.there.2 h.stood;
  once = λ r x le at. elim (sorts f heaps n after rid r x stored first le at) [
    | inl passed ↦ h.once r x passed at
    | inr same ↦ (let e : None ≡ Some x = sym none ∙ ap f (sym same) ∙ at in cc)
  ];
  few = h.few;
}

-- WHOLE: each row of the table once
pub record IsWhole (f : RowId → Option (List Value)) (joined : List (List Component)) : Type 0 where
  pub stood : Each (λ t. (c : Component) × (t ≡ c ∷ []) × (f c.rid ≡ Some c.row)) joined
  pub once : (rid : RowId) (row : List Value) → f rid ≡ Some row → times (rid ∷ []) joined ≡ 1
  pub few : (rid : RowId) → times (rid ∷ []) joined ≤ 1

pub all_read : (f : RowId → Option (List Value)) (heaps : Heaps) (n : ℕ) (after : Option RowId) (ts : List (List Component))
    → ((q : RowId) → live (heaps n q) ≡ f q) → IsFirstBehind heaps n after None → IsScanned f after ts → IsWhole f ts
all_read f heaps n after ts stored first h = record {
  stood = there ts h.stood;
  once = λ r x at. elim (cases_Bool (is_behind after r)) [
    | inl behind ↦ (let none : live (heaps n r) ≡ None = ap live (first.first r behind refl) in let e : None ≡ Some x = sym none ∙ stored r ∙ at in cc)
    | inr passed ↦ h.once r x passed at
  ];
  few = h.few;
}
  where
    there : (ts : List (List Component)) → Each (IsReadAt f after) ts → Each (λ t. (c : Component) × (t ≡ c ∷ []) × (f c.rid ≡ Some c.row)) ts
    there [] e = tt
    there (t ∷ ts) e = ((e.0.part, e.0.is, e.0.stood), there ts e.1)

-- the same over rows that are the same
pub scanned_same : (f g : RowId → Option (List Value)) (after : Option RowId) (ts : List (List Component)) → ((r : RowId) → g r ≡ f r) → IsScanned f after ts → IsScanned g after ts
scanned_same f g after ts same h = record {
  stood = moves ts h.stood;
  once = λ r x b at. h.once r x b (sym (same r) ∙ at);
  few = h.few;
}
  where
    moves : (ts : List (List Component)) → Each (IsReadAt f after) ts → Each (IsReadAt g after) ts
    moves [] e = tt
    moves (t ∷ ts) e = (record { part = e.0.part; is = e.0.is; stood = same e.0.part.rid ∙ e.0.stood; passed = e.0.passed }, moves ts e.1)

-- WHAT WAS READ WHOLE at one place is read committed there
other_ids : (f : RowId → Option (List Value)) (a b : RowId) (ids : List RowId) (ts : List (List Component)) → Each (λ t. (c : Component) × (t ≡ c ∷ []) × (f c.rid ≡ Some c.row)) ts → times (a ∷ b ∷ ids) ts ≡ 0
other_ids f a b ids [] e = refl
other_ids f a b ids (t ∷ ts) e =
    let none : has_ids (a ∷ b ∷ ids) t ≡ false = subst (λ x. has_ids (a ∷ b ∷ ids) x ≡ false) (sym e.0.1) (and_none (is_same_rid a e.0.0.rid)) in
    ap (λ x. (if x then 1 else 0) + times (a ∷ b ∷ ids) ts) none ∙ (let rest = other_ids f a b ids ts e.1 in omega (arith, rest))
  where
    and_none : (x : Bool) → (x && false) ≡ false
    and_none true = refl
    and_none false = refl

no_ids : (f : RowId → Option (List Value)) (ts : List (List Component)) → Each (λ t. (c : Component) × (t ≡ c ∷ []) × (f c.rid ≡ Some c.row)) ts → times [] ts ≡ 0
no_ids f [] e = refl
no_ids f (t ∷ ts) e =
    let none : has_ids [] t ≡ false = subst (λ x. has_ids [] x ≡ false) (sym e.0.1) refl in
    ap (λ x. (if x then 1 else 0) + times [] ts) none ∙ (let rest = no_ids f ts e.1 in omega (arith, rest))

few_ids : (f : RowId → Option (List Value)) (ids : List RowId) (ts : List (List Component)) → IsWhole f ts → times ids ts ≤ 1
few_ids f [] ts h = (let e = no_ids f ts h.stood in omega (arith, e))
few_ids f (a ∷ []) ts h = h.few a
few_ids f (a ∷ b ∷ ids) ts h = (let e = other_ids f a b ids ts h.stood in omega (arith, e))

pub reads_committed : (views : ℕ → Tables) (p n : ℕ) (f : RowId → Option (List Value)) (joined : List (List Component)) → ((r : RowId) → views p n r ≡ f r) → IsWhole f joined → ReadsCommitted views p p (n ∷ []) (λ row. meets) joined
reads_committed views p n f joined same h = record {
  stood = stands joined h.stood;
  met = all_meet joined;
  once = λ ids rows stays met. one ids rows (stays p (omega arith) (omega arith));
  quiet = λ ids rows why stays e. (let x : meets ≡ refuses why = e in cc);
  twice = λ ids two. (let few = few_ids f ids joined h in absurd (omega (arith, two, few)));
}
  where
    stands : (ts : List (List Component)) → Each (λ t. (c : Component) × (t ≡ c ∷ []) × (f c.rid ≡ Some c.row)) ts → Each (Stood views p p (n ∷ [])) ts
    stands [] e = tt
    stands (t ∷ ts) e = (subst (Stood views p p (n ∷ [])) (sym e.0.1) ((p, omega arith, omega arith, same e.0.0.rid ∙ e.0.2), tt), stands ts e.1)

    all_meet : (ts : List (List Component)) → Each (λ t. meets ≡ meets) ts
    all_meet [] = tt
    all_meet (t ∷ ts) = (refl, all_meet ts)

    no_more : (rows : List (List Value)) (there : Option (List Value)) → with_row there None ≡ Some rows → ⊥
    no_more rows None e = cc
    no_more rows (Some row) e = cc

    single : (a : RowId) (rows : List (List Value)) (there : Option (List Value)) → views p n a ≡ there → with_row (views p n a) (Some []) ≡ Some rows → times (a ∷ []) joined ≡ 1
    single a rows None at e = (let x : None ≡ Some rows = ap (λ r. with_row r (Some [])) (sym at) ∙ e in cc)
    single a rows (Some row) at e = h.once a row (sym (same a) ∙ at)

    one : (ids : List RowId) (rows : List (List Value)) → rows_at (views p) (n ∷ []) ids ≡ Some rows → times ids joined ≡ 1
    one [] rows e = cc
    one (a ∷ []) rows e = single a rows (views p n a) refl e
    one (a ∷ b ∷ ids) rows e = absurd (no_more rows (views p n a) e)

-- The one refusal is the first of the earliest class.
use Rattle.std.proofs.Common.{◌≡◌, ◌≤◌, ◌<◌, Bool, true, false, cond, List, [], ◌∷◌, ◌++◌, Option, Some, None, Ok, Err, refl, sym, ap, ◌∙◌, subst, ◌⊎◌, inl, inr, arith}
use Rattle.std.specs.Prelude.{nat_lt, ◌≢◌}
use Rattle.std.specs.Global.{Box}
use Rattle.std.proofs.lemmas.Bool.Decides.{nat_tests}
use Rattle.dby_types.specs.declared.state.SqlState.{SqlState}
use Rattle.sql_binding.specs.Laws.{IsFirst, IsNotBefore}
use Rattle.dby_types.specs.declared.definition.Dictionary.{Dictionary}
use Rattle.dby_types.specs.declared.definition.TableDef.{TableDef}
use Rattle.dby_types.specs.declared.state.SqlState.TheVariants.{NoTable}
use Rattle.sql_ast.specs.declared.statement.SelectText.{SelectText}
use Rattle.sql_ast.specs.declared.statement.Statement.{Statement}
use Rattle.sql_ast.specs.declared.statement.Statement.TheVariants.{Select}
use Rattle.sql_ast.specs.declared.statement.TableText.{TableText}
use Rattle.sql_binding.specs.Binding.{bound_form, all_faults, binding}
use Rattle.sql_binding.specs.Bound.{Bound, select}
use Rattle.sql_binding.specs.From.{tables_of, missing_tables, table_faults, found_in}
use Rattle.sql_binding.specs.Order.{class_of, or_earlier, refusal_of, kept_with, given_unless}
use Rattle.sql_binding.specs.Queries.{later_faults, query}
use Rattle.table_model.specs.Tables.{Each}

pub none_is : (whys : List SqlState) → refusal_of whys ≡ None → whys ≡ []
none_is [] h = refl
none_is (w ∷ ws) h = absurd (cc)

least_under : (v w : SqlState) (ws : List SqlState) → class_of w ≤ class_of v → Each (IsNotBefore v) ws → Each (IsNotBefore w) ws
least_under v w [] h k = tt
least_under v w (u ∷ us) h k = let here : class_of v ≤ class_of u = k.0 in (omega arith, least_under v w us h k.1)

alone : (w : SqlState) (ws : List SqlState) → ws ≡ [] → IsFirst (w ∷ ws) w
alone w [] h = record { before = []; after = []; cut = refl; first = tt; least = (omega arith, tt) }
alone w (v ∷ vs) h = absurd (cc)

behind_later : (w v : SqlState) (ws : List SqlState) → class_of v < class_of w → IsFirst ws v → IsFirst (w ∷ ws) v
behind_later w v ws h k =
    record { before = w ∷ k.before; after = k.after; cut = ap (λ (us : List SqlState). w ∷ us) k.cut; first = (h, k.first); least = (omega arith, k.least) }

before_all : (w v : SqlState) (ws : List SqlState) → class_of w ≤ class_of v → IsFirst ws v → IsFirst (w ∷ ws) w
before_all w v ws h k =
    record { before = []; after = ws; cut = refl; first = tt; least = (omega arith, least_under v w ws h k.least) }

pub first_is : (whys : List SqlState) (why : SqlState) → refusal_of whys ≡ Some why → IsFirst whys why
first_is [] why h = absurd (cc)
first_is (w ∷ ws) why h = step (refusal_of ws) refl h (first_is ws)
  where
    step : (o : Option SqlState) → refusal_of ws ≡ o → Some (or_earlier w o) ≡ Some why → ((v : SqlState) → refusal_of ws ≡ Some v → IsFirst ws v) → IsFirst (w ∷ ws) why
    step None e h' more = let same : w ≡ why = cc in subst (λ (u : SqlState). IsFirst (w ∷ ws) u) same (alone w ws (none_is ws e))
    step (Some v) e h' more = choice (nat_lt (class_of v) (class_of w)) refl h' (more v e)
      where
        choice : (b : Bool) → nat_lt (class_of v) (class_of w) ≡ b → Some (cond b v w) ≡ Some why → IsFirst ws v → IsFirst (w ∷ ws) why
        choice true t k there =
            let less : class_of v < class_of w = grind (arith, nat_tests) in
            let same : v ≡ why = cc in subst (λ (u : SqlState). IsFirst (w ∷ ws) u) same (behind_later w v ws less there)
        choice false t k there =
            let less : class_of w ≤ class_of v = grind (arith, nat_tests) in
            let same : w ≡ why = cc in subst (λ (u : SqlState). IsFirst (w ∷ ws) u) same (before_all w v ws less there)

-- ---- kept as they come
kept_later : (v x y : SqlState) → or_earlier v (Some (or_earlier x (Some y))) ≡ or_earlier (or_earlier v (Some x)) (Some y)
kept_later v x y = step (nat_lt (class_of y) (class_of x)) refl (nat_lt (class_of x) (class_of v)) refl (nat_lt (class_of y) (class_of v)) refl
  where
    step : (b : Bool) → nat_lt (class_of y) (class_of x) ≡ b → (c : Bool) → nat_lt (class_of x) (class_of v) ≡ c → (d : Bool) → nat_lt (class_of y) (class_of v) ≡ d
        → or_earlier v (Some (cond b y x)) ≡ or_earlier (cond c x v) (Some y)
    step true e true f true g = ap (λ (t : Bool). cond t y v) g ∙ sym (ap (λ (t : Bool). cond t y x) e)
    step true e true f false g = absurd (grind (arith, nat_tests))
    step true e false f true g = refl
    step true e false f false g = refl
    step false e true f true g = ap (λ (t : Bool). cond t x v) f ∙ sym (ap (λ (t : Bool). cond t y x) e)
    step false e true f false g = ap (λ (t : Bool). cond t x v) f ∙ sym (ap (λ (t : Bool). cond t y x) e)
    step false e false f true g = absurd (grind (arith, nat_tests))
    step false e false f false g = ap (λ (t : Bool). cond t x v) f ∙ sym (ap (λ (t : Bool). cond t y v) g)

kept_step : (v : SqlState) (a o : Option SqlState) → or_earlier v (kept_with a o) ≡ or_earlier (or_earlier v a) o
kept_step v None o = refl
kept_step v (Some x) None = refl
kept_step v (Some x) (Some y) = kept_later v x y

pub kept_as_they_come : (vs ws : List SqlState) → refusal_of (vs ++ ws) ≡ kept_with (refusal_of vs) (refusal_of ws)
kept_as_they_come [] ws = refl
kept_as_they_come (v ∷ vs) ws =
    ap (λ (o : Option SqlState). Some (or_earlier v o)) (kept_as_they_come vs ws) ∙ ap (λ (u : SqlState). Some u) (kept_step v (refusal_of vs) (refusal_of ws))

-- ---- a statement bound
pub quiet_is_given : (s : Statement) (d : Dictionary) → all_faults s d ≡ [] → binding s d ≡ Ok (bound_form s d)
quiet_is_given s d h = ap (λ (whys : List SqlState). given_unless (refusal_of whys) (bound_form s d)) h

pub given_is_quiet : (s : Statement) (d : Dictionary) (b : Bound) → binding s d ≡ Ok b → (all_faults s d ≡ []) × (b ≡ bound_form s d)
given_is_quiet s d b h = step (refusal_of (all_faults s d)) refl h
  where
    step : (o : Option SqlState) → refusal_of (all_faults s d) ≡ o → given_unless o (bound_form s d) ≡ Ok b → (all_faults s d ≡ []) × (b ≡ bound_form s d)
    step None e k = let same : bound_form s d ≡ b = cc in (none_is (all_faults s d) e, sym same)
    step (Some why) e k = absurd (cc)

pub refused_is_first : (s : Statement) (d : Dictionary) (why : SqlState) → binding s d ≡ Err why → IsFirst (all_faults s d) why
refused_is_first s d why h = step (refusal_of (all_faults s d)) refl h
  where
    step : (o : Option SqlState) → refusal_of (all_faults s d) ≡ o → given_unless o (bound_form s d) ≡ Err why → IsFirst (all_faults s d) why
    step None e k = absurd (cc)
    step (Some v) e k = let same : v ≡ why = cc in first_is (all_faults s d) why (e ∙ ap (λ (u : SqlState). Some u) same)

-- ---- a refusal of the first class at the front is told
zero_first : (why : SqlState) (ws : List SqlState) → class_of why ≡ 0 → refusal_of (why ∷ ws) ≡ Some why
zero_first why ws h = step (refusal_of ws)
  where
    step : (o : Option SqlState) → Some (or_earlier why o) ≡ Some why
    step None = refl
    step (Some later) = choice (nat_lt (class_of later) (class_of why)) refl
      where
        choice : (b : Bool) → nat_lt (class_of later) (class_of why) ≡ b → Some (cond b later why) ≡ Some why
        choice true e = absurd (grind (arith, nat_tests))
        choice false e = refl

missing_is : (d : Dictionary) (ts : List TableText) → (missing_tables d ts ≡ []) ⊎ ((ws : List SqlState) × (missing_tables d ts ≡ NoTable ∷ ws))
missing_is d [] = inl refl
missing_is d (t ∷ ts) = step (found_in d t.name) (missing_is d ts)
  where
    step : (o : Option TableDef) → ((missing_tables d ts ≡ []) ⊎ ((ws : List SqlState) × (missing_tables d ts ≡ NoTable ∷ ws)))
        → (table_faults o ++ missing_tables d ts ≡ []) ⊎ ((ws : List SqlState) × (table_faults o ++ missing_tables d ts ≡ NoTable ∷ ws))
    step None more = inr (missing_tables d ts, refl)
    step (Some t') more = more

pub missing_table_told : (d : Dictionary) (q : Box SelectText) → missing_tables d (tables_of q.value.from) ≢ [] → binding (Select q) d ≡ Err NoTable
missing_table_told d q h = step (missing_is d (tables_of q.value.from))
  where
    step : ((missing_tables d (tables_of q.value.from) ≡ []) ⊎ ((ws : List SqlState) × (missing_tables d (tables_of q.value.from) ≡ NoTable ∷ ws))) → binding (Select q) d ≡ Err NoTable
    step (inl e) = absurd (h e)
    step (inr m) =
        ap (λ (whys : List SqlState). given_unless (refusal_of (whys ++ later_faults d q.value)) (select (query d q.value))) m.1
        ∙ ap (λ (o : Option SqlState). given_unless o (select (query d q.value))) (zero_first NoTable (m.0 ++ later_faults d q.value) refl)

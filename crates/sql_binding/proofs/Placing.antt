-- The columns of a bound tree stand in the row that it is computed of.
use Rattle.std.proofs.Common.{◌≡◌, ◌≤◌, ◌<◌, ℕ, suc, ◌+◌, Bool, true, false, cond, List, [], ◌∷◌, ◌++◌, length, Option, Some, None, Result, Ok, Err, refl, subst, arith}
use Rattle.std.specs.Prelude.{◌==◌, ◌||◌}
use Rattle.std.specs.List.{cons_option}
use Rattle.std.specs.Str.{bytes_eq}
use Rattle.dby_types.specs.declared.definition.ColumnDef.{ColumnDef}
use Rattle.dby_types.specs.declared.state.SqlState.{SqlState}
use Rattle.dby_types.specs.declared.state.SqlState.TheVariants.{Grouping}
use Rattle.sql_ast.specs.declared.expression.Expression.{Expression, Or', And', Not', Compare', IsNull', Between', In', Add', Multiply', Sign', Number, Text, Truth, Column, ColumnOf, Brackets', CountAll, Call', Row_of-Expression, end_of-Expression, more_of-Expression}
use Rattle.sql_ast.specs.declared.expression.Sum.TheVariants.{Plus, Minus}
use Rattle.sql_binding.specs.Expressions.{Scope, over_rows, index_of, place_in, bound, bound_in, bound_over, calls, calls_in}
use Rattle.sql_binding.specs.Faults.{unless, is_place, key_faults, name_faults, call_faults, as_truth, as_number, beside, faults, faults_in, faults_over}
use Rattle.sql_binding.specs.Within.{AreWithin, IsWithin}
use Rattle.sql_binding.specs.Names.{Source, Spot, spot_from, spots_from, spot_of, only_one, or_missing, column_named, spot_or, spot_faults, width_of}
use Rattle.sql_binding.specs.Trees.{Tree}
use Rattle.table_model.specs.Tables.{Each}

pub left_nil : {X : Type 0} → (xs ys : List X) → xs ++ ys ≡ [] → xs ≡ []
left_nil [] ys h = refl
left_nil (x ∷ xs) ys h = absurd (cc)

pub right_nil : {X : Type 0} → (xs ys : List X) → xs ++ ys ≡ [] → ys ≡ []
right_nil [] ys h = h
right_nil (x ∷ xs) ys h = absurd (cc)

-- ---- a name's place
abbrev pub IsBelow : ℕ → Spot → Type 0
IsBelow w spot = spot.place < w

abbrev pub BelowIf : ℕ → Option Spot → Type 0
BelowIf w None = Unit {0}
BelowIf w (Some spot) = IsBelow w spot

further : (v w : ℕ) (o : Option Spot) → v ≤ w → BelowIf v o → BelowIf w o
further v w None h k = tt
further v w (Some spot) h k = omega arith

spot_below : (n : ℕ) (name : List ℕ) (cs : List ColumnDef) → BelowIf (n + length cs) (spot_from n name cs)
spot_below n name [] = tt
spot_below n name (c ∷ cs) = step (bytes_eq name c.name) (further (suc n + length cs) (n + length (c ∷ cs)) (spot_from (suc n) name cs) (omega arith) (spot_below (suc n) name cs))
  where
    step : (b : Bool) → BelowIf (n + length (c ∷ cs)) (spot_from (suc n) name cs)
        → BelowIf (n + length (c ∷ cs)) (cond b (Some (record { place = n; ty = c.ty })) (spot_from (suc n) name cs))
    step true more = omega arith
    step false more = more

each_further : (v w : ℕ) (spots : List Spot) → v ≤ w → Each (IsBelow v) spots → Each (IsBelow w) spots
each_further v w [] h k = tt
each_further v w (s ∷ ss) h k = let here : s.place < v = k.0 in (omega arith, each_further v w ss h k.1)

joined_below : (w : ℕ) (o : Option Spot) (spots : List Spot) → BelowIf w o → Each (IsBelow w) spots → Each (IsBelow w) (cons_option o spots)
joined_below w None spots h k = k
joined_below w (Some s) spots h k = (h, k)

spots_below : (n : ℕ) (name : List ℕ) (ss : List Source) → Each (IsBelow (n + width_of ss)) (spots_from n name ss)
spots_below n name [] = tt
spots_below n name (s ∷ ss) =
    joined_below (n + width_of (s ∷ ss)) (spot_from n name s.columns) (spots_from (n + length s.columns) name ss)
    (further (n + length s.columns) (n + width_of (s ∷ ss)) (spot_from n name s.columns) (omega arith) (spot_below n name s.columns))
    (each_further (n + length s.columns + width_of ss) (n + width_of (s ∷ ss)) (spots_from (n + length s.columns) name ss) (omega arith) (spots_below (n + length s.columns) name ss))

of_below : (n : ℕ) (table name : List ℕ) (ss : List Source) → BelowIf (n + width_of ss) (spot_of n table name ss)
of_below n table name [] = tt
of_below n table name (s ∷ ss) =
    step (bytes_eq table s.exposed)
    (further (n + length s.columns) (n + width_of (s ∷ ss)) (spot_from n name s.columns) (omega arith) (spot_below n name s.columns))
    (further (n + length s.columns + width_of ss) (n + width_of (s ∷ ss)) (spot_of (n + length s.columns) table name ss) (omega arith) (of_below (n + length s.columns) table name ss))
  where
    step : (b : Bool) → BelowIf (n + width_of (s ∷ ss)) (spot_from n name s.columns) → BelowIf (n + width_of (s ∷ ss)) (spot_of (n + length s.columns) table name ss)
        → BelowIf (n + width_of (s ∷ ss)) (cond b (spot_from n name s.columns) (spot_of (n + length s.columns) table name ss))
    step true here more = here
    step false here more = more

abbrev pub BelowOk : ℕ → Result Spot SqlState → Type 0
BelowOk w (Err why) = Unit {0}
BelowOk w (Ok spot) = IsBelow w spot

only_below : (w : ℕ) (spots : List Spot) → Each (IsBelow w) spots → BelowOk w (only_one spots)
only_below w [] h = tt
only_below w (s ∷ []) h = h.0
only_below w (s ∷ t ∷ ss) h = tt

missing_below : (w : ℕ) (o : Option Spot) → BelowIf w o → BelowOk w (or_missing o)
missing_below w None h = tt
missing_below w (Some s) h = h

pub named_below : (ss : List Source) (table : Option (List ℕ)) (name : List ℕ) → BelowOk (width_of ss) (column_named ss table name)
named_below ss None name = only_below (width_of ss) (spots_from 0 name ss) (subst (λ (w : ℕ). Each (IsBelow w) (spots_from 0 name ss)) (omega arith) (spots_below 0 name ss))
named_below ss (Some table) name = missing_below (width_of ss) (spot_of 0 table name ss) (subst (λ (w : ℕ). BelowIf w (spot_of 0 table name ss)) (omega arith) (of_below 0 table name ss))

pub found_below : (w : ℕ) (r : Result Spot SqlState) → BelowOk w r → spot_faults r ≡ [] → (spot_or r).place < w
found_below w (Ok s) h k = h
found_below w (Err why) h k = absurd (cc)

-- ---- the row of which an expression is computed
pub index_below : (p : ℕ) (keys : List ℕ) → is_place p keys ≡ true → index_of p keys < length keys
index_below p [] h = absurd (cc)
index_below p (k ∷ ks) h = step (p == k) h (index_below p ks)
  where
    step : (b : Bool) → (b || is_place p ks) ≡ true → (is_place p ks ≡ true → index_of p ks < length ks) → cond b 0 (suc (index_of p ks)) < length (k ∷ ks)
    step true e more = omega arith
    step false e more = let there : index_of p ks < length ks = more e in omega arith

-- the columns that an expression may have are there, and so are its aggregates
abbrev pub HasRow : ℕ → Option (List ℕ) → ℕ → Type 0
HasRow v None w = v ≤ w
HasRow v (Some keys) w = length keys ≤ w

abbrev pub HasCalls : Option (List ℕ) → ℕ → ℕ → ℕ → Type 0
HasCalls None n k w = Unit {0}
HasCalls (Some keys) n k w = n + k ≤ w

pub calls_left : (o : Option (List ℕ)) (n a b w : ℕ) → HasCalls o n (a + b) w → HasCalls o n a w
calls_left None n a b w h = tt
calls_left (Some keys) n a b w h = omega arith

pub calls_right : (o : Option (List ℕ)) (n a b w : ℕ) → HasCalls o n (a + b) w → HasCalls o (n + a) b w
calls_right None n a b w h = tt
calls_right (Some keys) n a b w h = omega arith

pub unless_true : (b : Bool) (why : SqlState) → unless b why ≡ [] → b ≡ true
unless_true true why h = refl
unless_true false why h = absurd (cc)

pub place_within : (o : Option (List ℕ)) (p v w : ℕ) → HasRow v o w → p < v → key_faults o p ≡ [] → place_in o p < w
place_within None p v w h k f = omega arith
place_within (Some keys) p v w h k f = let there : index_of p keys < length keys = index_below p keys (unless_true (is_place p keys) Grouping f) in omega arith

pub call_within : (o : Option (List ℕ)) (n w : ℕ) → HasCalls o n 1 w → call_faults o ≡ [] → n < w
call_within None n w h f = absurd (cc)
call_within (Some keys) n w h f = omega arith

module _ (s : Scope) (w : ℕ) (has : HasRow (width_of s.sources) s.keys w) where
  name_within : (table : Option (List ℕ)) (name : List ℕ) → name_faults s table name ≡ [] → place_in s.keys (spot_or (column_named s.sources table name)).place < w
  name_within table name f =
      place_within s.keys (spot_or (column_named s.sources table name)).place (width_of s.sources) w has
      (found_below (width_of s.sources) (column_named s.sources table name) (named_below s.sources table name) (left_nil (spot_faults (column_named s.sources table name)) _ f))
      (right_nil (spot_faults (column_named s.sources table name)) _ f)

  mutual
    pub within : (n : ℕ) (e : Expression) → HasCalls s.keys n (calls e) w → faults s n e ≡ [] → IsWithin w (bound s n e)
    within n (Or' p a q b) r f =
        (within n a (calls_left s.keys n (calls a) (calls b) w r) (left_nil _ _ (left_nil _ _ f)), within (n + calls a) b (calls_right s.keys n (calls a) (calls b) w r) (left_nil _ _ (right_nil (as_truth (faults s n a) (bound s n a)) _ f)))
    within n (And' p a q b) r f =
        (within n a (calls_left s.keys n (calls a) (calls b) w r) (left_nil _ _ (left_nil _ _ f)), within (n + calls a) b (calls_right s.keys n (calls a) (calls b) w r) (left_nil _ _ (right_nil (as_truth (faults s n a) (bound s n a)) _ f)))
    within n (Not' p a) r f = within n a r (left_nil _ _ f)
    within n (Compare' op p a q b) r f =
        (within n a (calls_left s.keys n (calls a) (calls b) w r) (left_nil _ _ f), within (n + calls a) b (calls_right s.keys n (calls a) (calls b) w r) (left_nil _ _ (right_nil (faults s n a) _ f)))
    within n (IsNull' deny p a) r f = within n a r f
    within n (Between' deny p a q b u c) r f =
        let low : faults s (n + calls a) b ≡ [] = left_nil _ _ (right_nil (faults s n a) _ (left_nil (faults s n a ++ beside (bound s n a) (faults s (n + calls a) b) (bound s (n + calls a) b)) _ f)) in
        let high : faults s (n + calls a + calls b) c ≡ [] = left_nil _ _ (right_nil (faults s n a ++ beside (bound s n a) (faults s (n + calls a) b) (bound s (n + calls a) b)) _ f) in
        let rest : HasCalls s.keys (n + calls a) (calls b + calls c) w = calls_right s.keys n (calls a) (calls b + calls c) w r in (
          within n a (calls_left s.keys n (calls a) (calls b + calls c) w r) (left_nil _ _ (left_nil (faults s n a ++ beside (bound s n a) (faults s (n + calls a) b) (bound s (n + calls a) b)) _ f)),
          (
            within (n + calls a) b (calls_left s.keys (n + calls a) (calls b) (calls c) w rest) low,
            within (n + calls a + calls b) c (calls_right s.keys (n + calls a) (calls b) (calls c) w rest) high,
          ),
        )
    within n (In' deny p a shape members) r f = (
      within n a (calls_left s.keys n (calls a) (calls_in members) w r) (left_nil _ _ f),
      within_in (bound s n a) (n + calls a) members (calls_right s.keys n (calls a) (calls_in members) w r) (right_nil (faults s n a) _ f),
    )
    within n (Add' op p a q b) r f =
        (within n a (calls_left s.keys n (calls a) (calls b) w r) (left_nil _ _ (left_nil _ _ f)), within (n + calls a) b (calls_right s.keys n (calls a) (calls b) w r) (left_nil _ _ (right_nil (as_number (faults s n a) (bound s n a)) _ f)))
    within n (Multiply' op p a q b) r f =
        (within n a (calls_left s.keys n (calls a) (calls b) w r) (left_nil _ _ (left_nil _ _ f)), within (n + calls a) b (calls_right s.keys n (calls a) (calls b) w r) (left_nil _ _ (right_nil (as_number (faults s n a) (bound s n a)) _ f)))
    within n (Sign' Plus p a) r f = (tt, within n a r (left_nil _ _ f))
    within n (Sign' Minus p a) r f = within n a r (left_nil _ _ f)
    within n (Number op m) r f = tt
    within n (Text t) r f = tt
    within n (Truth b) r f = tt
    within n (Column name) r f = name_within None name f
    within n (ColumnOf table name) r f = name_within (Some table) name f
    within n (Brackets' p a) r f = within n a r f
    within n CountAll r f = call_within s.keys n w r f
    within n (Call' g p a) r f = call_within s.keys n w r (left_nil _ _ (left_nil _ _ f))

    pub within_in : {m : _} → (left : Tree) (n : ℕ) (row : Row_of-Expression m) → HasCalls s.keys n (calls_in row) w → faults_in s left n row ≡ [] → AreWithin w (bound_in s n row)
    within_in left n end_of-Expression r f = tt
    within_in left n (more_of-Expression e rest) r f = (
      within n e (calls_left s.keys n (calls e) (calls_in rest) w r) (left_nil _ _ (left_nil _ _ f)),
      within_in left (n + calls e) rest (calls_right s.keys n (calls e) (calls_in rest) w r) (right_nil (beside left (faults s n e) (bound s n e)) _ f),
    )

-- over the joined row
pub within_row : (ss : List Source) (e : Expression) → faults_over ss e ≡ [] → IsWithin (width_of ss) (bound_over ss e)
within_row ss e f = within (over_rows ss) (width_of ss) (omega arith) 0 e tt f

-- All places of a bound query are there.
use Rattle.std.proofs.Common.{◌≡◌, ◌≤◌, ◌<◌, ℕ, suc, ◌+◌, Bool, true, false, cond, List, [], ◌∷◌, ◌++◌, length, Option, Some, None, refl, arith}
use Rattle.std.proofs.lemmas.List.{length-append}
use Rattle.std.specs.Prelude.{nat_le, ◌-◌, ◌&&◌}
use Rattle.std.specs.Str.{bytes_eq}
use Rattle.std.proofs.lemmas.Bool.{and_parts}
use Rattle.std.proofs.lemmas.Bool.Decides.{nat_tests}
use Rattle.sql_ast.specs.declared.bound.OrderKey.{OrderKey}
use Rattle.sql_ast.specs.declared.statement.OrderBy.{OrderBy}
use Rattle.sql_ast.specs.declared.statement.OrderBy.TheVariants.{Name, Position}
use Rattle.sql_ast.specs.declared.statement.OrderText.{OrderText}
use Rattle.sql_binding.specs.Ordering.{behind_one, or_first, order_faults, order_faults_of, order_of, order_place, place_at, place_named}
use Rattle.sql_binding.specs.Queries.{shown_in}
use Rattle.dby_types.specs.declared.definition.ColumnDef.{ColumnDef}
use Rattle.dby_types.specs.declared.definition.Dictionary.{Dictionary}
use Rattle.sql_ast.specs.declared.expression.Expression.{Expression, Or', And', Not', Compare', IsNull', Between', In', Add', Multiply', Sign', Number, Text, Truth, Column, ColumnOf, Brackets', CountAll, Call', Row_of-Expression, end_of-Expression, more_of-Expression}
use Rattle.sql_ast.specs.declared.statement.GroupText.{GroupText}
use Rattle.sql_ast.specs.declared.statement.OutText.{OutText}
use Rattle.sql_ast.specs.declared.statement.SelectText.{SelectText}
use Rattle.sql_ast.specs.declared.statement.Shown.{Shown as ShownText}
use Rattle.sql_ast.specs.declared.statement.Shown.TheVariants.{All, These}
use Rattle.sql_binding.proofs.Placing.{left_nil, right_nil, HasRow, HasCalls, calls_left, calls_right, place_within, found_below, named_below, within, within_row}
use Rattle.sql_binding.specs.Bound.{Shown, Sum, Groups}
use Rattle.sql_binding.specs.Expressions.{Scope, over_rows, bound, bound_over, calls, calls_in, conjuncts_of}
use Rattle.sql_binding.specs.Faults.{faults, faults_in, faults_over, beside, as_truth, as_number, key_faults, call_faults, condition_faults}
use Rattle.sql_binding.specs.From.{missing_tables, tables_of}
use Rattle.sql_binding.specs.Within.{AreGroupsWithin, HasItsPlaces, IsShownWithin, IsSumWithin, IsWithin, base_width}
use Rattle.sql_binding.specs.Names.{Source, column_named, spot_faults, width_of}
use Rattle.sql_binding.specs.Grouping.{group_faults, groups_if, is_empty, is_grouped, key_places, keys_if, sums_in, sums_in_row, sums_of}
use Rattle.sql_binding.specs.Items.{all_faults, calls_of, column_faults, item_faults, items_of, shown_by, shown_columns, shown_faults, shown_items, shown_tables}
use Rattle.sql_binding.specs.Queries.{conditions_of, keys_of, later_faults, query, query_faults, query_scope, query_sources}
use Rattle.sql_binding.specs.Trees.{Tree, typed, column, literal, arithmetic, negated, compare, is_null, between, in_, and, or, not, conjuncts_in}
use Rattle.table_model.specs.Tables.{Each}

pub each_append : {X : Type 0} → (P : X → Type 0) (xs ys : List X) → Each P xs → Each P ys → Each P (xs ++ ys)
each_append P [] ys h k = k
each_append P (x ∷ xs) ys h k = (h.0, each_append P xs ys h.1 k)

-- ---- conjuncts
split_within : (w : ℕ) (t : Tree) → IsWithin w t → Each (IsWithin w) (conjuncts_in t)
split_within w (typed (and a b) ty) h = each_append (IsWithin w) (conjuncts_in a) (conjuncts_in b) (split_within w a h.0) (split_within w b h.1)
split_within w (typed (column n) ty) h = (h, tt)
split_within w (typed (literal v) ty) h = (h, tt)
split_within w (typed (arithmetic op a b) ty) h = (h, tt)
split_within w (typed (negated a) ty) h = (h, tt)
split_within w (typed (compare op a b) ty) h = (h, tt)
split_within w (typed (is_null deny a) ty) h = (h, tt)
split_within w (typed (between deny a b c) ty) h = (h, tt)
split_within w (typed (in_ deny a members) ty) h = (h, tt)
split_within w (typed (or a b) ty) h = (h, tt)
split_within w (typed (not a) ty) h = (h, tt)

pub conjuncts_within : (ss : List Source) (cs : List Expression) → condition_faults ss cs ≡ [] → Each (IsWithin (width_of ss)) (conjuncts_of ss cs)
conjuncts_within ss [] f = tt
conjuncts_within ss (c ∷ cs) f =
    each_append (IsWithin (width_of ss)) (conjuncts_in (bound_over ss c)) (conjuncts_of ss cs)
    (split_within (width_of ss) (bound_over ss c) (within_row ss c (left_nil _ _ (left_nil _ _ f))))
    (conjuncts_within ss cs (right_nil (as_truth (faults_over ss c) (bound_over ss c)) _ f))

-- ---- aggregates
both_long : (xs ys : List Sum) (m n : ℕ) → length xs ≡ m → length ys ≡ n → length (xs ++ ys) ≡ m + n
both_long xs ys m n h k = let all : length (xs ++ ys) ≡ length xs + length ys = length-append xs ys in omega arith

mutual
  pub sums_long : (ss : List Source) (e : Expression) → length (sums_in ss e) ≡ calls e
  sums_long ss (Or' p a q b) = both_long (sums_in ss a) (sums_in ss b) (calls a) (calls b) (sums_long ss a) (sums_long ss b)
  sums_long ss (And' p a q b) = both_long (sums_in ss a) (sums_in ss b) (calls a) (calls b) (sums_long ss a) (sums_long ss b)
  sums_long ss (Not' p a) = sums_long ss a
  sums_long ss (Compare' op p a q b) = both_long (sums_in ss a) (sums_in ss b) (calls a) (calls b) (sums_long ss a) (sums_long ss b)
  sums_long ss (IsNull' deny p a) = sums_long ss a
  sums_long ss (Between' deny p a q b r c) =
      let front : length (sums_in ss a ++ (sums_in ss b ++ sums_in ss c)) ≡ length (sums_in ss a) + length (sums_in ss b ++ sums_in ss c) = length-append (sums_in ss a) (sums_in ss b ++ sums_in ss c) in
      let back : length (sums_in ss b ++ sums_in ss c) ≡ length (sums_in ss b) + length (sums_in ss c) = length-append (sums_in ss b) (sums_in ss c) in
      let x : length (sums_in ss a) ≡ calls a = sums_long ss a in
      let y : length (sums_in ss b) ≡ calls b = sums_long ss b in
      let z : length (sums_in ss c) ≡ calls c = sums_long ss c in
      omega arith
  sums_long ss (In' deny p a shape members) =
      let front : length (sums_in ss a ++ sums_in_row ss members) ≡ length (sums_in ss a) + length (sums_in_row ss members) = length-append (sums_in ss a) (sums_in_row ss members) in
      let x : length (sums_in ss a) ≡ calls a = sums_long ss a in
      let y : length (sums_in_row ss members) ≡ calls_in members = row_long ss members in
      omega arith
  sums_long ss (Add' op p a q b) = both_long (sums_in ss a) (sums_in ss b) (calls a) (calls b) (sums_long ss a) (sums_long ss b)
  sums_long ss (Multiply' op p a q b) = both_long (sums_in ss a) (sums_in ss b) (calls a) (calls b) (sums_long ss a) (sums_long ss b)
  sums_long ss (Sign' op p a) = sums_long ss a
  sums_long ss (Number op n) = refl
  sums_long ss (Text t) = refl
  sums_long ss (Truth b) = refl
  sums_long ss (Column name) = refl
  sums_long ss (ColumnOf table name) = refl
  sums_long ss (Brackets' p a) = sums_long ss a
  sums_long ss CountAll = refl
  sums_long ss (Call' f p a) = refl

  row_long : {m : _} → (ss : List Source) (row : Row_of-Expression m) → length (sums_in_row ss row) ≡ calls_in row
  row_long ss end_of-Expression = refl
  row_long ss (more_of-Expression e rest) =
      let front : length (sums_in ss e ++ sums_in_row ss rest) ≡ length (sums_in ss e) + length (sums_in_row ss rest) = length-append (sums_in ss e) (sums_in_row ss rest) in
      let x : length (sums_in ss e) ≡ calls e = sums_long ss e in
      let y : length (sums_in_row ss rest) ≡ calls_in rest = row_long ss rest in
      omega arith

all_long : (ss : List Source) (os : List OutText) → length (sums_of ss os) ≡ calls_of os
all_long ss [] = refl
all_long ss (o ∷ os) =
    let front : length (sums_in ss o.expression ++ sums_of ss os) ≡ length (sums_in ss o.expression) + length (sums_of ss os) = length-append (sums_in ss o.expression) (sums_of ss os) in
    let x : length (sums_in ss o.expression) ≡ calls o.expression = sums_long ss o.expression in
    let y : length (sums_of ss os) ≡ calls_of os = all_long ss os in
    omega arith

module _ (ss : List Source) (keys : Option (List ℕ)) where
  abbrev scope : Scope
  scope = record { sources = ss; keys = keys }

  abbrev Fine : List Sum → Type 0
  Fine sums = Each (IsSumWithin (width_of ss)) sums

  two : (xs ys : List Sum) → Fine xs → Fine ys → Fine (xs ++ ys)
  two xs ys h k = each_append (IsSumWithin (width_of ss)) xs ys h k

  mutual
    sums_within : (n : ℕ) (e : Expression) → faults scope n e ≡ [] → Fine (sums_in ss e)
    sums_within n (Or' p a q b) f =
        two (sums_in ss a) (sums_in ss b) (sums_within n a (left_nil _ _ (left_nil _ _ f))) (sums_within (n + calls a) b (left_nil _ _ (right_nil (as_truth (faults scope n a) (bound scope n a)) _ f)))
    sums_within n (And' p a q b) f =
        two (sums_in ss a) (sums_in ss b) (sums_within n a (left_nil _ _ (left_nil _ _ f))) (sums_within (n + calls a) b (left_nil _ _ (right_nil (as_truth (faults scope n a) (bound scope n a)) _ f)))
    sums_within n (Not' p a) f = sums_within n a (left_nil _ _ f)
    sums_within n (Compare' op p a q b) f =
        two (sums_in ss a) (sums_in ss b) (sums_within n a (left_nil _ _ f)) (sums_within (n + calls a) b (left_nil _ _ (right_nil (faults scope n a) _ f)))
    sums_within n (IsNull' deny p a) f = sums_within n a f
    sums_within n (Between' deny p a q b r c) f =
        let front : faults scope n a ++ beside (bound scope n a) (faults scope (n + calls a) b) (bound scope (n + calls a) b) ≡ [] = left_nil (faults scope n a ++ beside (bound scope n a) (faults scope (n + calls a) b) (bound scope (n + calls a) b)) _ f in
        two (sums_in ss a) (sums_in ss b ++ sums_in ss c) (sums_within n a (left_nil _ _ front))
        (two (sums_in ss b) (sums_in ss c) (sums_within (n + calls a) b (left_nil _ _ (right_nil (faults scope n a) _ front)))
        (sums_within (n + calls a + calls b) c (left_nil _ _ (right_nil (faults scope n a ++ beside (bound scope n a) (faults scope (n + calls a) b) (bound scope (n + calls a) b)) _ f))))
    sums_within n (In' deny p a shape members) f =
        two (sums_in ss a) (sums_in_row ss members) (sums_within n a (left_nil _ _ f)) (row_within (bound scope n a) (n + calls a) members (right_nil (faults scope n a) _ f))
    sums_within n (Add' op p a q b) f =
        two (sums_in ss a) (sums_in ss b) (sums_within n a (left_nil _ _ (left_nil _ _ f))) (sums_within (n + calls a) b (left_nil _ _ (right_nil (as_number (faults scope n a) (bound scope n a)) _ f)))
    sums_within n (Multiply' op p a q b) f =
        two (sums_in ss a) (sums_in ss b) (sums_within n a (left_nil _ _ (left_nil _ _ f))) (sums_within (n + calls a) b (left_nil _ _ (right_nil (as_number (faults scope n a) (bound scope n a)) _ f)))
    sums_within n (Sign' op p a) f = sums_within n a (left_nil _ _ f)
    sums_within n (Number op m) f = tt
    sums_within n (Text t) f = tt
    sums_within n (Truth b) f = tt
    sums_within n (Column name) f = tt
    sums_within n (ColumnOf table name) f = tt
    sums_within n (Brackets' p a) f = sums_within n a f
    sums_within n CountAll f = (tt, tt)
    sums_within n (Call' g p a) f = (within_row ss a (right_nil (call_faults keys) _ (left_nil (call_faults keys ++ faults (over_rows ss) 0 a) _ f)), tt)

    row_within : {m : _} → (left : Tree) (n : ℕ) (row : Row_of-Expression m) → faults_in scope left n row ≡ [] → Fine (sums_in_row ss row)
    row_within left n end_of-Expression f = tt
    row_within left n (more_of-Expression e rest) f =
        two (sums_in ss e) (sums_in_row ss rest) (sums_within n e (left_nil _ _ (left_nil _ _ f)))
        (row_within left (n + calls e) rest (right_nil (beside left (faults scope n e) (bound scope n e)) _ f))

  items_fine : (n : ℕ) (os : List OutText) → item_faults scope n os ≡ [] → Fine (sums_of ss os)
  items_fine n [] f = tt
  items_fine n (o ∷ os) f =
      two (sums_in ss o.expression) (sums_of ss os) (sums_within n o.expression (left_nil _ _ f)) (items_fine (n + calls o.expression) os (right_nil (faults scope n o.expression) _ f))

  shown_fine : (n : ℕ) (text : ShownText) → shown_faults scope n text ≡ [] → Fine (sums_of ss (items_of text))
  shown_fine n All f = tt
  shown_fine n (These items) f = items_fine n items f

  -- ---- what is shown
  module _ (w : ℕ) (has : HasRow (width_of ss) keys w) where
    items_within : (n position : ℕ) (os : List OutText) → HasCalls keys n (calls_of os) w → item_faults scope n os ≡ [] → Each (IsShownWithin w) (shown_items scope n position os)
    items_within n position [] r f = tt
    items_within n position (o ∷ os) r f = (
      within scope w has n o.expression (calls_left keys n (calls o.expression) (calls_of os) w r) (left_nil _ _ f),
      items_within (n + calls o.expression) (suc position) os (calls_right keys n (calls o.expression) (calls_of os) w r) (right_nil (faults scope n o.expression) _ f),
    )

    columns_within : (n : ℕ) (cs : List ColumnDef) → n + length cs ≤ width_of ss → column_faults keys n cs ≡ [] → Each (IsShownWithin w) (shown_columns scope n cs)
    columns_within n [] r f = tt
    columns_within n (c ∷ cs) r f =
        (place_within keys n (width_of ss) w has (omega arith) (left_nil _ _ f), columns_within (suc n) cs (omega arith) (right_nil (key_faults keys n) _ f))

    tables_within : (n : ℕ) (ts : List Source) → n + width_of ts ≤ width_of ss → all_faults keys n ts ≡ [] → Each (IsShownWithin w) (shown_tables scope n ts)
    tables_within n [] r f = tt
    tables_within n (t ∷ ts) r f =
        each_append (IsShownWithin w) (shown_columns scope n t.columns) (shown_tables scope (n + length t.columns) ts)
        (columns_within n t.columns (omega arith) (left_nil _ _ f))
        (tables_within (n + length t.columns) ts (omega arith) (right_nil (column_faults keys n t.columns) _ f))

    shown_within : (n : ℕ) (text : ShownText) → HasCalls keys n (calls_of (items_of text)) w → shown_faults scope n text ≡ [] → Each (IsShownWithin w) (shown_by scope n text)
    shown_within n All r f = tables_within 0 ss (omega arith) f
    shown_within n (These items) r f = items_within n 1 items r f

keys_within : (ss : List Source) (gs : List GroupText) → group_faults ss gs ≡ [] → Each (λ (n : ℕ). n < width_of ss) (key_places ss gs)
keys_within ss [] f = tt
keys_within ss (g ∷ gs) f = (
  found_below (width_of ss) (column_named ss g.table g.column) (named_below ss g.table g.column) (left_nil _ _ f),
  keys_within ss gs (right_nil (spot_faults (column_named ss g.table g.column)) _ f),
)

abbrev groups_with : List Source → List ℕ → Bool → ShownText → Groups
groups_with ss keys whole text = record { whole = whole; keys = keys; sums = sums_of ss (items_of text) }

groups_within : (b : Bool) (ss : List Source) (keys : List ℕ) (whole : Bool) (text : ShownText) → Each (λ (n : ℕ). n < width_of ss) keys
    → shown_faults (scope ss (keys_if b keys)) (length keys) text ≡ [] → AreGroupsWithin (width_of ss) (groups_if b (groups_with ss keys whole text))
groups_within true ss keys whole text h f = (h, shown_fine ss (Some keys) (length keys) text f)
groups_within false ss keys whole text h f = tt

outs_within : (b : Bool) (ss : List Source) (keys : List ℕ) (whole : Bool) (text : ShownText) → shown_faults (scope ss (keys_if b keys)) (length keys) text ≡ []
    → Each (IsShownWithin (base_width (width_of ss) (groups_if b (groups_with ss keys whole text)))) (shown_by (scope ss (keys_if b keys)) (length keys) text)
outs_within true ss keys whole text f =
    let long : length (sums_of ss (items_of text)) ≡ calls_of (items_of text) = all_long ss (items_of text) in
    shown_within ss (Some keys) (length keys + length (sums_of ss (items_of text))) (omega arith) (length keys) text (omega arith) f
outs_within false ss keys whole text f = shown_within ss None (width_of ss) (omega arith) (length keys) text tt f

-- ---- ORDER BY
abbrev BelowIf : ℕ → Option ℕ → Type 0
BelowIf w None = Unit {0}
BelowIf w (Some n) = n < w

named_below_len : (name : List ℕ) (ss : List Shown) → BelowIf (length ss) (place_named name ss)
named_below_len name [] = tt
named_below_len name (s ∷ ss) = step (bytes_eq name s.name) (place_named name ss) (named_below_len name ss)
  where
    step : (b : Bool) (o : Option ℕ) → BelowIf (length ss) o → BelowIf (length (s ∷ ss)) (cond b (Some 0) (behind_one o))
    step true o h = omega arith
    step false None h = tt
    step false (Some n) h = omega arith

position_below : (n count : ℕ) → BelowIf count (place_at n count)
position_below n count = step (nat_le 1 n && nat_le n count) refl
  where
    step : (b : Bool) → (nat_le 1 n && nat_le n count) ≡ b → BelowIf count (cond b (Some (n - 1)) None)
    step true e =
        let parts : (nat_le 1 n ≡ true) × (nat_le n count ≡ true) = and_parts (nat_le 1 n) (nat_le n count) e in
        let low : nat_le 1 n ≡ true = parts.0 in
        let high : nat_le n count ≡ true = parts.1 in
        grind (arith, nat_tests)
    step false e = tt

key_below : (shown : List Shown) (by : OrderBy) → BelowIf (length shown) (order_place shown by)
key_below shown (Name name) = named_below_len name shown
key_below shown (Position n) = position_below n (length shown)

first_below : (w : ℕ) (o : Option ℕ) → BelowIf w o → order_faults_of o ≡ [] → or_first o < w
first_below w None h f = absurd (cc)
first_below w (Some n) h f = h

order_within : (shown : List Shown) (ks : List OrderText) → order_faults shown ks ≡ [] → Each (λ (k : OrderKey). k.place < length shown) (order_of shown ks)
order_within shown [] f = tt
order_within shown (k ∷ ks) f =
    (first_below (length shown) (order_place shown k.by) (key_below shown k.by) (left_nil _ _ f), order_within shown ks (right_nil (order_faults_of (order_place shown k.by)) _ f))

pub query_places : (d : Dictionary) (q : SelectText) → query_faults d q ≡ [] → HasItsPlaces (width_of (query_sources d q)) (query d q)
query_places d q f =
    let later : later_faults d q ≡ [] = right_nil (missing_tables d (tables_of q.from)) _ f in
    let shown : shown_faults (query_scope d q) (length (keys_of d q)) q.shown ≡ [] = left_nil _ _ later in
    let rest : condition_faults (query_sources d q) (conditions_of q) ++ _ ≡ [] = right_nil (shown_faults (query_scope d q) (length (keys_of d q)) q.shown) _ later in
    let more : group_faults (query_sources d q) q.group ++ _ ≡ [] = right_nil (condition_faults (query_sources d q) (conditions_of q)) _ rest in
    let order : order_faults (shown_in d q) q.order ≡ [] = left_nil _ _ (right_nil (group_faults (query_sources d q) q.group) _ more) in
    let groups : group_faults (query_sources d q) q.group ≡ [] = left_nil _ _ (right_nil (condition_faults (query_sources d q) (conditions_of q)) _ rest) in
    record {
      conjuncts = conjuncts_within (query_sources d q) (conditions_of q) (left_nil _ _ rest);
      groups = groups_within (is_grouped q) (query_sources d q) (keys_of d q) (is_empty q.group) q.shown (keys_within (query_sources d q) q.group groups) shown;
      shown = outs_within (is_grouped q) (query_sources d q) (keys_of d q) (is_empty q.group) q.shown shown;
      order = order_within (shown_in d q) q.order order;
    }

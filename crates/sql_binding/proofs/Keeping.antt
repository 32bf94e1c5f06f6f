-- The values of a bound INSERT or UPDATE are of types that their columns can store.
use Rattle.std.proofs.Common.{◌≡◌, ℕ, suc, ◌+◌, Bool, true, false, cond, List, [], ◌∷◌, ◌++◌, Option, Some, None, refl, sym, ap, ◌∙◌, arith}
use Rattle.std.specs.Prelude.{◌==◌}
use Rattle.std.proofs.lemmas.Bool.{eqb-true, eq-eqb}
use Rattle.dby_types.specs.declared.definition.ColumnDef.{ColumnDef}
use Rattle.dby_types.specs.declared.definition.TableDef.{TableDef}
use Rattle.dby_types.specs.declared.state.SqlState.TheVariants.{NotStorable}
use Rattle.dby_types.specs.declared.value.Ty.{Ty}
use Rattle.sql_ast.specs.declared.statement.Item.{Item}
use Rattle.sql_ast.specs.declared.statement.SetText.{SetText}
use Rattle.sql_binding.proofs.Heading.{stands_at}
use Rattle.sql_binding.proofs.Naming.{spot_stands}
use Rattle.sql_binding.proofs.Placing.{left_nil, right_nil, unless_true}
use Rattle.sql_binding.specs.Binding.{insert_faults}
use Rattle.sql_binding.specs.Changes.{target_of, target_or, target_faults, item_tree, own_faults, storable_faults, spots_of, targets_named, targets, missing_targets, value_for, values_from, tuples_trees, tuple_faults, count_faults, tuples_faults, names_in, puts, set_faults}
use Rattle.sql_binding.specs.Creating.{columns_at}
use Rattle.sql_binding.specs.From.{columns_of, table_faults}
use Rattle.sql_binding.specs.Kinds.{CanPut, CanStore, CanStoreAll}
use Rattle.sql_binding.specs.Names.{Source, Spot}
use Rattle.sql_binding.specs.Trees.{Tree, ty_of}
use Rattle.sql_binding.specs.Types.{kind_of, same_kind}
use Rattle.table_model.specs.Tables.{Each}

-- a target that is a column, with its type
abbrev IsTarget : List ColumnDef → Spot → Type 0
IsTarget columns s = (c : ColumnDef) × (columns_at s.place columns ≡ c ∷ []) × (c.ty ≡ s.ty)

target_is : (columns : List ColumnDef) (name : List ℕ) (o : Option Spot) → target_of columns name ≡ o → target_faults o ≡ [] → IsTarget columns (target_or o)
target_is columns name None e f = absurd (cc)
target_is columns name (Some s) e f = stands_at columns name s (spot_stands 0 name columns s e)

storable_kind : (ss : List Source) (ty : Ty) (item : Item) → storable_faults ss ty item ≡ [] → same_kind ty (ty_of (item_tree ss ty item)) ≡ true
storable_kind ss ty item f = unless_true (same_kind ty (ty_of (item_tree ss ty item))) NotStorable (right_nil (own_faults ss item) _ f)

-- ---- UPDATE
put_kept : (columns : List ColumnDef) (s : Spot) (t : Tree) → IsTarget columns s → same_kind s.ty (ty_of t) ≡ true → CanStore columns s.place t
put_kept columns s t h k = record { column = h.0; there = h.1; kind = ap (λ (ty : Ty). same_kind ty (ty_of t)) h.2 ∙ k }

pub puts_kept : (columns : List ColumnDef) (ss : List Source) (sets : List SetText) → set_faults columns ss sets ≡ [] → Each (CanPut columns) (puts columns ss sets)
puts_kept columns ss [] f = tt
puts_kept columns ss (s ∷ sets) f =
    let rest : storable_faults ss (target_or (target_of columns s.column)).ty s.item ++ set_faults columns ss sets ≡ [] = right_nil (target_faults (target_of columns s.column)) _ f in (
      put_kept columns (target_or (target_of columns s.column)) (item_tree ss (target_or (target_of columns s.column)).ty s.item)
          (target_is columns s.column (target_of columns s.column) refl (left_nil (target_faults (target_of columns s.column)) _ f))
          (storable_kind ss (target_or (target_of columns s.column)).ty s.item (left_nil _ _ rest)),
      puts_kept columns ss sets (right_nil (storable_faults ss (target_or (target_of columns s.column)).ty s.item) _ rest),
    )

-- ---- INSERT
abbrev AreTargets : List ColumnDef → List Spot → Type 0
AreTargets columns spots = Each (IsTarget columns) spots

named_targets : (columns : List ColumnDef) (names : List (List ℕ)) → missing_targets columns names ≡ [] → AreTargets columns (targets_named columns names)
named_targets columns [] f = tt
named_targets columns (name ∷ names) f = (
  target_is columns name (target_of columns name) refl (left_nil (target_faults (target_of columns name)) _ f),
  named_targets columns names (right_nil (target_faults (target_of columns name)) _ f),
)

-- columns that stand from place n on
abbrev StandFrom : List ColumnDef → ℕ → List ColumnDef → Type 0
StandFrom columns n cs = (m : ℕ) (c : ColumnDef) → columns_at m cs ≡ c ∷ [] → columns_at (m + n) columns ≡ c ∷ []

from_next : (columns : List ColumnDef) (n : ℕ) (c : ColumnDef) (cs : List ColumnDef) → StandFrom columns n (c ∷ cs) → StandFrom columns (suc n) cs
from_next columns n c cs h m d e =
    let next : m + suc n ≡ suc m + n = omega arith in
    ap (λ (k : ℕ). columns_at k columns) next ∙ h (suc m) d e

from_here : (columns : List ColumnDef) (n : ℕ) (c : ColumnDef) (cs : List ColumnDef) → StandFrom columns n (c ∷ cs) → columns_at n columns ≡ c ∷ []
from_here columns n c cs h =
    let here : n ≡ 0 + n = omega arith in
    ap (λ (k : ℕ). columns_at k columns) here ∙ h 0 c refl

from_start : (columns : List ColumnDef) → StandFrom columns 0 columns
from_start columns m c e =
    let same : m + 0 ≡ m = omega arith in
    ap (λ (k : ℕ). columns_at k columns) same ∙ e

all_targets : (columns : List ColumnDef) (n : ℕ) (cs : List ColumnDef) → StandFrom columns n cs → AreTargets columns (spots_of n cs)
all_targets columns n [] h = tt
all_targets columns n (c ∷ cs) h = ((c, from_here columns n c cs h, refl), all_targets columns (suc n) cs (from_next columns n c cs h))

targets_are : (columns : List ColumnDef) (names : Option (List (List ℕ))) → missing_targets columns (names_in names) ≡ [] → AreTargets columns (targets columns names)
targets_are columns None f = all_targets columns 0 columns (from_start columns)
targets_are columns (Some names) f = named_targets columns names f

one_column : (c d : ColumnDef) → c ∷ [] ≡ d ∷ [] → c ≡ d
one_column c d h = cc

same_itself : (ty : Ty) → same_kind ty ty ≡ true
same_itself ty = eq-eqb (kind_of ty) (kind_of ty) refl

value_kept : (columns : List ColumnDef) (spots : List Spot) (items : List Item) (n : ℕ) (c : ColumnDef) → AreTargets columns spots → columns_at n columns ≡ c ∷ []
    → tuple_faults spots items ≡ [] → same_kind c.ty (ty_of (value_for spots items n c.ty)) ≡ true
value_kept columns [] items n c h at f = same_itself c.ty
value_kept columns (s ∷ ss) [] n c h at f = same_itself c.ty
value_kept columns (s ∷ ss) (item ∷ items) n c h at f =
    step (s.place == n) refl (value_kept columns ss items n c h.1 at (right_nil (storable_faults [] s.ty item) _ f))
  where
    step : (b : Bool) → (s.place == n) ≡ b → same_kind c.ty (ty_of (value_for ss items n c.ty)) ≡ true
        → same_kind c.ty (ty_of (cond b (item_tree [] s.ty item) (value_for ss items n c.ty))) ≡ true
    step true e more =
        let place : s.place ≡ n = eqb-true s.place n e in
        let same : h.0.0 ≡ c = one_column h.0.0 c (sym h.0.1 ∙ ap (λ (k : ℕ). columns_at k columns) place ∙ at) in
        ap (λ (d : ColumnDef). same_kind d.ty (ty_of (item_tree [] s.ty item))) (sym same)
        ∙ ap (λ (ty : Ty). same_kind ty (ty_of (item_tree [] s.ty item))) h.0.2
        ∙ storable_kind [] s.ty item (left_nil _ _ f)
    step false e more = more

values_kept : (columns : List ColumnDef) (spots : List Spot) (items : List Item) (n : ℕ) (cs : List ColumnDef) → AreTargets columns spots → StandFrom columns n cs
    → tuple_faults spots items ≡ [] → CanStoreAll cs (values_from n cs spots items)
values_kept columns spots items n [] h at f = tt
values_kept columns spots items n (c ∷ cs) h at f =
    (value_kept columns spots items n c h (from_here columns n c cs at) f, values_kept columns spots items (suc n) cs h (from_next columns n c cs at) f)

tuples_kept : (columns : List ColumnDef) (spots : List Spot) (ts : List (List Item)) → AreTargets columns spots → tuples_faults spots ts ≡ [] → Each (CanStoreAll columns) (tuples_trees columns spots ts)
tuples_kept columns spots [] h f = tt
tuples_kept columns spots (t ∷ ts) h f = (
  values_kept columns spots t 0 columns h (from_start columns) (left_nil _ _ f),
  tuples_kept columns spots ts h (right_nil (count_faults spots t) _ (right_nil (tuple_faults spots t) _ f)),
)

pub insert_kept : (t : Option TableDef) (names : Option (List (List ℕ))) (ts : List (List Item)) → insert_faults t names ts ≡ []
    → Each (CanStoreAll (columns_of t)) (tuples_trees (columns_of t) (targets (columns_of t) names) ts)
insert_kept t names ts f =
    let rest : missing_targets (columns_of t) (names_in names) ++ _ ≡ [] = right_nil (table_faults t) _ f in
    tuples_kept (columns_of t) (targets (columns_of t) names) ts (targets_are (columns_of t) names (left_nil _ _ rest))
    (left_nil _ _ (right_nil (missing_targets (columns_of t) (names_in names)) _ rest))

-- Rows and columns of different numbers.
use Rattle.std.proofs.Common.{◌≡◌, ◌≢◌, ◌≤◌, ℕ, suc, List, [], ◌∷◌, length, drop, Bool, true, false, refl, ap, ◌∙◌, arith, inl, inr}
use Rattle.std.specs.Prelude.{min, ◌&&◌}
use Rattle.std.proofs.lemmas.Bool.{cases_lt}
use Rattle.std.proofs.lemmas.List.{drop_all}
use Rattle.dby_types.specs.declared.definition.ColumnDef.{ColumnDef}
use Rattle.dby_types.specs.declared.value.Value.{Value}
use Rattle.journal_model.specs.Catalog.{fits, suits, has_null}

and_false : (b c : Bool) → c ≡ false → (b && c) ≡ false
and_false true c h = h
and_false false c h = refl

pub suits-lengths : (cs : List ColumnDef) (vs : List Value) → length cs ≢ length vs → suits cs vs ≡ false
suits-lengths [] [] ne = absurd (ne refl)
suits-lengths [] (v ∷ vs) ne = refl
suits-lengths (c ∷ cs) [] ne = refl
suits-lengths (c ∷ cs) (v ∷ vs) ne = and_false (fits c.ty v) (suits cs vs) (suits-lengths cs vs (λ e. ne (ap suc e)))

has_null_no_values : (cs : List ColumnDef) → has_null cs [] ≡ false
has_null_no_values [] = refl
has_null_no_values (c ∷ cs) = refl

pub has_null-end : (cs : List ColumnDef) (vs : List Value) (i : ℕ) → min (length cs) (length vs) ≤ i → has_null (drop i cs) (drop i vs) ≡ false
has_null-end cs vs i h = elim (cases_lt i (length cs)) [
  | inl below ↦ ap (has_null (drop i cs)) (drop_all i vs (omega arith)) ∙ has_null_no_values (drop i cs)
  | inr above ↦ ap (λ ds. has_null ds (drop i vs)) (drop_all i cs (omega arith))
]

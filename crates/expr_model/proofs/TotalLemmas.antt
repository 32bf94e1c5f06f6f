-- Totals pass over NULL.
use Rattle.std.proofs.Common.{◌≡◌, ◌≢◌, ℤ, pos, ◌+ℤ◌, List, [], ◌∷◌, length, refl, ap, ◌∙◌, arith}
use Rattle.std.proofs.lemmas.Int.{ints}
use Rattle.dby_types.specs.declared.value.Ty.{Ty}
use Rattle.dby_types.specs.declared.value.Value.{Value}
use Rattle.dby_types.specs.declared.value.Value.TheVariants.{Null, Num, Text}
use Rattle.dby_types.specs.declared.value.Value.TheVariants.{Bool as Truth}
use Rattle.expr_model.specs.Arithmetic.{in_range}
use Rattle.expr_model.specs.Totals.{known, total_from, sum_of}
use Rattle.expr_model.specs.declared.evaluated.Evaluated.TheVariants.{Value as Gives}

-- a NULL adds nothing
pub total_from-known : (sum : ℤ) (values : List Value) → total_from sum (known values) ≡ total_from sum values
total_from-known sum [] = refl
total_from-known sum (Null ∷ vs) =
    let same : sum ≡ sum +ℤ pos 0 = omega (arith, ints) in
    total_from-known sum vs ∙ ap (λ s. total_from s vs) same
total_from-known sum (Num n ∷ vs) = total_from-known (sum +ℤ n) vs
total_from-known sum (Truth b ∷ vs) = total_from-known (sum +ℤ pos 0) vs
total_from-known sum (Text t ∷ vs) = total_from-known (sum +ℤ pos 0) vs

-- a sum of some number, and of none
pub sum_of-some : (ty : Ty) (values : List Value) → length values ≢ 0 → sum_of ty values ≡ in_range ty (total_from (pos 0) values)
sum_of-some ty [] h = absurd (h refl)
sum_of-some ty (v ∷ vs) h = refl

pub sum_of-none : (ty : Ty) (values : List Value) → length values ≡ 0 → sum_of ty values ≡ Gives Null
sum_of-none ty [] h = refl
sum_of-none ty (v ∷ vs) h = absurd (omega arith)

pub sum_of-known : (ty : Ty) (values : List Value) → length (known values) ≢ 0 → sum_of ty (known values) ≡ in_range ty (total_from (pos 0) values)
sum_of-known ty values h = sum_of-some ty (known values) h ∙ ap (in_range ty) (total_from-known (pos 0) values)

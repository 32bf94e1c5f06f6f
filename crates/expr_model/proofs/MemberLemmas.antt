-- The members of an IN.
use Rattle.std.proofs.Common.{◌≡◌, ℕ, suc, ◌<◌, List, [], ◌∷◌, length, get_or, drop, drop-cons, true, false, refl, sym, ap, ◌∙◌}
use Rattle.dby_types.specs.declared.state.SqlState.{SqlState}
use Rattle.dby_types.specs.declared.value.Value.{Value}
use Rattle.dby_types.specs.declared.value.Value.TheVariants.{Null, Num, Text}
use Rattle.dby_types.specs.declared.value.Value.TheVariants.{Bool as Truth}
use Rattle.expr_model.specs.Arithmetic.{comparison, compared_values, or_values}
use Rattle.expr_model.specs.Expression.{node_value, value_of, any_equal, any_equal_in}
use Rattle.expr_model.specs.declared.evaluated.Evaluated.{Evaluated}
use Rattle.expr_model.specs.declared.evaluated.Evaluated.TheVariants.{Value as Gives, Sql as Refused}
use Rattle.sql_ast.specs.declared.bound.Expr.{Expr}
use Rattle.sql_ast.specs.declared.bound.Node.{Row_of-Expr, end_of-Expr, more_of-Expr, items-the_row-Expr}
use Rattle.sql_ast.specs.declared.expression.Comparison.TheVariants.{Equal}
use Rattle.value_compare.specs.Logic.{or_of, is_true}

-- in the tree and in the list
pub any_equal-row : {m : _} → (found : Evaluated) (x : Value) (members : Row_of-Expr m) (row : ℕ → Value) → any_equal found x members row ≡ any_equal_in found x (items-the_row-Expr _ members) row
any_equal-row found x end_of-Expr row = refl
any_equal-row found x (more_of-Expr b t rest) row = any_equal-row (or_values found (compared_values Equal (Gives x) (node_value b t row))) x rest row

-- once it is true no member is looked at
pub any_equal_in-true : (x : Value) (es : List Expr) (row : ℕ → Value) → any_equal_in (Gives (Truth true)) x es row ≡ Gives (Truth true)
any_equal_in-true x [] row = refl
any_equal_in-true x (e ∷ es) row = any_equal_in-true x es row

-- nor behind a refusal
pub any_equal_in-refused : (why : SqlState) (x : Value) (es : List Expr) (row : ℕ → Value) → any_equal_in (Refused why) x es row ≡ Refused why
any_equal_in-refused why x [] row = refl
any_equal_in-refused why x (e ∷ es) row = any_equal_in-refused why x es row

-- one member more
any_equal_in-step : (found : Evaluated) (x : Value) (es : List Expr) (i : ℕ) (e : Expr) (row : ℕ → Value) → i < length es → e ≡ get_or es i e → any_equal_in found x (drop i es) row ≡ any_equal_in (or_values found (compared_values Equal (Gives x) (value_of e row))) x (drop (suc i) es) row
any_equal_in-step found x es i e row h is =
    ap (λ l. any_equal_in found x l row) (drop-cons es i e h)
    ∙ ap (λ (m : Expr). any_equal_in (or_values found (compared_values Equal (Gives x) (value_of m row))) x (drop (suc i) es) row) (sym is)

or_values-refused : (found x : Value) (why : SqlState) → is_true found ≡ false → or_values (Gives found) (compared_values Equal (Gives x) (Refused why)) ≡ Refused why
or_values-refused Null x why h = refl
or_values-refused (Num n) x why h = refl
or_values-refused (Truth true) x why h = cc
or_values-refused (Truth false) x why h = refl
or_values-refused (Text t) x why h = refl

or_values-given : (found y : Value) → is_true found ≡ false → or_values (Gives found) (Gives y) ≡ Gives (or_of found y)
or_values-given Null y h = refl
or_values-given (Num n) y h = refl
or_values-given (Truth true) y h = cc
or_values-given (Truth false) y h = refl
or_values-given (Text t) y h = refl

-- a member that refuses, behind what isn't true
pub members-refused : (found x : Value) (es : List Expr) (i : ℕ) (e : Expr) (row : ℕ → Value) (why : SqlState) (all : Evaluated) → i < length es → e ≡ get_or es i e → is_true found ≡ false → value_of e row ≡ Refused why → any_equal_in (Gives found) x (drop i es) row ≡ all → Refused why ≡ all
members-refused found x es i e row why all h is unsure refuses so_far =
    sym (any_equal_in-step (Gives found) x es i e row h is
    ∙ ap (λ (v : Evaluated). any_equal_in (or_values (Gives found) (compared_values Equal (Gives x) v)) x (drop (suc i) es) row) refuses
    ∙ ap (λ (v : Evaluated). any_equal_in v x (drop (suc i) es) row) (or_values-refused found x why unsure)
    ∙ any_equal_in-refused why x (drop (suc i) es) row) ∙ so_far

-- a member that gives a value
pub members-step : (found x y : Value) (es : List Expr) (i : ℕ) (e : Expr) (row : ℕ → Value) → i < length es → e ≡ get_or es i e → is_true found ≡ false → value_of e row ≡ Gives y → any_equal_in (Gives found) x (drop i es) row ≡ any_equal_in (Gives (or_of found (comparison Equal x y))) x (drop (suc i) es) row
members-step found x y es i e row h is unsure gives =
    any_equal_in-step (Gives found) x es i e row h is
    ∙ ap (λ (v : Evaluated). any_equal_in (or_values (Gives found) (compared_values Equal (Gives x) v)) x (drop (suc i) es) row) gives
    ∙ ap (λ (v : Evaluated). any_equal_in v x (drop (suc i) es) row) (or_values-given found (comparison Equal x y) unsure)

is_true-Truth : (v : Value) → is_true v ≡ true → v ≡ Truth true
is_true-Truth Null h = cc
is_true-Truth (Num n) h = cc
is_true-Truth (Truth b) h = ap Truth h
is_true-Truth (Text t) h = cc

-- a member that it equals
pub members-found : (found x y next : Value) (es : List Expr) (i : ℕ) (e : Expr) (row : ℕ → Value) (all : Evaluated) → i < length es → e ≡ get_or es i e → is_true found ≡ false → value_of e row ≡ Gives y → next ≡ or_of found (comparison Equal x y) → is_true next ≡ true → any_equal_in (Gives found) x (drop i es) row ≡ all → Gives next ≡ all
members-found found x y next es i e row all h is unsure gives or_is equal so_far =
    ap Gives (is_true-Truth next equal)
    ∙ sym (members-step found x y es i e row h is unsure gives
    ∙ ap (λ (v : Value). any_equal_in (Gives v) x (drop (suc i) es) row) (sym or_is ∙ is_true-Truth next equal)
    ∙ any_equal_in-true x (drop (suc i) es) row) ∙ so_far

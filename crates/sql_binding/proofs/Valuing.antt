-- A bound expression has only values of its type.
use Rattle.std.proofs.Common.{◌≡◌, ℕ, ℤ, pos, Bool, true, false, cond, List, Option, Some, None, refl, sym, subst}
use Rattle.std.specs.Prelude.{◌+ℤ◌, ◌-ℤ◌, ◌*ℤ◌, neg_ℤ, int_div}
use Rattle.std.specs.Ordering.{int_eq}
use Rattle.std.specs.declared.cmp.Ordering.{Ordering}
use Rattle.dby_types.specs.declared.definition.ColumnDef.{ColumnDef}
use Rattle.dby_types.specs.declared.state.SqlState.TheVariants.{OutOfRange, DivisionByZero}
use Rattle.dby_types.specs.declared.value.Ty.{Ty}
use Rattle.dby_types.specs.declared.value.Ty.TheVariants.{Small, Int, Big}
use Rattle.dby_types.specs.declared.value.Ty.TheVariants.{Bool as Truths, Text as Varchar}
use Rattle.dby_types.specs.declared.value.Value.{Value}
use Rattle.dby_types.specs.declared.value.Value.TheVariants.{Null, Num, Text as Chars}
use Rattle.dby_types.specs.declared.value.Value.TheVariants.{Bool as Truth}
use Rattle.expr_model.specs.Arithmetic.{in_range, computed, arithmetic as arithmetic_of, negated as negated_of, comparison, passes_known, denied, on_value, on_values, compared_values, and_values, or_values}
use Rattle.expr_model.specs.Expression.{node_value, any_equal}
use Rattle.expr_model.specs.declared.evaluated.Evaluated.{Evaluated}
use Rattle.expr_model.specs.declared.evaluated.Evaluated.TheVariants.{Value as Gives, Sql as Refused}
use Rattle.sql_ast.specs.declared.bound.Arithmetic.{Arithmetic}
use Rattle.sql_ast.specs.declared.bound.Arithmetic.TheVariants.{Add, Subtract, Multiply, Divide}
use Rattle.sql_ast.specs.declared.bound.Expr.{Expr}
use Rattle.sql_ast.specs.declared.bound.Node.{Node, Column, Literal, Arithmetic', Negated', Compare', IsNull', Between', In', And', Or', Not', Row_of-Expr, end_of-Expr, more_of-Expr}
use Rattle.sql_ast.specs.declared.expression.Comparison.{Comparison}
use Rattle.sql_ast.specs.declared.expression.Comparison.TheVariants.{Equal, LessEqual, GreaterEqual}
use Rattle.sql_binding.proofs.Heading.{HeadFits}
use Rattle.sql_binding.specs.Kinds.{HasKinds, is_of_kind}
use Rattle.sql_binding.specs.Trees.{node_tree}
use Rattle.value_compare.specs.Logic.{and_of, or_of, not_of, is_null}
use Rattle.value_compare.specs.Order.{compared}
use Rattle.value_compare.specs.Storing.{is_number_of}

-- a value of a type's kind, where there is one
abbrev Kind : Ty → Evaluated → Type 0
Kind ty (Gives v) = is_of_kind ty v ≡ true
Kind ty (Refused why) = Unit {0}

-- ---- numbers
in_range_kind : (ty : Ty) (n : ℤ) → Kind ty (in_range ty n)
in_range_kind Small n = step (is_number_of Small n)
  where
    step : (b : Bool) → Kind Small (cond b (Gives (Num n)) (Refused OutOfRange))
    step true = refl
    step false = tt
in_range_kind Int n = step (is_number_of Int n)
  where
    step : (b : Bool) → Kind Int (cond b (Gives (Num n)) (Refused OutOfRange))
    step true = refl
    step false = tt
in_range_kind Big n = step (is_number_of Big n)
  where
    step : (b : Bool) → Kind Big (cond b (Gives (Num n)) (Refused OutOfRange))
    step true = refl
    step false = tt
in_range_kind Truths n = tt
in_range_kind (Varchar m) n = tt

computed_kind : (op : Arithmetic) (ty : Ty) (a b : ℤ) → Kind ty (computed op ty a b)
computed_kind Add ty a b = in_range_kind ty (a +ℤ b)
computed_kind Subtract ty a b = in_range_kind ty (a -ℤ b)
computed_kind Multiply ty a b = in_range_kind ty (a *ℤ b)
computed_kind Divide ty a b = step (int_eq b (pos 0)) (in_range_kind ty (int_div a b))
  where
    step : (z : Bool) → Kind ty (in_range ty (int_div a b)) → Kind ty (cond z (Refused DivisionByZero) (in_range ty (int_div a b)))
    step true h = tt
    step false h = h

arithmetic_kind : (op : Arithmetic) (ty : Ty) (a b : Value) → Kind ty (arithmetic_of op ty a b)
arithmetic_kind op ty (Num a) (Num b) = computed_kind op ty a b
arithmetic_kind op ty (Num a) Null = refl
arithmetic_kind op ty (Num a) (Truth b) = refl
arithmetic_kind op ty (Num a) (Chars b) = refl
arithmetic_kind op ty Null b = refl
arithmetic_kind op ty (Truth a) b = refl
arithmetic_kind op ty (Chars a) b = refl

negated_kind : (ty : Ty) (a : Value) → Kind ty (negated_of ty a)
negated_kind ty (Num a) = in_range_kind ty (neg_ℤ a)
negated_kind ty Null = refl
negated_kind ty (Truth a) = refl
negated_kind ty (Chars a) = refl

value_kind : (ty : Ty) (a : Evaluated) (rest : Value → Evaluated) → ((x : Value) → Kind ty (rest x)) → Kind ty (on_value a rest)
value_kind ty (Gives v) rest h = h v
value_kind ty (Refused why) rest h = tt

values_kind : (ty : Ty) (a b : Evaluated) (rest : Value → Value → Evaluated) → ((x y : Value) → Kind ty (rest x y)) → Kind ty (on_values a b rest)
values_kind ty a b rest h = value_kind ty a (λ x. on_value b (λ y. rest x y)) (λ x. value_kind ty b (λ y. rest x y) (λ y. h x y))

-- a part of it that is a value
part_kind : (ty : Ty) (a : Evaluated) (rest : Value → Evaluated) → Kind ty a → ((x : Value) → is_of_kind ty x ≡ true → Kind ty (rest x)) → Kind ty (on_value a rest)
part_kind ty (Gives v) rest h k = k v h
part_kind ty (Refused why) rest h k = tt

-- ---- truth values
abbrev IsTruth : Value → Type 0
IsTruth v = is_of_kind Truths v ≡ true

passed_truth : (op : Comparison) (o : Option Ordering) → IsTruth (passes_known op o)
passed_truth op None = refl
passed_truth op (Some o) = refl

not_truth : (v : Value) → IsTruth (not_of v)
not_truth (Truth a) = refl
not_truth Null = refl
not_truth (Num n) = refl
not_truth (Chars t) = refl

denied_truth : (b : Bool) (v : Value) → IsTruth v → IsTruth (denied b v)
denied_truth true v h = not_truth v
denied_truth false v h = h

and_truth : (a b : Value) → IsTruth (and_of a b)
and_truth (Truth false) b = refl
and_truth (Truth true) (Truth true) = refl
and_truth (Truth true) (Truth false) = refl
and_truth (Truth true) Null = refl
and_truth (Truth true) (Num n) = refl
and_truth (Truth true) (Chars t) = refl
and_truth Null (Truth true) = refl
and_truth Null (Truth false) = refl
and_truth Null Null = refl
and_truth Null (Num n) = refl
and_truth Null (Chars t) = refl
and_truth (Num m) (Truth true) = refl
and_truth (Num m) (Truth false) = refl
and_truth (Num m) Null = refl
and_truth (Num m) (Num n) = refl
and_truth (Num m) (Chars t) = refl
and_truth (Chars s) (Truth true) = refl
and_truth (Chars s) (Truth false) = refl
and_truth (Chars s) Null = refl
and_truth (Chars s) (Num n) = refl
and_truth (Chars s) (Chars t) = refl

or_truth : (a b : Value) → IsTruth (or_of a b)
or_truth (Truth true) b = refl
or_truth (Truth false) (Truth true) = refl
or_truth (Truth false) (Truth false) = refl
or_truth (Truth false) Null = refl
or_truth (Truth false) (Num n) = refl
or_truth (Truth false) (Chars t) = refl
or_truth Null (Truth true) = refl
or_truth Null (Truth false) = refl
or_truth Null Null = refl
or_truth Null (Num n) = refl
or_truth Null (Chars t) = refl
or_truth (Num m) (Truth true) = refl
or_truth (Num m) (Truth false) = refl
or_truth (Num m) Null = refl
or_truth (Num m) (Num n) = refl
or_truth (Num m) (Chars t) = refl
or_truth (Chars s) (Truth true) = refl
or_truth (Chars s) (Truth false) = refl
or_truth (Chars s) Null = refl
or_truth (Chars s) (Num n) = refl
or_truth (Chars s) (Chars t) = refl

compared_truth : (op : Comparison) (a b : Evaluated) → Kind Truths (compared_values op a b)
compared_truth op a b = values_kind Truths a b (λ x y. Gives (comparison op x y)) (λ x y. passed_truth op (compared x y))

ands_truth : (a b : Evaluated) → Kind Truths (and_values a b)
ands_truth (Gives (Truth false)) b = refl
ands_truth (Gives (Truth true)) b = values_kind Truths (Gives (Truth true)) b (λ x y. Gives (and_of x y)) (λ x y. and_truth x y)
ands_truth (Gives Null) b = values_kind Truths (Gives Null) b (λ x y. Gives (and_of x y)) (λ x y. and_truth x y)
ands_truth (Gives (Num n)) b = values_kind Truths (Gives (Num n)) b (λ x y. Gives (and_of x y)) (λ x y. and_truth x y)
ands_truth (Gives (Chars t)) b = values_kind Truths (Gives (Chars t)) b (λ x y. Gives (and_of x y)) (λ x y. and_truth x y)
ands_truth (Refused why) b = tt

ors_truth : (a b : Evaluated) → Kind Truths (or_values a b)
ors_truth (Gives (Truth true)) b = refl
ors_truth (Gives (Truth false)) b = values_kind Truths (Gives (Truth false)) b (λ x y. Gives (or_of x y)) (λ x y. or_truth x y)
ors_truth (Gives Null) b = values_kind Truths (Gives Null) b (λ x y. Gives (or_of x y)) (λ x y. or_truth x y)
ors_truth (Gives (Num n)) b = values_kind Truths (Gives (Num n)) b (λ x y. Gives (or_of x y)) (λ x y. or_truth x y)
ors_truth (Gives (Chars t)) b = values_kind Truths (Gives (Chars t)) b (λ x y. Gives (or_of x y)) (λ x y. or_truth x y)
ors_truth (Refused why) b = tt

found_truth : {m : _} → (found : Evaluated) (x : Value) (members : Row_of-Expr m) (row : ℕ → Value) → Kind Truths found → Kind Truths (any_equal found x members row)
found_truth found x end_of-Expr row h = h
found_truth found x (more_of-Expr b t rest) row h =
    found_truth (or_values found (compared_values Equal (Gives x) (node_value b t row))) x rest row (ors_truth found (compared_values Equal (Gives x) (node_value b t row)))

-- ---- a node
as_truth_kind : (ty : Ty) (v : Evaluated) → ty ≡ Truths → Kind Truths v → Kind ty v
as_truth_kind ty v h k = subst (λ (t : Ty). Kind t v) (sym h) k

pub node_kind : (cs : List ColumnDef) (row : ℕ → Value) → HasKinds cs row → (n : Node) (ty : Ty) → HeadFits cs (node_tree n ty) → Kind ty (node_value n ty row)
node_kind cs row has (Column n) ty h = subst (λ (t : Ty). is_of_kind t (row n) ≡ true) h.2 (has n h.0 h.1)
node_kind cs row has (Literal v) ty h = h
node_kind cs row has (Arithmetic' op p a s q b t) ty h = values_kind ty (node_value a s row) (node_value b t row) (λ x y. arithmetic_of op ty x y) (λ x y. arithmetic_kind op ty x y)
node_kind cs row has (Negated' p a s) ty h = value_kind ty (node_value a s row) (λ x. negated_of ty x) (λ x. negated_kind ty x)
node_kind cs row has (Compare' op p a s q b t) ty h = as_truth_kind ty (compared_values op (node_value a s row) (node_value b t row)) h (compared_truth op (node_value a s row) (node_value b t row))
node_kind cs row has (IsNull' deny p a s) ty h =
    as_truth_kind ty (node_value (IsNull' deny p a s) Truths row) h
    (value_kind Truths (node_value a s row) (λ x. Gives (denied deny (Truth (is_null x)))) (λ x. denied_truth deny (Truth (is_null x)) refl))
node_kind cs row has (Between' deny p a s q b t r c u) ty h =
    as_truth_kind ty (node_value (Between' deny p a s q b t r c u) Truths row) h
    (part_kind Truths (and_values (compared_values GreaterEqual (node_value a s row) (node_value b t row)) (compared_values LessEqual (node_value a s row) (node_value c u row)))
    (λ x. Gives (denied deny x)) (ands_truth (compared_values GreaterEqual (node_value a s row) (node_value b t row)) (compared_values LessEqual (node_value a s row) (node_value c u row)))
    (λ x k. denied_truth deny x k))
node_kind cs row has (In' deny p a s shape members) ty h =
    as_truth_kind ty (node_value (In' deny p a s shape members) Truths row) h
    (value_kind Truths (node_value a s row) (λ x. on_value (any_equal (Gives (Truth false)) x members row) (λ found. Gives (denied deny found)))
    (λ x. part_kind Truths (any_equal (Gives (Truth false)) x members row) (λ found. Gives (denied deny found)) (found_truth (Gives (Truth false)) x members row refl) (λ found k. denied_truth deny found k)))
node_kind cs row has (And' p a s q b t) ty h = as_truth_kind ty (and_values (node_value a s row) (node_value b t row)) h (ands_truth (node_value a s row) (node_value b t row))
node_kind cs row has (Or' p a s q b t) ty h = as_truth_kind ty (or_values (node_value a s row) (node_value b t row)) h (ors_truth (node_value a s row) (node_value b t row))
node_kind cs row has (Not' p a s) ty h =
    as_truth_kind ty (node_value (Not' p a s) Truths row) h (value_kind Truths (node_value a s row) (λ x. Gives (not_of x)) (λ x. not_truth x))

gives_kind : (ty : Ty) (e : Evaluated) (v : Value) → e ≡ Gives v → Kind ty e → is_of_kind ty v ≡ true
gives_kind ty e v h k = subst (λ (x : Evaluated). Kind ty x) h k

pub expression_kind : (cs : List ColumnDef) (row : ℕ → Value) (x : Expr) (v : Value) → HasKinds cs row → HeadFits cs (node_tree x.node x.ty) → node_value x.node x.ty row ≡ Gives v → is_of_kind x.ty v ≡ true
expression_kind cs row x v has h e = gives_kind x.ty (node_value x.node x.ty row) v e (node_kind cs row has x.node x.ty h)

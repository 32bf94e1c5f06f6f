-- WHERE keeps exactly the rows for which each conjunct is true.
use Rattle.std.proofs.Common.{◌≡◌, ℕ, Bool, true, false, cond, List, [], ◌∷◌, ◌++◌, refl, ap, ◌∙◌}
use Rattle.std.specs.Prelude.{not}
use Rattle.std.specs.List.{filter}
use Rattle.dby_types.specs.declared.value.Ty.{Ty}
use Rattle.dby_types.specs.declared.value.Value.{Value}
use Rattle.dby_types.specs.declared.value.Value.TheVariants.{Null, Num, Text}
use Rattle.dby_types.specs.declared.value.Value.TheVariants.{Bool as Truth}
use Rattle.expr_model.specs.Arithmetic.{and_values}
use Rattle.expr_model.specs.Expression.{value_of, node_value, columns_from}
use Rattle.expr_model.specs.declared.evaluated.Evaluated.{Evaluated}
use Rattle.expr_model.specs.declared.evaluated.Evaluated.TheVariants.{Value as Gives, Sql as Refused}
use Rattle.sql_ast.specs.declared.bound.Expr.{Expr}
use Rattle.sql_ast.specs.declared.bound.Node.{Node, Column, Literal, Arithmetic', Negated', Compare', IsNull', Between', In', And', Or', Not'}
use Rattle.sql_model.specs.declared.judged.Judged.{Judged}
use Rattle.sql_model.specs.declared.judged.Judged.TheVariants.{Meets}
use Rattle.sql_model.specs.Tuples.{Row}
use Rattle.sql_model.specs.Where.{node_conjuncts, is_plain, is_other, in_order, then_judged, judge, judged, AllTrue}

abbrev IsTrueOf : Expr → (ℕ → Value) → Type 0
IsTrueOf c row = value_of c row ≡ Gives (Truth true)

-- a list of conjuncts
met_step : (e : Evaluated) (rest : Judged) → then_judged e rest ≡ Meets → (e ≡ Gives (Truth true)) × (rest ≡ Meets)
met_step (Gives Null) rest h = cc
met_step (Gives (Num n)) rest h = cc
met_step (Gives (Truth true)) rest h = (refl, h)
met_step (Gives (Truth false)) rest h = cc
met_step (Gives (Text t)) rest h = cc
met_step (Refused why) rest h = cc

met_true : (cs : List Expr) (row : ℕ → Value) → judge cs row ≡ Meets → AllTrue cs row
met_true [] row h = tt
met_true (c ∷ cs) row h =
    let both : IsTrueOf c row × (judge cs row ≡ Meets) = met_step (value_of c row) (judge cs row) h in
    (both.0, met_true cs row both.1)

true_met : (cs : List Expr) (row : ℕ → Value) → AllTrue cs row → judge cs row ≡ Meets
true_met [] row h = refl
true_met (c ∷ cs) row h = ap (λ e. then_judged e (judge cs row)) h.0 ∙ true_met cs row h.1

-- in any order
true_append : (cs ds : List Expr) (row : ℕ → Value) → AllTrue cs row → AllTrue ds row → AllTrue (cs ++ ds) row
true_append [] ds row h k = k
true_append (c ∷ cs) ds row h k = (h.0, true_append cs ds row h.1 k)

true_front : (cs ds : List Expr) (row : ℕ → Value) → AllTrue (cs ++ ds) row → AllTrue cs row
true_front [] ds row h = tt
true_front (c ∷ cs) ds row h = (h.0, true_front cs ds row h.1)

true_back : (cs ds : List Expr) (row : ℕ → Value) → AllTrue (cs ++ ds) row → AllTrue ds row
true_back [] ds row h = h
true_back (c ∷ cs) ds row h = true_back cs ds row h.1

true_filter : (p : Expr → Bool) (cs : List Expr) (row : ℕ → Value) → AllTrue cs row → AllTrue (filter p cs) row
true_filter p [] row h = tt
true_filter p (c ∷ cs) row h = step (p c) (true_filter p cs row h.1)
  where
    step : (b : Bool) → AllTrue (filter p cs) row → AllTrue (cond b (c ∷ filter p cs) (filter p cs)) row
    step true more = (h.0, more)
    step false more = more

true_either : (p : Expr → Bool) (cs : List Expr) (row : ℕ → Value) → AllTrue (filter p cs) row → AllTrue (filter (λ c. not (p c)) cs) row → AllTrue cs row
true_either p [] row h k = tt
true_either p (c ∷ cs) row h k = step (p c) h k (true_either p cs row)
  where
    step : (b : Bool) → AllTrue (cond b (c ∷ filter p cs) (filter p cs)) row → AllTrue (cond (not b) (c ∷ filter (λ d. not (p d)) cs) (filter (λ d. not (p d)) cs)) row
        → (AllTrue (filter p cs) row → AllTrue (filter (λ d. not (p d)) cs) row → AllTrue cs row) → AllTrue (c ∷ cs) row
    step true h' k' more = (h'.0, more h'.1 k')
    step false h' k' more = (k'.0, more h' k'.1)

pub kept_is_true : (cs : List Expr) (r : Row) → judged cs r ≡ Meets → AllTrue cs (columns_from 0 r)
kept_is_true cs r h =
    let all : AllTrue (in_order cs) (columns_from 0 r) = met_true (in_order cs) (columns_from 0 r) h in
    true_either is_plain cs (columns_from 0 r) (true_front (filter is_plain cs) (filter is_other cs) (columns_from 0 r) all) (true_back (filter is_plain cs) (filter is_other cs) (columns_from 0 r) all)

pub true_is_kept : (cs : List Expr) (r : Row) → AllTrue cs (columns_from 0 r) → judged cs r ≡ Meets
true_is_kept cs r h =
    true_met (in_order cs) (columns_from 0 r) (true_append (filter is_plain cs) (filter is_other cs) (columns_from 0 r) (true_filter is_plain cs (columns_from 0 r) h) (true_filter is_other cs (columns_from 0 r) h))

-- a condition and its conjuncts
both_true : (x y : Evaluated) → and_values x y ≡ Gives (Truth true) → (x ≡ Gives (Truth true)) × (y ≡ Gives (Truth true))
both_true (Gives (Truth true)) (Gives (Truth true)) h = (refl, refl)
both_true (Gives (Truth true)) (Gives (Truth false)) h = cc
both_true (Gives (Truth true)) (Gives Null) h = cc
both_true (Gives (Truth true)) (Gives (Num m)) h = cc
both_true (Gives (Truth true)) (Gives (Text u)) h = cc
both_true (Gives (Truth true)) (Refused why) h = cc
both_true (Gives (Truth false)) y h = cc
both_true (Gives Null) (Gives (Truth true)) h = cc
both_true (Gives Null) (Gives (Truth false)) h = cc
both_true (Gives Null) (Gives Null) h = cc
both_true (Gives Null) (Gives (Num m)) h = cc
both_true (Gives Null) (Gives (Text u)) h = cc
both_true (Gives Null) (Refused why) h = cc
both_true (Gives (Num n)) (Gives (Truth true)) h = cc
both_true (Gives (Num n)) (Gives (Truth false)) h = cc
both_true (Gives (Num n)) (Gives Null) h = cc
both_true (Gives (Num n)) (Gives (Num m)) h = cc
both_true (Gives (Num n)) (Gives (Text u)) h = cc
both_true (Gives (Num n)) (Refused why) h = cc
both_true (Gives (Text t)) (Gives (Truth true)) h = cc
both_true (Gives (Text t)) (Gives (Truth false)) h = cc
both_true (Gives (Text t)) (Gives Null) h = cc
both_true (Gives (Text t)) (Gives (Num m)) h = cc
both_true (Gives (Text t)) (Gives (Text u)) h = cc
both_true (Gives (Text t)) (Refused why) h = cc
both_true (Refused why) y h = cc

pub split_true : (n : Node) (ty : Ty) (row : ℕ → Value) → node_value n ty row ≡ Gives (Truth true) → AllTrue (node_conjuncts n ty) row
split_true (And' p a s q b t) ty row h =
    let both : (node_value a s row ≡ Gives (Truth true)) × (node_value b t row ≡ Gives (Truth true)) = both_true (node_value a s row) (node_value b t row) h in
    true_append (node_conjuncts a s) (node_conjuncts b t) row (split_true a s row both.0) (split_true b t row both.1)
split_true (Column n) ty row h = (h, tt)
split_true (Literal v) ty row h = (h, tt)
split_true (Arithmetic' op p a s q b t) ty row h = (h, tt)
split_true (Negated' p a s) ty row h = (h, tt)
split_true (Compare' op p a s q b t) ty row h = (h, tt)
split_true (IsNull' deny p a s) ty row h = (h, tt)
split_true (Between' deny p a s q b t r c u) ty row h = (h, tt)
split_true (In' deny p a s shape members) ty row h = (h, tt)
split_true (Or' p a s q b t) ty row h = (h, tt)
split_true (Not' p a s) ty row h = (h, tt)

pub joined_true : (n : Node) (ty : Ty) (row : ℕ → Value) → AllTrue (node_conjuncts n ty) row → node_value n ty row ≡ Gives (Truth true)
joined_true (And' p a s q b t) ty row h =
    ap (λ x. and_values x (node_value b t row)) (joined_true a s row (true_front (node_conjuncts a s) (node_conjuncts b t) row h))
    ∙ ap (λ y. and_values (Gives (Truth true)) y) (joined_true b t row (true_back (node_conjuncts a s) (node_conjuncts b t) row h))
joined_true (Column n) ty row h = h.0
joined_true (Literal v) ty row h = h.0
joined_true (Arithmetic' op p a s q b t) ty row h = h.0
joined_true (Negated' p a s) ty row h = h.0
joined_true (Compare' op p a s q b t) ty row h = h.0
joined_true (IsNull' deny p a s) ty row h = h.0
joined_true (Between' deny p a s q b t r c u) ty row h = h.0
joined_true (In' deny p a s shape members) ty row h = h.0
joined_true (Or' p a s q b t) ty row h = h.0
joined_true (Not' p a s) ty row h = h.0

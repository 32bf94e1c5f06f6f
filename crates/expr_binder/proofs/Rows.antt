-- The members of an IN, in the tree and in the list.
use Rattle.std.proofs.Common.{◌≡◌, ℕ, ◌+◌, List, ◌++◌, refl, ap}
use Rattle.dby_types.specs.declared.state.SqlState.{SqlState}
use Rattle.dby_types.specs.declared.value.Ty.{Ty}
use Rattle.sql_ast.specs.declared.bound.Node.{Node, Column, Literal, Arithmetic', Negated', Compare', IsNull', Between', In', And', Or', Not', Row_of-Expr, end_of-Expr, more_of-Expr, items-the_row-Expr}
use Rattle.sql_ast.specs.declared.expression.Expression.{Row_of-Expression, end_of-Expression, more_of-Expression, items-the_row-Expression}
use Rattle.sql_binding.specs.Bound.{Sum}
use Rattle.sql_binding.specs.Expressions.{Scope, bound, bound_in, calls, calls_in}
use Rattle.sql_binding.specs.Faults.{faults, faults_in}
use Rattle.sql_binding.specs.Grouping.{sums_in, sums_in_row}
use Rattle.sql_binding.specs.Names.{Source}
use Rattle.sql_binding.specs.Trees.{Tree, none, with, row_trees, node_tree, ty_of}
use Rattle.expr_binder.specs.Listing.{calls_all, bound_all, beside_type, faults_all, sums_all, before}

pub trees_row : {m : _} → (k : Row_of-Expr m) → row_trees k ≡ before (items-the_row-Expr _ k) none
trees_row end_of-Expr = refl
trees_row (more_of-Expr b t rest) = ap (with (node_tree b t)) (trees_row rest)

pub calls_row : {m : _} → (k : Row_of-Expression m) → calls_in k ≡ calls_all (items-the_row-Expression _ k)
calls_row end_of-Expression = refl
calls_row (more_of-Expression e rest) = ap (λ (n : ℕ). calls e + n) (calls_row rest)

pub bound_row : {m : _} → (s : Scope) (n : ℕ) (k : Row_of-Expression m) → bound_in s n k ≡ bound_all s n (items-the_row-Expression _ k)
bound_row s n end_of-Expression = refl
bound_row s n (more_of-Expression e rest) = ap (with (bound s n e)) (bound_row s (n + calls e) rest)

pub faults_row : {m : _} → (s : Scope) (left : Tree) (n : ℕ) (k : Row_of-Expression m) → faults_in s left n k ≡ faults_all s (ty_of left) n (items-the_row-Expression _ k)
faults_row s left n end_of-Expression = refl
faults_row s left n (more_of-Expression e rest) =
    ap (λ (l : List SqlState). beside_type (ty_of left) (faults s n e) (bound s n e) ++ l) (faults_row s left (n + calls e) rest)

pub sums_row : {m : _} → (ss : List Source) (k : Row_of-Expression m) → sums_in_row ss k ≡ sums_all ss (items-the_row-Expression _ k)
sums_row ss end_of-Expression = refl
sums_row ss (more_of-Expression e rest) = ap (λ (l : List Sum). sums_in ss e ++ l) (sums_row ss rest)

pub type_is : (n : Node) (ty : Ty) → ty ≡ ty_of (node_tree n ty)
type_is (Column n) ty = refl
type_is (Literal v) ty = refl
type_is (Arithmetic' op p a s q b t) ty = refl
type_is (Negated' p a s) ty = refl
type_is (Compare' op p a s q b t) ty = refl
type_is (IsNull' deny p a s) ty = refl
type_is (Between' deny p a s q b t r c u) ty = refl
type_is (In' deny p a s shape members) ty = refl
type_is (And' p a s q b t) ty = refl
type_is (Or' p a s q b t) ty = refl
type_is (Not' p a s) ty = refl

-- The members of an IN as a list.
use Rattle.std.specs.Prelude.{ℕ, ◌+◌, List, [], ◌∷◌, ◌++◌}
use Rattle.dby_types.specs.declared.state.SqlState.{SqlState}
use Rattle.dby_types.specs.declared.state.SqlState.TheVariants.{NotComparable}
use Rattle.dby_types.specs.declared.value.Ty.{Ty}
use Rattle.sql_ast.specs.declared.bound.Expr.{Expr}
use Rattle.sql_ast.specs.declared.expression.Expression.{Expression}
use Rattle.sql_binding.specs.Bound.{Sum}
use Rattle.sql_binding.specs.Expressions.{Scope, bound, calls}
use Rattle.sql_binding.specs.Faults.{faults, unless}
use Rattle.sql_binding.specs.Grouping.{sums_in}
use Rattle.sql_binding.specs.Names.{Source}
use Rattle.sql_binding.specs.Trees.{Tree, Trees, none, with, tree_of, ty_of}
use Rattle.sql_binding.specs.Types.{same_kind}

abbrev pub calls_all : List Expression → ℕ
calls_all [] = 0
calls_all (e ∷ es) = calls e + calls_all es

abbrev pub bound_all : Scope → ℕ → List Expression → Trees
bound_all s n [] = none
bound_all s n (e ∷ es) = with (bound s n e) (bound_all s (n + calls e) es)

-- an operand behind one of a type
abbrev pub beside_type : Ty → List SqlState → Tree → List SqlState
beside_type left own a = own ++ unless (same_kind left (ty_of a)) NotComparable

abbrev pub faults_all : Scope → Ty → ℕ → List Expression → List SqlState
faults_all s left n [] = []
faults_all s left n (e ∷ es) = beside_type left (faults s n e) (bound s n e) ++ faults_all s left (n + calls e) es

abbrev pub sums_all : List Source → List Expression → List Sum
sums_all ss [] = []
sums_all ss (e ∷ es) = sums_in ss e ++ sums_all ss es

-- bound expressions before others
abbrev pub before : List Expr → Trees → Trees
before [] rest = rest
before (x ∷ xs) rest = with (tree_of x) (before xs rest)

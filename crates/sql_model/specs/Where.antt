-- WHERE: which tuples it keeps, and which refuse.
use Rattle.std.specs.Prelude.{◌≡◌, ℕ, Bool, true, false, not, ◌&&◌, List, [], ◌∷◌, ◌++◌}
use Rattle.std.specs.List.{filter}
use Rattle.dby_types.specs.declared.value.Ty.{Ty}
use Rattle.dby_types.specs.declared.value.Value.{Value}
use Rattle.dby_types.specs.declared.value.Value.TheVariants.{Bool as Truth}
use Rattle.expr_model.specs.Expression.{value_of, columns_from}
use Rattle.expr_model.specs.declared.evaluated.Evaluated.{Evaluated}
use Rattle.expr_model.specs.declared.evaluated.Evaluated.TheVariants.{Value as Gives, Sql as Refused}
use Rattle.sql_ast.specs.declared.bound.Expr.{Expr}
use Rattle.sql_ast.specs.declared.bound.Node.{Node, Column, Literal, Arithmetic', Negated', Compare', IsNull', Between', In', And', Or', Not', Row_of-Expr, end_of-Expr, more_of-Expr}
use Rattle.sql_model.specs.declared.judged.Judged.{Judged}
use Rattle.sql_model.specs.declared.judged.Judged.TheVariants.{Meets, Fails, Refuses}
use Rattle.sql_model.specs.Tuples.{Row}

-- a condition split at its top ANDs, in text order
abbrev pub node_conjuncts : Node → Ty → List Expr
node_conjuncts (And' p a s q b t) ty = node_conjuncts a s ++ node_conjuncts b t
node_conjuncts n ty = record { node = n; ty = ty } ∷ []

abbrev pub conjuncts_of : Expr → List Expr
conjuncts_of e = node_conjuncts e.node e.ty

-- a PLAIN expression has no arithmetic and no sign
abbrev mutual
  pub is_plain_node : Node → Bool
  is_plain_node (Column n) = true
  is_plain_node (Literal v) = true
  is_plain_node (Arithmetic' op p a s q b t) = false
  is_plain_node (Negated' p a s) = false
  is_plain_node (Compare' op p a s q b t) = is_plain_node a && is_plain_node b
  is_plain_node (IsNull' deny p a s) = is_plain_node a
  is_plain_node (Between' deny p a s q b t r c u) = is_plain_node a && is_plain_node b && is_plain_node c
  is_plain_node (In' deny p a s shape members) = is_plain_node a && are_plain members
  is_plain_node (And' p a s q b t) = is_plain_node a && is_plain_node b
  is_plain_node (Or' p a s q b t) = is_plain_node a && is_plain_node b
  is_plain_node (Not' p a s) = is_plain_node a

  pub are_plain : {m : _} → Row_of-Expr m → Bool
  are_plain end_of-Expr = true
  are_plain (more_of-Expr b t rest) = is_plain_node b && are_plain rest

abbrev pub is_plain : Expr → Bool
is_plain e = is_plain_node e.node

abbrev pub is_other : Expr → Bool
is_other e = not (is_plain e)

-- the plain conjuncts first, and then the others
abbrev pub in_order : List Expr → List Expr
in_order cs = filter is_plain cs ++ filter is_other cs

-- one conjunct and then the rest: it stops at the first that isn't true
abbrev pub then_judged : Evaluated → Judged → Judged
then_judged (Gives (Truth true)) rest = rest
then_judged (Gives v) rest = Fails
then_judged (Refused why) rest = Refuses why

abbrev pub judge : List Expr → (ℕ → Value) → Judged
judge [] row = Meets
judge (c ∷ cs) row = then_judged (value_of c row) (judge cs row)

-- WHAT WHERE SAYS of a joined row: it meets it, fails it, or refuses
abbrev pub judged : List Expr → Row → Judged
judged cs r = judge (in_order cs) (columns_from 0 r)

-- each conjunct is true
abbrev pub AllTrue : List Expr → (ℕ → Value) → Type 0
AllTrue [] row = Unit {0}
AllTrue (c ∷ cs) row = (value_of c row ≡ Gives (Truth true)) × AllTrue cs row

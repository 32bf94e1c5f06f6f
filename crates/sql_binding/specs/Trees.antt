-- Bound expressions as trees alone, without the places in memory where code keeps their parts.
use Rattle.std.specs.Prelude.{ℕ, Bool, List, [], ◌∷◌, ◌++◌}
use Rattle.dby_types.specs.declared.value.Ty.{Ty}
use Rattle.dby_types.specs.declared.value.Value.{Value}
use Rattle.sql_ast.specs.declared.bound.Arithmetic.{Arithmetic}
use Rattle.sql_ast.specs.declared.bound.Expr.{Expr}
use Rattle.sql_ast.specs.declared.bound.Node.{Node, Column, Literal, Arithmetic', Negated', Compare', IsNull', Between', In', And', Or', Not', Row_of-Expr, end_of-Expr, more_of-Expr}
use Rattle.sql_ast.specs.declared.expression.Comparison.{Comparison}

mutual
  -- what stands at a node, and the type of its value
  pub data Tree : Type 0 where
    typed : Form → Ty → Tree

  pub data Form : Type 0 where
    column : ℕ → Form
    literal : Value → Form
    arithmetic : Arithmetic → Tree → Tree → Form
    negated : Tree → Form
    compare : Comparison → Tree → Tree → Form
    is_null : Bool → Tree → Form
    between : Bool → Tree → Tree → Tree → Form
    in_ : Bool → Tree → Trees → Form
    and or : Tree → Tree → Form
    not : Tree → Form

  pub data Trees : Type 0 where
    none : Trees
    with : Tree → Trees → Trees

abbrev pub ty_of : Tree → Ty
ty_of (typed form ty) = ty

-- THE TREE of a bound expression in code
abbrev mutual
  pub node_tree : Node → Ty → Tree
  node_tree (Column n) ty = typed (column n) ty
  node_tree (Literal v) ty = typed (literal v) ty
  node_tree (Arithmetic' op p a s q b t) ty = typed (arithmetic op (node_tree a s) (node_tree b t)) ty
  node_tree (Negated' p a s) ty = typed (negated (node_tree a s)) ty
  node_tree (Compare' op p a s q b t) ty = typed (compare op (node_tree a s) (node_tree b t)) ty
  node_tree (IsNull' deny p a s) ty = typed (is_null deny (node_tree a s)) ty
  node_tree (Between' deny p a s q b t r c u) ty = typed (between deny (node_tree a s) (node_tree b t) (node_tree c u)) ty
  node_tree (In' deny p a s shape members) ty = typed (in_ deny (node_tree a s) (row_trees members)) ty
  node_tree (And' p a s q b t) ty = typed (and (node_tree a s) (node_tree b t)) ty
  node_tree (Or' p a s q b t) ty = typed (or (node_tree a s) (node_tree b t)) ty
  node_tree (Not' p a s) ty = typed (not (node_tree a s)) ty

  pub row_trees : {m : _} → Row_of-Expr m → Trees
  row_trees end_of-Expr = none
  row_trees (more_of-Expr b t rest) = with (node_tree b t) (row_trees rest)

abbrev pub tree_of : Expr → Tree
tree_of e = node_tree e.node e.ty

abbrev pub trees_of : List Expr → List Tree
trees_of [] = []
trees_of (e ∷ es) = tree_of e ∷ trees_of es

-- a condition split at its top ANDs, in text order: AND that stands in brackets is split too
abbrev pub conjuncts_in : Tree → List Tree
conjuncts_in (typed (and a b) ty) = conjuncts_in a ++ conjuncts_in b
conjuncts_in (typed form ty) = typed form ty ∷ []

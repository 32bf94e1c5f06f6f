-- The members of a list, in the tree and in the `Vec`.
use Rattle.std.proofs.Common.{◌≡◌, List, [], ◌∷◌, ◌++◌, refl}
use Rattle.sql_grammar.specs.Syntax.{Trees, with}
use Rattle.sql_expressions.specs.View.{tree_of, trees_of, trees_from}
use Rattle.sql_ast.specs.declared.expression.Expression.{Expression, Row_of-Expression, end_of-Expression, more_of-Expression, items-the_row-Expression}

pub trees_row : {m : _} → (before : Trees) (k : Row_of-Expression m) → trees_of before k ≡ trees_from before (items-the_row-Expression _ k)
trees_row before end_of-Expression = refl
trees_row before (more_of-Expression e rest) = trees_row (with before (tree_of e)) rest

pub trees_snoc : (before : Trees) (xs : List Expression) (e : Expression) → trees_from before (xs ++ e ∷ []) ≡ with (trees_from before xs) (tree_of e)
trees_snoc before [] e = refl
trees_snoc before (x ∷ xs) e = trees_snoc (with before (tree_of x)) xs e

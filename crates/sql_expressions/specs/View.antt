-- The tree of an expression in code.
use Rattle.std.specs.Prelude.{ℕ, List, [], ◌∷◌, Option, Some, None}
use Rattle.sql_grammar.specs.Syntax.{Tree, Trees, none, with, Or, And, Not, Compare, IsNull, Between, In, Add, Multiply, Sign, Number, Text, Truth, Column, ColumnOf, Brackets, CountAll, Call}
use Rattle.sql_ast.specs.declared.expression.Expression.{Expression, Or' as EOr, And' as EAnd, Not' as ENot, Compare' as ECompare, IsNull' as EIsNull, Between' as EBetween, In' as EIn, Add' as EAdd, Multiply' as EMultiply, Sign' as ESign, Number as ENumber, Text as EText, Truth as ETruth, Column as EColumn, ColumnOf as EColumnOf, Brackets' as EBrackets, CountAll as ECountAll, Call' as ECall, Row_of-Expression, end_of-Expression, more_of-Expression}

abbrev mutual
  pub tree_of : Expression → Tree
  tree_of (EOr p a q b) = Or (tree_of a) (tree_of b)
  tree_of (EAnd p a q b) = And (tree_of a) (tree_of b)
  tree_of (ENot p a) = Not (tree_of a)
  tree_of (ECompare c p a q b) = Compare c (tree_of a) (tree_of b)
  tree_of (EIsNull n p a) = IsNull n (tree_of a)
  tree_of (EBetween n p a q b r c) = Between n (tree_of a) (tree_of b) (tree_of c)
  tree_of (EIn n p a shape row) = In n (tree_of a) (trees_of none row)
  tree_of (EAdd x p a q b) = Add x (tree_of a) (tree_of b)
  tree_of (EMultiply x p a q b) = Multiply x (tree_of a) (tree_of b)
  tree_of (ESign x p a) = Sign x (tree_of a)
  tree_of (ENumber x n) = Number x n
  tree_of (EText v) = Text v
  tree_of (ETruth b) = Truth b
  tree_of (EColumn v) = Column v
  tree_of (EColumnOf v w) = ColumnOf v w
  tree_of (EBrackets p a) = Brackets (tree_of a)
  tree_of ECountAll = CountAll
  tree_of (ECall x p a) = Call x (tree_of a)

  pub trees_of : {m : _} → Trees → Row_of-Expression m → Trees
  trees_of before end_of-Expression = before
  trees_of before (more_of-Expression e rest) = trees_of (with before (tree_of e)) rest

abbrev pub trees_from : Trees → List Expression → Trees
trees_from before [] = before
trees_from before (e ∷ es) = trees_from (with before (tree_of e)) es

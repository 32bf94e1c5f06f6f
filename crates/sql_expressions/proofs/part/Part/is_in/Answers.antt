use Rattle.std.proofs.Common.{rules}
use Rattle.sql_ast.specs.declared.expression.Expression.{the_lemmas}
use Rattle.sql_expressions.proofs.MemberLists.{trees_row}
use Rattle.sql_expressions.proofs.part.Part.is_in.Goals as goal

pub invariant_of-result : goal.invariant_of-result
invariant_of-result c = search (rules, the_lemmas, trees_row)

pub returns : goal.returns
returns c = search (rules, the_lemmas, trees_row)

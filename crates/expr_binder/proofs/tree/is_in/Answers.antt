use Rattle.std.proofs.Common.{rules}
use Rattle.sql_ast.specs.declared.bound.Node.{the_lemmas}
use Rattle.expr_binder.proofs.Rows.{trees_row}
use Rattle.expr_binder.proofs.tree.is_in.Goals as goal

pub returns : goal.returns
returns c = search (rules, the_lemmas, trees_row)

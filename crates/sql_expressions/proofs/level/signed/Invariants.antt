use Rattle.sql_expressions.specs.View.{tree_of}
use Rattle.std.proofs.Common.{◌≡◌, vec_len, []}
use Rattle.sql_expressions.specs.Shape.{turned}
use Rattle.sql_grammar.specs.Machine.{signs_of}
use Rattle.sql_expressions.proofs.level.signed.Given as goal

abbrev pub invariant-loop-sign : goal.invariant-loop-sign
invariant-loop-sign l = signs_of (turned [] l.signs.items) (tree_of l.whole) ≡ signs_of (turned [] l.fn.signs.items) (tree_of l.fn.operand)

abbrev pub decreases-loop-sign : goal.decreases-loop-sign
decreases-loop-sign l = vec_len l.signs

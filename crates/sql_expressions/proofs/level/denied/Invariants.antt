use Rattle.sql_expressions.specs.View.{tree_of}
use Rattle.std.proofs.Common.{◌≡◌, vec_len, length}
use Rattle.sql_grammar.specs.Machine.{nots_of}
use Rattle.sql_expressions.proofs.level.denied.Given as goal

abbrev pub invariant-loop-not : goal.invariant-loop-not
invariant-loop-not l = nots_of (length l.nots.items) (tree_of l.whole) ≡ nots_of (length l.fn.nots.items) (tree_of l.fn.predicate)

abbrev pub decreases-loop-not : goal.decreases-loop-not
decreases-loop-not l = vec_len l.nots

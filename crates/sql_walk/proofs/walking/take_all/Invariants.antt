use Rattle.std.proofs.Common.{◌≡◌, ◌-◌, Some, drop, length}
use Rattle.sql_grammar.specs.Reading.{walk}
use Rattle.sql_grammar.specs.Tokens.{seen}
use Rattle.sql_expressions.specs.State.{state_of}
use Rattle.sql_walk.proofs.walking.take_all.Given as goal

abbrev pub invariant-each : goal.invariant-each
invariant-each l = walk (Some l.limit) (state_of l.fn.machine) (drop l.fn.at (seen l.tokens)) ≡ walk (Some l.limit) (state_of l.machine) (drop l.at (seen l.tokens))

abbrev pub decreases-each : goal.decreases-each
decreases-each l = length l.tokens - l.at

use Rattle.std.proofs.Common.{◌≡◌, drop, length}
use Rattle.sql_grammar.specs.Grammar.{comma}
use Rattle.sql_grammar.specs.Rules.{many, skip}
use Rattle.sql_grammar.specs.Tokens.{seen}
use Rattle.sql_tokens.specs.Reading.{reading}
use Rattle.sql_parts.specs.Lists.{led}
use Rattle.sql_parts.proofs.list.more.Given as goal

abbrev pub invariant-each : goal.invariant-each
invariant-each g l =
    led g.P.Part.says l.fn.parts.items (reading (many (skip comma g.P.Part.rule)) (drop l.fn.at (seen l.tokens)))
    ≡ led g.P.Part.says l.parts.items (reading (many (skip comma g.P.Part.rule)) (drop l.at (seen l.tokens)))

abbrev pub decreases-each : goal.decreases-each
decreases-each g l = length (drop l.at (seen l.tokens))

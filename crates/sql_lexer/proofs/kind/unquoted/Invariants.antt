use Rattle.std.proofs.Common.{◌≡◌, drop, false}
use Rattle.sql_lexer.specs.Kinds.{behind_bytes, unquoted}
use Rattle.sql_lexer.proofs.kind.unquoted.Given as goal

abbrev pub invariant-loop-b : goal.invariant-loop-b
invariant-loop-b l =
    behind_bytes l.within.items (unquoted l.quote l.single (drop l.b-index l.behind)) ≡ unquoted l.quote false l.behind

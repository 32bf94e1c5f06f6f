use Rattle.std.proofs.Common.{◌≡◌, ◌≤◌, drop}
use Rattle.sql_lexer.specs.Kinds.{number_from}
use Rattle.sql_lexer.proofs.kind.number.Given as goal

abbrev pub invariant-loop-b : goal.invariant-loop-b
invariant-loop-b l = record {
  number : number_from l.n (drop l.b-index l.digits) ≡ number_from 0 l.digits;
  small : l.n ≤ 9223372036854775808;
}

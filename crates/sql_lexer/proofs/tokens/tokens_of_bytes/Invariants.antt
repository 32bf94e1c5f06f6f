use Rattle.std.proofs.Common.{◌≡◌, ◌≤◌, ◌++◌, drop}
use Rattle.sql_lexer.specs.Tokens.{tokens_from, tokens_of}
use Rattle.sql_lexer.proofs.tokens.tokens_of_bytes.Given as goal

abbrev pub invariant-loop-i : goal.invariant-loop-i
invariant-loop-i l = record {
  tokens : l.found.items ++ tokens_from l.text l.reading l.from l.i (drop l.i l.text) ≡ tokens_of l.text;
  begun : l.from ≤ l.i;
}

use Rattle.std.proofs.Common.{◌≡◌, ◌++◌, drop}
use Rattle.sql_lexer.specs.Splitting.{spans_from, spans_of}
use Rattle.sql_lexer.proofs.splitting.split_bytes.Given as goal

abbrev pub invariant-loop-i : goal.invariant-loop-i
invariant-loop-i l = l.spans.items ++ spans_from l.reading l.begun l.i (drop l.i l.script) ≡ spans_of l.script

use Rattle.std.proofs.Common.{◌≡◌, ◌≤◌, drop}
use Rattle.sql_lexer.specs.Tokens.{tokens_from}
use Rattle.sql_commands.specs.Commands.{command_in}
use Rattle.sql_lexer.specs.Tokens.{tokens_of}
use Rattle.command_reader.specs.States.{after_all, told}
use Rattle.command_reader.proofs.reader.command_of_text.Given as goal

abbrev pub invariant-loop-i : goal.invariant-loop-i
invariant-loop-i l = record {
  tokens : told (after_all l.state (tokens_from l.text l.reading l.from l.i (drop l.i l.text))) ≡ command_in (tokens_of l.text);
  begun : l.from ≤ l.i;
}

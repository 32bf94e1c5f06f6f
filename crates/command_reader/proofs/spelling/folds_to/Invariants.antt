use Rattle.std.proofs.Common.{◌≡◌, drop, map, length}
use Rattle.std.specs.Str.{bytes_eq}
use Rattle.sql_lexer.specs.Bytes.{folded}
use Rattle.command_reader.proofs.spelling.folds_to.Given as goal

abbrev pub invariant-loop-i : goal.invariant-loop-i
invariant-loop-i l = bytes_eq (map folded (drop l.i l.bytes)) (drop l.i l.word) ≡ bytes_eq (map folded l.bytes) l.word

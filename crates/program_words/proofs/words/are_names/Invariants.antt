use Rattle.std.proofs.Common.{drop, map}
use Rattle.std.specs.Prelude.{◌↔◌, string_bytes}
use Rattle.program_words.specs.Words.{AreNames}
use Rattle.program_words.proofs.words.are_names.Given as goal

abbrev pub invariant-loop-word : goal.invariant-loop-word
invariant-loop-word l = AreNames (map string_bytes l.words) ↔ AreNames (map string_bytes (drop l.word-index l.words))

use Rattle.std.proofs.Common.{arith}
use Rattle.command_reader.proofs.SpellingLemmas.{fold_stops}
use Rattle.command_reader.proofs.spelling.folds_to.Goals as goal

pub returns-then-not-folds_byte : goal.returns-then-not-folds_byte
returns-then-not-folds_byte c =
    fold_stops c.args.bytes.now c.args.word.now c.loop-i.i c.loop-i-test.true (omega arith) c.if-not-folds_byte.ensures c.loop-i.invariant

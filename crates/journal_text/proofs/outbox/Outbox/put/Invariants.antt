use Rattle.std.proofs.Common.{take}
use Rattle.journal_text.specs.Printing.{Prints}
use Rattle.journal_text.proofs.outbox.Outbox.put.Given as goal

abbrev pub invariant-loop-byte : goal.invariant-loop-byte
invariant-loop-byte g l = Prints (g.K.Sink.seen l.initial.sink) l.initial.self (g.K.Sink.seen l.sink) l.self (take l.byte-index l.piece)

use Rattle.std.proofs.Common.{◌≤◌, ◌-◌, length, take}
use Rattle.journal_text.specs.Printing.{TookAll}
use Rattle.journal_text.proofs.outbox.send_all.Given as goal

abbrev pub invariant-loop-at : goal.invariant-loop-at
invariant-loop-at g l = record {
  took : TookAll (g.K.Sink.seen l.initial.sink) (g.K.Sink.seen l.sink) (take l.at l.piece);
  within : l.at ≤ length l.piece;
}

abbrev pub decreases-loop-at : goal.decreases-loop-at
decreases-loop-at g l = length l.piece - l.at

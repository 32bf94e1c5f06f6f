use Rattle.std.proofs.Common.{take}
use Rattle.std.specs.Prelude.{flat_map}
use Rattle.journal_model.specs.Text.{row_line}
use Rattle.journal_text.specs.Printing.{Prints}
use Rattle.journal_text.proofs.answers.put_rows.Given as goal

abbrev pub invariant-loop-row : goal.invariant-loop-row
invariant-loop-row g l = Prints (g.K.Sink.seen l.initial.sink) l.initial.out (g.K.Sink.seen l.sink) l.out (flat_map (row_line) (take l.row-index l.rows))

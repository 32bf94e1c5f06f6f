use Rattle.std.proofs.Common.{◌≡◌, ◌++◌, ℕ, List, drop}
use Rattle.journal_model.specs.Text.{idle, statements_text}
use Rattle.journal_text.specs.Hearing.{waiting_of}
use Rattle.journal_text.specs.Printing.{Prints}
use Rattle.journal_text.proofs.statements.put_statements.Given as goal

abbrev pub invariant-loop-entry : goal.invariant-loop-entry
invariant-loop-entry g l =
    (printed : List ℕ) × Prints (g.K.Sink.seen l.initial.sink) l.initial.out (g.K.Sink.seen l.sink) l.out printed
    × (printed ++ statements_text l.conn (waiting_of l.hearing) (drop l.entry-index l.entries) ≡ statements_text l.conn idle l.entries)

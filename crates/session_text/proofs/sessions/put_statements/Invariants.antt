use Rattle.std.proofs.Common.{◌≡◌, ◌++◌, ℕ, List, drop}
use Rattle.session_text.specs.Text.{silence, statements_text}
use Rattle.session_text.specs.Hearing.{hearing_of}
use Rattle.journal_text.specs.Printing.{Prints}
use Rattle.session_text.proofs.sessions.put_statements.Given as goal

abbrev pub invariant-loop-entry : goal.invariant-loop-entry
invariant-loop-entry g l =
    (printed : List ℕ) × Prints (g.K.Sink.seen l.initial.sink) l.initial.out (g.K.Sink.seen l.sink) l.out printed
    × (printed ++ statements_text l.conn (hearing_of l.hearing) (drop l.entry-index l.entries) ≡ statements_text l.conn silence l.entries)

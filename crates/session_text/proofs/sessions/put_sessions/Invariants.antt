use Rattle.std.proofs.Common.{◌≡◌, ◌++◌, ◌+◌, ◌-◌, ℕ, List}
use Rattle.session_text.specs.Text.{connections_text}
use Rattle.journal_text.specs.Printing.{Prints}
use Rattle.session_text.proofs.sessions.put_sessions.Given as goal

abbrev pub invariant-loop-conn : goal.invariant-loop-conn
invariant-loop-conn g l =
    (printed : List ℕ) × Prints (g.K.Sink.seen l.initial.sink) l.initial.out (g.K.Sink.seen l.sink) l.out printed
    × (printed ++ connections_text l.entries (l.conn + 1) (l.conns - l.conn) ≡ connections_text l.entries 1 l.conns)

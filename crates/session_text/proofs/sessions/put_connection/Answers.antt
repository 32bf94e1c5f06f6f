use Rattle.std.proofs.Common.{◌≡◌, ◌++◌, ℕ, subst, arith}
use Rattle.std.specs.Prelude.{codes}
use Rattle.journal_model.specs.Text.{counted}
use Rattle.session_text.specs.Text.{silence, statements_text}
use Rattle.journal_text.specs.Printing.{Prints}
use Rattle.journal_text.proofs.Sending.{prints-then}
use Rattle.session_text.proofs.sessions.put_connection.Goals as goal

pub returns : goal.returns
returns g c =
    let same : c.from.result ≡ c.args.conn = omega arith in
    subst (λ (n : ℕ). Prints (g.K.Sink.seen c.args.sink.now) c.args.out.now (g.K.Sink.seen c.put_statements.new.sink) c.put_statements.new.out
    (counted (codes "## connection ") n ++ statements_text c.args.conn silence c.args.entries.now)) same
    (prints-then _ _ _ _ _ _ _ _ c.put_counted.ensures c.put_statements.ensures)

use Rattle.std.proofs.Common.{◌++◌, ◌+◌}
use Rattle.session_text.specs.Text.{connection_text}
use Rattle.session_text.proofs.HearingLemmas.{connection-more}
use Rattle.journal_text.proofs.Sending.{prints-then}
use Rattle.session_text.proofs.sessions.put_sessions.Goals as goal

pub loop-conn-preserved : goal.loop-conn-preserved
loop-conn-preserved g c =
    let h = c.loop-conn.invariant in (
      h.0 ++ connection_text c.args.entries.now (c.loop-conn.conn + 1),
      prints-then _ _ _ _ _ _ h.0 _ h.1 c.put_connection.ensures,
      connection-more h.0 _ c.args.entries.now c.loop-conn.conn c.args.conns c.loop-conn-test.true h.2,
    )

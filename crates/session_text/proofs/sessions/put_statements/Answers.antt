use Rattle.std.proofs.Common.{◌++◌}
use Rattle.session_text.specs.Text.{printed_at}
use Rattle.session_text.specs.Hearing.{hearing_of}
use Rattle.session_text.proofs.HearingLemmas.{heard-more}
use Rattle.journal_text.proofs.Sending.{prints-then}
use Rattle.session_text.proofs.sessions.put_statements.Goals as goal

pub loop-entry-preserved : goal.loop-entry-preserved
loop-entry-preserved g c =
    let h = c.loop-entry.invariant in
    let w = hearing_of c.loop-entry.hearing in
    let e = c.entry-item.result in (
      h.0 ++ printed_at c.args.conn w e,
      prints-then _ _ _ _ _ _ h.0 _ h.1 c.put_entry.ensures,
      heard-more h.0 _ c.args.conn w _ c.args.entries.now c.loop-entry.entry-index e c.loop-entry-test.true c.entry-item.is c.after-hearing.ensures h.2,
    )

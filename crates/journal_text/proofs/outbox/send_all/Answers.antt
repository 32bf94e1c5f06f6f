use Rattle.std.proofs.Common.{◌<◌, arith}
use Rattle.journal_text.proofs.Sending.{took-next, within-next}
use Rattle.journal_text.proofs.outbox.send_all.Goals as goal

pub loop-at-preserved : goal.loop-at-preserved
loop-at-preserved g c =
    let some : 0 < c.in-Ok.n = omega arith in
    record {
      took = took-next _ _ _ c.args.piece.now c.loop-at.at c.in-Ok.n c.loop-at.invariant.took c.in-Ok.ensures some;
      within = within-next _ _ c.args.piece.now c.loop-at.at c.in-Ok.n c.loop-at.invariant.within c.in-Ok.ensures;
    }

use Rattle.std.proofs.Common.{refl}
use Rattle.journal_text.proofs.Sending.{prints-next}
use Rattle.journal_text.proofs.outbox.Outbox.put.Goals as goal

pub loop-byte-preserved : goal.loop-byte-preserved
loop-byte-preserved g c =
    prints-next _ _ _ _ _ _ _ c.args.piece.now c.loop-byte.byte-index _ c.loop-byte-test.true refl c.loop-byte.invariant c.make_room.ensures.prints c.take.ensures.pending c.take.ensures.same

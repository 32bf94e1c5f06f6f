use Rattle.std.proofs.Common.{Bool, sym, subst}
use Rattle.std.specs.Prelude.{not}
use Rattle.journal_text.specs.Printing.{Sends}
use Rattle.journal_text.proofs.Sending.{sends-all}
use Rattle.journal_text.proofs.outbox.send.Goals as goal

pub returns : goal.returns
returns g c =
    subst (λ (f : Bool). Sends f (g.K.Sink.seen c.args.sink.now) (not c.send_all.result) (g.K.Sink.seen c.send_all.new.sink) c.args.piece.now) (sym c.if-failed.false)
    (sends-all c.send_all.result _ _ c.args.piece.now c.send_all.ensures.all c.send_all.ensures.front)

use Rattle.std.proofs.Common.{arith}
use Rattle.slotted_page.proofs.EditLemmas.{exchanged-put_mid}
use Rattle.slotted_page.proofs.edit.exchange.Goals as goal

pub returns : goal.returns
returns c =
    record {
      exact = exchanged-put_mid c.args.b.now c.rotate_left.new.self c.args.from c.args.mid c.args.to c.requires.first c.requires.second (omega (arith, c.requires.inside, c.told-b)) c.rotate_left.ensures.after;
    }

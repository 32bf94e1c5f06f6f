use Rattle.std.proofs.Common.{arith}
use Rattle.slotted_page.proofs.EditLemmas.{clear_written}
use Rattle.slotted_page.proofs.edit.clear.Goals as goal

pub returns : goal.returns
returns c = record { exact = clear_written c.args.b.now c.fill.new.self c.args.from c.args.to c.requires.first (omega (arith, c.requires.inside, c.told-b)) (c.fill.ensures.after (λ y h. h)) }

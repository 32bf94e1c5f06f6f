use Rattle.std.proofs.Common.{arith}
use Rattle.slotted_page.proofs.EditLemmas.{entry_written}
use Rattle.slotted_page.proofs.edit.put_entry.Goals as goal

pub returns : goal.returns
returns c = record { exact = entry_written c.args.b.now c.put_u16.new.b c.put_u16-2.new.b c.args.at c.args.start c.args.len (omega (arith, c.requires, c.told-b)) c.put_u16.ensures.exact c.put_u16-2.ensures.exact }

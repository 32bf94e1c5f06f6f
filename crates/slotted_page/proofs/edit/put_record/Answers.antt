use Rattle.std.proofs.Common.{arith}
use Rattle.slotted_page.proofs.EditLemmas.{record_written}
use Rattle.slotted_page.proofs.edit.put_record.Goals as goal

pub returns : goal.returns
returns c = record { exact = record_written c.args.b.now c.overwrite.new.b c.overwrite-2.new.b c.args.bytes.now c.args.at c.args.flags (omega (arith, c.requires, c.told-b)) c.overwrite.ensures.exact c.overwrite-2.ensures.exact }

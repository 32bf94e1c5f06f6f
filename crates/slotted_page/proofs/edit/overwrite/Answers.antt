use Rattle.slotted_page.proofs.EditLemmas.{overwritten-put_mid}
use Rattle.slotted_page.proofs.edit.overwrite.Goals as goal

pub returns : goal.returns
returns c = record { exact = overwritten-put_mid c.args.b.now c.copy_from_slice.new.self c.args.bytes.now c.args.at c.copy_from_slice.ensures.after }

use Rattle.log_records.proofs.ByteLemmas.{byte-number}
use Rattle.log_records.proofs.field.get_byte.Goals as goal

pub returns : goal.returns
returns c = byte-number c.args.b.now c.args.at

use Rattle.log_records.proofs.ByteLemmas.{put_mid-bytes}
use Rattle.log_records.proofs.field.put_bytes.Goals as goal

pub returns : goal.returns
returns c = put_mid-bytes c.args.b.now c.copy_from_slice.new.self c.args.bytes.now c.args.at c.copy_from_slice.ensures.after

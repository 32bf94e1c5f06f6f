use Rattle.device_mem.proofs.Pasting.{put_mid-bytes}
use Rattle.device_mem.proofs.segments.paste.Goals as goal

pub returns : goal.returns
returns c = put_mid-bytes c.args.bytes.now c.copy_from_slice.new.self c.args.from.now c.args.at c.copy_from_slice.ensures.after
